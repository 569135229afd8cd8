-- `descriptor::kind::program_length` meets its contract: a full last sector or not, and then sums, which omega compares with the definition. Assumes nothing.
use mathlib.Core.Path.{◌≡◌}
use Prim.Native.Nat.{◌+◌, ◌-◌, ◌*◌}
use native.Mathlib.Omega.{arith}
use Rattle.rules.specs.Kind.{program_length}
use Rattle.rules.proofs.Length.{length_full, length_part}
use Rattle.descriptor.proofs.kind.program_length.Goals as goal
use Rattle.descriptor.proofs.kind.program_length.Goals.{Else-end_offset-eq0}

pub returns-then-end_offset-eq0 : goal.returns-then-end_offset-eq0
returns-then-end_offset-eq0 c = let a = c.args in omega (arith, length_full a.c a.end_offset c.if-end_offset-eq0.true)

-- the last sector is not full, with no sector or with some
part_length : (c : Else-end_offset-eq0) → let a = c.args in program_length a.c a.end_offset ≡ 256 * (a.c - 1) + a.end_offset
part_length c = let a = c.args in length_part a.c a.end_offset c.if-end_offset-eq0.false

pub returns-then-sectors-eq0 : goal.returns-then-sectors-eq0
returns-then-sectors-eq0 c = omega (arith, part_length (goal.at.returns-then-sectors-eq0 c).Else-end_offset-eq0)

pub returns : goal.returns
returns c = omega (arith, part_length (goal.at.returns c).Else-end_offset-eq0)

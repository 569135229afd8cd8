use mathlib.Core.Path.{◌≡◌}
use Prim.Native.Nat.{◌+◌, ◌*◌, ◌≤◌}
use lib.ListN.{length}
use Rattle.rules.specs.Map.{free_count}
use Rattle.map.proofs.FreeSteps.{zeros_from}
use Rattle.map.proofs.free.free_count_of.Given as goal

abbrev pub invariant-loop-byte : goal.invariant-loop-byte
invariant-loop-byte l = (l.byte-index ≤ length l.byte-items) × (length l.byte-items ≤ 200) × (l.taken ≤ 8 * l.byte-index) × (free_count l.sector0 + l.taken ≡ 8 * l.byte-index + zeros_from l.sector0 l.byte-index)

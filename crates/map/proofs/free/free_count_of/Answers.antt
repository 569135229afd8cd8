-- `map::free::free_count_of` meets its contract. The loop's invariant: the free count and the one bits of the bytes of the map so far are all the bits of these bytes and the zero bits of
-- the others. Assumes nothing.
use Prim.Native.Nat.{◌≤◌, ◌<◌}
use native.Mathlib.Omega.{arith}
use lib.Count.{ones, ones-le}
use Rattle.rules.specs.Bytes.{byte_at}
use Rattle.rules.specs.Map.{free_count}
use Rattle.rules.proofs.Bytes.{part_short}
use Rattle.map.proofs.FreeSteps.{zeros_step, zeros_end}
use Rattle.map.proofs.free.free_count_of.Goals as goal
use Rattle.map.proofs.free.free_count_of.Goals.{In-loop-byte}

-- the byte of the map that the loop has come to
module _ (c : In-loop-byte) where
  small : byte_at c.part-byte-items.result.now c.loop-byte.byte-index < 256
  small = omega (arith, c.type_inv.byte-items c.loop-byte.byte-index)

  few : ones (byte_at c.part-byte-items.result.now c.loop-byte.byte-index) ≤ 8
  few = ones-le 8 _ small

pub loop-byte-init : goal.loop-byte-init
unfolding free_count
loop-byte-init c = (omega arith, rw c.part-byte-items.ensures (part_short c.args.sector0.now 56 200), omega arith, omega arith)

pub overflow_add-taken : goal.overflow_add-taken
overflow_add-taken c = record { fits = omega (arith, few (goal.at.overflow_add-taken c).In-loop-byte) }

pub loop-byte-preserved : goal.loop-byte-preserved
loop-byte-preserved c =
    let l = c.loop-byte in
    let map = c.part-byte-items.ensures in
    let here = (goal.at.loop-byte-preserved c).In-loop-byte in
    let step = zeros_step c.args.sector0.now l.byte-index (omega arith) (rw map at (small here)) in
    (omega arith, omega arith, omega (arith, few here), omega (arith, rw (← map) at step))

pub returns : goal.returns
returns c =
    let whole = zeros_end c.args.sector0.now c.loop-byte.byte-index (rw (← c.part-byte-items.ensures) (omega arith)) in
    (omega (arith, whole), omega arith)

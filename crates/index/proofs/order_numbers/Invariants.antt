use Prim.Native.Nat.{◌*◌}
use Rattle.index.proofs.Ordering.{Ordering}
use Rattle.index.proofs.order_numbers.Given as goal

abbrev pub invariant-loop-place : goal.invariant-loop-place
invariant-loop-place l = Ordering l.image l.initial.index (2 * l.place) l.index

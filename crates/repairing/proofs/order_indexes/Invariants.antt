use Prim.Native.Nat.{◌≤◌}
use Rattle.repairing.proofs.Going.{Going}
use Rattle.repairing.proofs.order_indexes.Given as goal

abbrev pub invariant-loop-directory : goal.invariant-loop-directory
invariant-loop-directory l = (l.many ≤ l.directory) × Going l.layout l.initial.image l.initial.changes l.directory l.many l.image l.changes

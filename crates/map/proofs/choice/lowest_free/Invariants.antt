use Prim.Native.Nat.{◌-◌, ◌≤◌}
use Rattle.map.proofs.SearchLaws.{Full}
use Rattle.map.proofs.choice.lowest_free.Given as goal

abbrev pub invariant-loop-k : goal.invariant-loop-k
invariant-loop-k l = (l.from ≤ l.k) × Full l.sector0 l.from l.k

abbrev pub decreases-loop-k : goal.decreases-loop-k
decreases-loop-k l = l.end - l.k

use Prim.Native.Nat.{◌-◌}
use Rattle.storing.proofs.Spreading.{Spreading}
use Rattle.storing.proofs.spread.Given as goal

abbrev pub invariant-loop : goal.invariant-loop
invariant-loop l = Spreading l.many l.initial.sector0 l.sector0 l.chain l.search l.tip (l.many - l.counter)

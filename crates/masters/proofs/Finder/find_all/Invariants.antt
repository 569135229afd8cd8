-- Every place in the table is before the next one.
use Rattle.sums.specs.Lent.{AllBelow}
use Rattle.masters.proofs.Finder.find_all.Given as goal

abbrev pub invariant-loop-own : goal.invariant-loop-own
invariant-loop-own l = AllBelow l.table l.own

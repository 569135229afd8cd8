use Rattle.packing.proofs.IndexSteps.{Numbered}
use Rattle.packing.proofs.system.lay_index.Given as goal

abbrev pub invariant-loop-number : goal.invariant-loop-number
invariant-loop-number l = Numbered l.first l.end l.index l.number

use Rattle.packing.proofs.LabelSteps.{Labelled}
use Rattle.packing.proofs.system.lay_label.Given as goal

abbrev pub invariant-loop-directory : goal.invariant-loop-directory
invariant-loop-directory l = Labelled l.layout l.source l.initial.target l.target l.number l.directory

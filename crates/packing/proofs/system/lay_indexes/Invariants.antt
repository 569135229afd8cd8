use Rattle.sector.specs.Directories.{indexes_from}
use Rattle.packing.proofs.IndexSteps.{Indexed}
use Rattle.packing.proofs.system.lay_indexes.Given as goal

abbrev pub invariant-loop-directory : goal.invariant-loop-directory
invariant-loop-directory l = Indexed l.layout l.source l.initial.target l.target l.next l.to (indexes_from l.layout l.source l.directory)

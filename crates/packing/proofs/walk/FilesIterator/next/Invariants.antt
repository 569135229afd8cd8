use mathlib.Core.Path.{◌≡◌}
use lib.ListN.{length}
use Rattle.sector.specs.Directories.{indexes_left}
use Rattle.packing.specs.Walk.{files_left}
use Rattle.packing.proofs.walk.FilesIterator.next.Given as goal

abbrev pub invariant-loop-k : goal.invariant-loop-k
invariant-loop-k l = files_left l.self ≡ files_left l.initial.self

abbrev pub decreases-loop-k : goal.decreases-loop-k
decreases-loop-k l = length (indexes_left l.self.indexes)

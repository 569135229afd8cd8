use mathlib.Core.Path.{◌≡◌}
use Prim.Native.Nat.{◌+◌}
use lib.ListN.{length}
use Rattle.rules.specs.Volume.{indexes, files_of}
use Rattle.sector.specs.Directories.{indexes_left}
use Rattle.summarizing.proofs.file_count.Given as goal

abbrev pub invariant-loop-i : goal.invariant-loop-i
invariant-loop-i l = l.files + length (files_of l.image (indexes_left l.i-iterator)) ≡ length (files_of l.image (indexes l.fn.layout l.image))

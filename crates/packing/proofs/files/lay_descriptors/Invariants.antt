use Prim.Native.Nat.{◌*◌}
use Rattle.packing.specs.Walk.{files_left}
use Rattle.packing.proofs.FileSteps.{Described}
use Rattle.packing.proofs.files.lay_descriptors.Given as goal

abbrev pub invariant-loop-k : goal.invariant-loop-k
invariant-loop-k l = Described l.fn.layout l.source l.initial.target l.target (256 * l.first) l.fn.behind (files_left l.k-iterator) l.start l.to

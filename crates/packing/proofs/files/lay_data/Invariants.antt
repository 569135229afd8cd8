use Prim.Native.Nat.{◌*◌}
use Rattle.packing.specs.Walk.{files_left}
use Rattle.packing.proofs.FileSteps.{Joined}
use Rattle.packing.proofs.files.lay_data.Given as goal

abbrev pub invariant-loop-k : goal.invariant-loop-k
invariant-loop-k l = Joined l.fn.layout l.source l.initial.target l.target (256 * l.behind) (files_left l.k-iterator) l.to

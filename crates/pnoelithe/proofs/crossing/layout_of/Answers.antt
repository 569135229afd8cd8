-- `pnoelithe::crossing::layout_of` meets its contract: the two lowest bits as the code reads them. Assumes nothing.
use native.Mathlib.Nat.{div-one}
use Rattle.pnoelithe.specs.Crossing.{layout_of}
use Rattle.pnoelithe.proofs.crossing.layout_of.Goals as goal

pub returns : goal.returns
unfolding layout_of
returns c = rw (div-one c.args.bits)

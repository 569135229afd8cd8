-- `pnoelithe::pno_pack` meets its contract: what the call answers crosses as its number. Assumes nothing.
use Rattle.pnoelithe.proofs.pno_pack.Goals as goal

pub returns : goal.returns
returns c = rw (← c.layout_of.ensures) (c.answer_number.ensures.0 _ c.pack.ensures.answer_says, c.pack.ensures.target_after)

-- `pnoelithe::pno_free_count` meets its contract: what the call answers crosses as its number, and the count behind its pointer. Assumes nothing.
use Rattle.pnoelithe.proofs.pno_free_count.Goals as goal

pub returns : goal.returns
returns c =
    rw (← c.layout_of.ensures) (c.amount_number.ensures.0 _ c.free_count.ensures)

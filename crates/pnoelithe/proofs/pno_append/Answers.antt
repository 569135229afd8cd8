-- `pnoelithe::pno_append` meets its contract: what the call answers crosses as its number, the place where the name is wrong behind its pointer, and the order of its writes. Assumes nothing.
use Rattle.pnoelithe.proofs.Crossings.{writing_crosses}
use Rattle.pnoelithe.proofs.pno_append.Goals as goal

pub returns : goal.returns
returns c =
    let both = writing_crosses _ _ _ _ _ _ _ _ _ _ (c.append.ensures.meets, c.append.ensures.order) c.list_none.ensures (c.named_number.ensures _ _) in
    record { image = rw (← c.layout_of.ensures) both.0; wrong = both.1.0; changes = rw (← c.layout_of.ensures) both.1.1 }

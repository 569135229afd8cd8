-- `pnoelithe::pno_rename` meets its contract: what the call answers crosses as its number, which name is wrong and where behind their pointers, and the order of its writes. Assumes nothing.
use Rattle.pnoelithe.proofs.Crossings.{writing_crosses}
use Rattle.pnoelithe.proofs.pno_rename.Goals as goal

pub returns : goal.returns
returns c =
    let crossed = writing_crosses _ _ _ _ _ _ _ _ _ _ (c.rename.ensures.meets, c.rename.ensures.order) c.list_none.ensures (c.rename_number.ensures _ _ _) in
    record { image = rw (← c.layout_of.ensures) crossed.0; which = crossed.1.0.0; wrong = crossed.1.0.1; changes = rw (← c.layout_of.ensures) crossed.1.1 }

-- `pnoelithe::pno_read` meets its contract: what the call answers crosses as its number, and the place where the name is wrong behind its pointer. Assumes nothing.
use Rattle.pnoelithe.proofs.Crossings.{reading_crosses}
use Rattle.pnoelithe.proofs.pno_read.Goals as goal

pub returns : goal.returns
returns c =
    let both = reading_crosses _ _ _ _ _ _ _ (c.named_number.ensures _ _) c.read.ensures in
    record { bytes = rw (← c.layout_of.ensures) both.0; wrong = both.1 }

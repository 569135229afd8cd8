-- `pnoelithe::pno_format` meets its contract: what the call answers crosses as its number, and the place where the name is wrong behind its pointer. Assumes nothing.
use Rattle.pnoelithe.proofs.pno_format.Goals as goal

pub returns : goal.returns
returns c =
    let crossed = c.named_number.ensures _ _ c.format.ensures.named_says in
    record { image = (crossed.0, c.format.ensures.image_after); wrong = crossed.1 }

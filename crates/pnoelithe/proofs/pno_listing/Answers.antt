-- `pnoelithe::pno_listing` meets its contract: what the call answers crosses as its number, and the length behind its pointer. Assumes nothing.
use Rattle.pnoelithe.proofs.pno_listing.Goals as goal

pub returns : goal.returns
returns c =
    let called = c.listing.ensures in
    let crossed = c.amount_number.ensures.0 _ called.said in
    record { bytes = rw (← c.layout_of.ensures) (record { returned = crossed.returned; left = called.left }); size = rw (← c.layout_of.ensures) (crossed) }

-- `pnoelithe::pno_load` meets its contract: what the call answers crosses as its number, and the length and the place where the name is wrong behind their pointers. Assumes nothing.
use Rattle.pnoelithe.proofs.pno_load.Goals as goal

pub returns : goal.returns
returns c =
    let called = c.load.ensures in
    let crossed = c.named_amount_number.ensures _ _ called.said in
    record {
      bytes = rw (← c.layout_of.ensures) (record { returned = crossed.0.returned; left = called.left });
      size = rw (← c.layout_of.ensures) crossed.0;
      wrong = crossed.1;
    }

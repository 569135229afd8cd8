-- `pnoelithe::pno_repair` meets its contract: what the call answers crosses as its number, and the order of its writes. Assumes nothing.
use Rattle.pnoelithe.proofs.Crossings.{listed_crosses}
use Rattle.pnoelithe.proofs.pno_repair.Goals as goal

pub returns : goal.returns
returns c =
    record {
      image = rw (← c.layout_of.ensures) (record { returned = c.answer_number.ensures.0 _ c.repair.ensures.meets.said; left = c.repair.ensures.meets.left });
      changes = rw (← c.layout_of.ensures) (listed_crosses _ _ _ _ c.list_none.ensures c.repair.ensures.order);
    }

-- `repairing::order_index` meets its contract: the index is made in name order, and then written. Assumes nothing.
use mathlib.Core.Path.{◌≡◌, sym, ap, ◌∙◌}
use lib.ListN.{length}
use Rattle.rules.specs.Bytes.{splice}
use Rattle.rules.specs.Index.{index_of}
use Rattle.rules.specs.Volume.{files_in}
use Rattle.rules.specs.Calls.Repair.{ordered}
use Rattle.rules.proofs.Indexed.{index_length}
use Rattle.repairing.proofs.order_index.Goals as goal
use Rattle.repairing.proofs.order_index.Goals.{After-in_order}

made : (c : After-in_order) → let a = c.args in c.in_order.new.index ≡ index_of (ordered a.image.now (files_in a.image.now a.i))
made c = rw c.from.ensures at (c.in_order.ensures.index_after (c.in_order.ensures.value ∙ rw c.from.ensures c.requires.3))

pub slice_bounds-write_sector-end : goal.slice_bounds-write_sector-end
slice_bounds-write_sector-end c = sym (ap length (made (goal.at.slice_bounds-write_sector-end c).After-in_order) ∙ index_length _)

pub returns : goal.returns
returns c =
    c.write_sector.ensures ∙ ap (splice _ _) (made (goal.at.returns c).After-in_order)

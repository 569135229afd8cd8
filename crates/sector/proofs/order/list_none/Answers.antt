-- `sector::order::list_none` meets its contract: a word set is a word laid there. Assumes nothing.
use Rattle.rules.proofs.Splice.{set-splice}
use Rattle.sector.proofs.order.list_none.Goals as goal

pub returns : goal.returns
returns c = set-splice _ _ _

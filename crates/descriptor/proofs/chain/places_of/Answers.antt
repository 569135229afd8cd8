-- `descriptor::chain::places_of` meets its contract: at the start all places are ahead. Assumes nothing.
use mathlib.Core.Path.{◌∙◌}
use Rattle.descriptor.proofs.Ahead.{at_first, same_ahead}
use Rattle.descriptor.proofs.chain.places_of.Goals as goal

pub returns-clause-all : goal.returns-clause-all
returns-clause-all c = same_ahead 0 0 0 _ _ c.blocks_of.ensures ∙ at_first _

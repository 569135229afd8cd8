-- `pnoelithe::crossing::named_amount_number` meets its contract: a case of the code for each case of the answer. Assumes nothing.
use mathlib.Core.Path.{refl}
use Rattle.rules.specs.Outcome.{NamedAmountSays}
use Rattle.pnoelithe.specs.Crossing.{behind_seven}
use Rattle.pnoelithe.proofs.Crossings.{given_crosses, told_loaded}
use Rattle.pnoelithe.proofs.crossing.named_amount_number.Goals as goal

pub returns-in-Ok : goal.returns-in-Ok
unfolding NamedAmountSays behind_seven
returns-in-Ok c misnamed report said = (given_crosses report _ _ (rw c.in-Ok.is at said), refl)

pub returns-in-Err : goal.returns-in-Err
returns-in-Err c misnamed report said = rw (c.named_refusal.ensures.0, c.named_refusal.ensures.1) (told_loaded misnamed report c.in-Err.refusal _ _ (rw c.in-Err.is at said))

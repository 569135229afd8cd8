-- `pnoelithe::crossing::named_number` meets its contract: a case of the code for each case of the answer. Assumes nothing.
use mathlib.Core.Path.{refl, sym}
use Rattle.rules.specs.Outcome.{NamedSays}
use Rattle.pnoelithe.specs.Crossing.{behind_seven}
use Rattle.pnoelithe.proofs.Crossings.{told_named}
use Rattle.pnoelithe.proofs.crossing.named_number.Goals as goal

pub returns-in-Ok : goal.returns-in-Ok
unfolding NamedSays behind_seven
returns-in-Ok c misnamed number said = (sym (rw c.in-Ok.is at said), refl)

pub returns-in-Err : goal.returns-in-Err
returns-in-Err c misnamed number said = rw (c.named_refusal.ensures.0, c.named_refusal.ensures.1) (told_named misnamed _ c.in-Err.refusal number (rw c.in-Err.is at said))

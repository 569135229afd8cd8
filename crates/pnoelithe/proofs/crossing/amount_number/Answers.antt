-- `pnoelithe::crossing::amount_number` meets its contract: a case of the code for each case of the answer. Assumes nothing.
use mathlib.Core.Path.{refl, ap, ◌∙◌}
use Rattle.rules.specs.Outcome.{AmountSays}
use Rattle.rules.specs.Refusal.{refusal_number}
use Rattle.rules.proofs.Refusals.{bare_said}
use Rattle.pnoelithe.proofs.Crossings.{given_crosses, refused_crosses, given_unrefused, one_refusal}
use Rattle.pnoelithe.proofs.crossing.amount_number.Goals as goal

pub returns-in-Ok : goal.returns-in-Ok
unfolding AmountSays
returns-in-Ok c = (λ report said. given_crosses report _ _ (rw c.in-Ok.is at said), λ refusal refused. absurd (given_unrefused _ _ refusal c.in-Ok.is refused))

pub returns-in-Err : goal.returns-in-Err
unfolding AmountSays
returns-in-Err c = (
  λ report said. rw c.from.ensures (refused_crosses report _ _ (bare_said _ report.number (rw c.in-Err.is at said))),
  λ refusal refused. (c.from.ensures ∙ ap refusal_number (one_refusal _ _ refusal c.in-Err.is refused), refl),
)

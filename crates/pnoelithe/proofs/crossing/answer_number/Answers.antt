-- `pnoelithe::crossing::answer_number` meets its contract: a case of the code for each case of the answer. Assumes nothing.
use mathlib.Core.Path.{sym, ap, ◌∙◌}
use Rattle.rules.specs.Outcome.{AnswerSays}
use Rattle.rules.specs.Refusal.{refusal_number}
use Rattle.rules.proofs.Refusals.{bare_said}
use Rattle.pnoelithe.proofs.Crossings.{given_unrefused, one_refusal}
use Rattle.pnoelithe.proofs.crossing.answer_number.Goals as goal

pub returns-in-Ok : goal.returns-in-Ok
unfolding AnswerSays
returns-in-Ok c = (λ number said. sym (rw c.in-Ok.is at said), λ refusal refused. absurd (given_unrefused _ _ refusal c.in-Ok.is refused))

pub returns-in-Err : goal.returns-in-Err
unfolding AnswerSays
returns-in-Err c =
    (λ number said. c.from.ensures ∙ (bare_said _ number (rw c.in-Err.is at said)).0, λ refusal refused. c.from.ensures ∙ ap refusal_number (one_refusal _ _ refusal c.in-Err.is refused))

-- `opening::find` meets its contract: the fault of an unsound volume, then the place where the name is wrong, and the search where it is nowhere. Assumes nothing.
use mathlib.Core.Path.{sym, ap, ◌∙◌}
use Rattle.rules.specs.Answers.Opened.{Refused}
use Rattle.rules.specs.Refusal.{opened}
use Rattle.rules.proofs.Opening.{open_unsound, open_wrong, open_looked}
use Rattle.rules.proofs.Refusals.{fault_some, err_is}
use Rattle.opening.proofs.find.Goals as goal

pub returns-in_err-judge : goal.returns-in_err-judge
returns-in_err-judge c =
    let fault = c.in_err-judge.ensures in
    ap opened (err_is c.from_residual.result _ c.from_residual.ensures.1)
    ∙ ap Refused fault
    ∙ sym (open_unsound _ _ _ _ (λ none. fault_some c.in_err-judge.field-0.0 (fault ∙ none)))

pub returns-in-Some : goal.returns-in-Some
returns-in-Some c = sym (open_wrong _ _ _ _ c.in-Some.place (sym c.in_ok-judge.ensures) (sym c.wrong_place.ensures ∙ c.in-Some.is))

pub returns-in-None : goal.returns-in-None
returns-in-None c = c.in_directory.ensures ∙ sym (open_looked _ _ _ _ (sym c.in_ok-judge.ensures) (sym c.wrong_place.ensures ∙ c.in-None.is))

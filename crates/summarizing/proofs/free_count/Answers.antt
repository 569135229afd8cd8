-- `summarizing::free_count` meets its contract: the judge's number, or the count of sector 0. Assumes nothing.
use mathlib.Core.Path.{sym, ap, ◌∙◌}
use Rattle.rules.specs.Map.{free_count}
use Rattle.rules.specs.Verdict.{verdict}
use Rattle.rules.specs.Outcome.{AmountSays}
use Rattle.rules.specs.Calls.Summary.{free_count_of}
use Rattle.rules.proofs.Tests.{unless_passed}
use Rattle.rules.proofs.Refusals.{fault_some, err_is}
use Rattle.summarizing.proofs.free_count.Goals as goal

pub returns-in_err-judge : goal.returns-in_err-judge
unfolding AmountSays free_count_of verdict
returns-in_err-judge c =
    let j = c.in_err-judge.ensures in
    rw (err_is c.from_residual.result _ c.from_residual.ensures.1) (j, λ z. fault_some c.in_err-judge.field-0.0 (j ∙ z))

pub returns : goal.returns
unfolding AmountSays free_count_of verdict
returns c =
    let whole = sym c.in_ok-judge.ensures in
    (whole, c.free_count_of.ensures.0 ∙ ap free_count c.sector_of.ensures ∙ sym (unless_passed _ _ 0 whole))

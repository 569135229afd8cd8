-- `listing::show` meets its contract: what the listing gave, or the line over a buffer that was left as it was. Assumes nothing.
use Rattle.rules.specs.Outcome.{AnswerSays, AmountSays}
use Rattle.rules.proofs.Refusals.{bare_said}
use Rattle.listing.proofs.Showing.{shown_given, shown_refused, number_given, number_refused}
use Rattle.listing.proofs.show.Goals as goal

pub returns-in-Ok-clause-size_value : goal.returns-in-Ok-clause-size_value
returns-in-Ok-clause-size_value c = shown_given _ c.args.image.now c.args.out.now c.in-Ok.ensures

pub returns-in-Ok-clause-number_value : goal.returns-in-Ok-clause-number_value
unfolding AnswerSays
returns-in-Ok-clause-number_value c = number_given _ c.args.image.now c.args.out.now c.in-Ok.ensures

pub returns-in-Err-clause-size_value : goal.returns-in-Err-clause-size_value
unfolding AmountSays
returns-in-Err-clause-size_value c =
    let gives = c.in-Err.ensures in
    let line = shown_refused _ c.args.image.now c.args.out.now (record { said = bare_said _ _ gives.said; left = gives.left }) in
    rw (← line.1, ← line.0, ← c.from.ensures) c.refused_line.ensures

pub returns-in-Err-clause-number_value : goal.returns-in-Err-clause-number_value
unfolding AnswerSays
returns-in-Err-clause-number_value c = number_refused _ c.args.image.now c.args.out.now c.in-Err.ensures

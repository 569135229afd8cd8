-- `packing::pack` meets its contract: each refusal gives the number of the first test that failed and leaves the target as it was. Assumes nothing.
use mathlib.Core.Path.{refl, sym, ◌∙◌}
use native.Mathlib.Omega.{arith}
use Rattle.rules.specs.Outcome.{AnswerSays}
use Rattle.rules.specs.Refusal.{fault_number}
use Rattle.rules.specs.Calls.Pack.{after_pack}
use Rattle.rules.specs.Answers.Answer.{Done, Refused}
use Rattle.rules.proofs.Verdict.{sound}
use Rattle.rules.proofs.Refusals.{fault_some, err_is}
use Rattle.rules.proofs.Outcome.{made_refused, made_done}
use Rattle.packing.proofs.PackedLaws.{unsound, misfit, fits}
use Rattle.packing.proofs.pack.Goals as goal

pub returns-in_err-judge : goal.returns-in_err-judge
unfolding after_pack AnswerSays
returns-in_err-judge c =
    let is = c.in_err-judge.ensures in
    let some = fault_some c.in_err-judge.field-0.0 in
    let both = made_refused AnswerSays (Refused (fault_number c.in_err-judge.field-0.0)) _ _ _ _ some (refl, some) (unsound _ _ _ (λ z. some (is ∙ z)) ∙ sym is) in
    record { answer_says = rw (err_is c.from_residual.result _ c.from_residual.ensures.1) both.0; target_after = both.1 }

pub write_packed-requires : goal.write_packed-requires
write_packed-requires c = (sound _ _ (sym c.in_ok-judge.ensures), c.if-target-source.false)

pub returns-then-target-source : goal.returns-then-target-source
unfolding after_pack AnswerSays
returns-then-target-source c =
    let both = made_refused AnswerSays (Refused 15) _ _ _ 15 (λ z. omega (arith, z)) (refl, λ z. omega (arith, z)) (misfit _ _ _ (sym c.in_ok-judge.ensures) c.if-target-source.true) in
    record { answer_says = both.0; target_after = both.1 }

pub returns : goal.returns
unfolding after_pack AnswerSays
returns c =
    let whole = made_done AnswerSays Done _ _ _ refl (fits _ _ _ (sym c.in_ok-judge.ensures) c.if-target-source.false) in
    record { answer_says = whole.0; target_after = c.write_packed.ensures ∙ whole.1 }

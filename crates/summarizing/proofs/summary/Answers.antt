-- `summarizing::summary` meets its contract: the judge's number, or the counts and the name of sector 0. Assumes nothing.
use mathlib.Core.Path.{◌≡◌, refl, sym, ap, ◌∙◌}
use mathlib.Core.List.{List, []}
use Prim.Native.Nat.{ℕ}
use Rattle.rules.specs.Bytes.{splice, part}
use Rattle.rules.specs.Map.{free_count}
use Rattle.rules.specs.Verdict.{verdict}
use Rattle.rules.specs.Calls.Summary.{summary_of, SummarySays}
use Rattle.rules.proofs.Tests.{unless_passed, unless_met_lem}
use Rattle.rules.proofs.Splice.{splice_none}
use Rattle.rules.proofs.Refusals.{fault_some, err_is}
use Rattle.summarizing.proofs.summary.Goals as goal

pub returns-in_err-judge : goal.returns-in_err-judge
unfolding SummarySays summary_of verdict
returns-in_err-judge c =
    let j = c.in_err-judge.ensures in
    let some : verdict c.args.layout c.args.image.now ≡ 0 → ⊥ = λ z. fault_some c.in_err-judge.field-0.0 (j ∙ z) in
    rw (err_is c.from_residual.result _ c.from_residual.ensures.1) (record { said = (j, some); left = sym (ap (splice _ 0) (unless_met_lem _ _ [] some) ∙ splice_none _ 0) })

pub returns : goal.returns
unfolding SummarySays summary_of verdict
returns c =
    let name = c.args.name.now in
    let whole = sym c.in_ok-judge.ensures in
    record {
      said = (
        whole,
        refl,
        c.file_count.ensures,
        c.free_count_of.ensures.0 ∙ ap free_count c.sector_of-sector0.ensures,
      );
      left = c.lay.ensures ∙ ap (splice name 0) (c.part.ensures ∙ ap (λ (l : List ℕ). part l 0 10) c.sector_of-sector0.ensures ∙ sym (unless_passed _ _ [] whole));
    }

-- `mend::mend_received` meets its contract: by what the judge says of the image, and where it is not sound by what repair answers and leaves in the part of the buffer that is lent to it.
-- Assumes nothing.
use mathlib.Core.Path.{◌≡◌, ap, subst, ◌∙◌}
use mathlib.Core.Bool.{false}
use Rattle.std.specs.Prelude.{Option, is_ok}
use Prim.Native.Nat.{ℕ, ◌≤◌}
use lib.ListN.{length}
use Rattle.rules.specs.Bytes.{part}
use Rattle.rules.specs.Verdict.{verdict}
use Rattle.rules.specs.Outcome.{AnswerSays}
use Rattle.input.specs.Filled.{Filled}
use Rattle.mend.proofs.MendingLaws.{judged_fault, judged_mark, mended_fate, refused_fate, mended_over_lem, mended_now}
use Rattle.mend.proofs.mend_received.Goals as goal
use Rattle.mend.proofs.mend_received.Goals.{After-judge-judged, After-repair}

-- what was judged is what was read
judged_is : (c : After-judge-judged) → verdict c.args.layout c.part.result.now ≡ verdict c.args.layout (part c.args.buffer.now 0 c.in-Some.length)
judged_is c = ap (verdict c.args.layout) c.part.ensures

inside : (c : After-judge-judged) → c.in-Some.length ≤ length c.args.buffer.now
inside c = (subst (λ (r : Option ℕ). Filled r c.args.buffer.now) c.in-Some.is c.requires).0

faulty : (c : After-repair) → verdict c.args.layout (part c.args.buffer.now 0 c.in-Some.length) ≡ 0 → ⊥
faulty c none =
    let other : is_ok c.judge-judged.result ≡ false = cc in
    judged_fault c.judge-judged.result other (c.judge-judged.ensures ∙ judged_is (goal.at.After-repair c).After-judge-judged ∙ none)

pub returns-in-Ok-clause-mark_value : goal.returns-in-Ok-clause-mark_value
returns-in-Ok-clause-mark_value c = judged_mark _ _ _ c.in-Some.is _ _ c.judge-judged.ensures c.part.ensures

pub returns-in-Ok-clause-fate_value : goal.returns-in-Ok-clause-fate_value
unfolding AnswerSays
returns-in-Ok-clause-fate_value c = mended_fate _ _ _ c.in-Some.is (faulty (goal.at.returns-in-Ok-clause-fate_value c).After-repair) c.in-Ok.ensures.meets.said

pub returns-in-Ok-clause-buffer_after : goal.returns-in-Ok-clause-buffer_after
returns-in-Ok-clause-buffer_after c =
    let at = (goal.at.returns-in-Ok-clause-buffer_after c).After-repair in
    mended_over_lem _ _ _ c.in-Some.is (faulty at) (inside (goal.at.After-repair at).After-judge-judged) _ c.repair.ensures.meets.left c.repair.auto.image

pub returns-in-Ok-clause-sound_now : goal.returns-in-Ok-clause-sound_now
unfolding AnswerSays
returns-in-Ok-clause-sound_now c =
    let at = (goal.at.returns-in-Ok-clause-sound_now c).After-repair in
    mended_now _ _ _ c.in-Some.is (faulty at) (inside (goal.at.After-repair at).After-judge-judged) _ c.repair.ensures.meets.left c.repair.auto.image c.in-Ok.ensures.meets.said

pub returns-in-Err-clause-mark_value : goal.returns-in-Err-clause-mark_value
returns-in-Err-clause-mark_value c = judged_mark _ _ _ c.in-Some.is _ _ c.judge-judged.ensures c.part.ensures

pub returns-in-Err-clause-fate_value : goal.returns-in-Err-clause-fate_value
unfolding AnswerSays
returns-in-Err-clause-fate_value c = refused_fate _ _ _ c.in-Some.is (faulty (goal.at.returns-in-Err-clause-fate_value c).After-repair) c.in-Err.ensures.meets.said.1

pub returns-in-Err-clause-buffer_after : goal.returns-in-Err-clause-buffer_after
returns-in-Err-clause-buffer_after c =
    let at = (goal.at.returns-in-Err-clause-buffer_after c).After-repair in
    mended_over_lem _ _ _ c.in-Some.is (faulty at) (inside (goal.at.After-repair at).After-judge-judged) _ c.repair.ensures.meets.left c.repair.auto.image

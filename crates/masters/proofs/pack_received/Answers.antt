-- `masters::pack_received` meets its contract: what packing answers, by cases, and what it leaves in the part of the buffer that was lent to it. Assumes nothing.
use Rattle.std.proofs.Common.{◌≡◌, ℕ, ◌-◌, ◌≤◌, List, length, refl, ap, ◌∙◌, arith, le-ltb, lt-ltb}
use borrow.Rule.Slice.PartMut.{put_mid}
use Rattle.std.specs.Prelude.{Option, Some}
use Rattle.rules.specs.Bytes.{part, splice}
use Rattle.rules.specs.Outcome.{AnswerSays}
use Rattle.rules.specs.Calls.Pack.{pack_number, after_pack}
use Rattle.rules.specs.declared.Layout.{Layout}
use Rattle.rules.specs.Answers.Answer.{Answer, Refused}
use Rattle.rules.proofs.Bytes.{part_length}
use Rattle.rules.proofs.Splice.{put_back}
use Rattle.rules.proofs.Outcome.{says_answer}
use Rattle.rules.proofs.Refusals.{bare_said}
use Rattle.masters.specs.Packed.{master_by, master_of, packed_over}
use Rattle.masters.proofs.pack_received.Goals as goal

-- where there is room: by what packing answered and left of the image that was read
module _ (layout : Layout) (source packed : List ℕ) {received : Option ℕ} (count : ℕ) (gave : received ≡ Some count) (room : count ≤ length packed) {image : List ℕ} (is : image ≡ part source 0 count) where
  lent : count - 0 ≡ count
  lent = omega arith

  by_answer : (answer : Answer) → AnswerSays answer (pack_number layout image (part packed 0 (count - 0))) → master_by count answer ≡ master_of layout received source packed
  unfolding master_of
  by_answer answer said = rw (gave, le-ltb (length packed) count room) (ap (master_by count) (says_answer answer _ (rw (lent, is) at said)))

  laid_back : (after : List ℕ) → after ≡ after_pack layout image (part packed 0 (count - 0)) → length after ≡ length (part packed 0 (count - 0))
      → put_mid 0 (count - 0) packed after ≡ packed_over layout received source packed
  unfolding packed_over
  laid_back after left kept =
      rw (lent, gave, le-ltb (length packed) count room)
      (put_back packed after 0 count (rw lent at kept ∙ part_length packed 0 count (omega arith)) (omega arith) ∙ ap (splice packed 0) (rw (lent, is) at left))

pub returns-in_err-length-clause-value : goal.returns-in_err-length-clause-value
unfolding master_of
returns-in_err-length-clause-value c = rw (c.from_residual.ensures, c.in_err-length.was) refl

pub returns-in_err-length-clause-packed_after : goal.returns-in_err-length-clause-packed_after
unfolding packed_over
returns-in_err-length-clause-packed_after c = rw c.in_err-length.was refl

pub returns-then-length-packed-clause-value : goal.returns-then-length-packed-clause-value
unfolding master_of
returns-then-length-packed-clause-value c = rw (c.in_ok-length.was, lt-ltb (length c.args.packed.now) _ c.if-length-packed.true) refl

pub returns-then-length-packed-clause-packed_after : goal.returns-then-length-packed-clause-packed_after
unfolding packed_over
returns-then-length-packed-clause-packed_after c = rw (c.in_ok-length.was, lt-ltb (length c.args.packed.now) _ c.if-length-packed.true) refl

pub returns-in-Ok-clause-value : goal.returns-in-Ok-clause-value
unfolding master_by
returns-in-Ok-clause-value c =
    by_answer c.args.layout c.args.source.now c.args.packed.now c.in_ok-length.length c.in_ok-length.was c.if-length-packed.false c.part.ensures _ c.in-Ok.ensures.answer_says

pub returns-in-Ok-clause-packed_after : goal.returns-in-Ok-clause-packed_after
returns-in-Ok-clause-packed_after c =
    laid_back c.args.layout c.args.source.now c.args.packed.now c.in_ok-length.length c.in_ok-length.was c.if-length-packed.false c.part.ensures
    c.pack.new.target c.pack.ensures.target_after c.pack.auto.target

pub returns-in-Err-clause-value : goal.returns-in-Err-clause-value
unfolding master_by AnswerSays
returns-in-Err-clause-value c =
    by_answer c.args.layout c.args.source.now c.args.packed.now c.in_ok-length.length c.in_ok-length.was c.if-length-packed.false c.part.ensures (Refused _)
    (bare_said _ _ c.in-Err.ensures.answer_says)

pub returns-in-Err-clause-packed_after : goal.returns-in-Err-clause-packed_after
returns-in-Err-clause-packed_after c =
    laid_back c.args.layout c.args.source.now c.args.packed.now c.in_ok-length.length c.in_ok-length.was c.if-length-packed.false c.part.ensures
    c.pack.new.target c.pack.ensures.target_after c.pack.auto.target

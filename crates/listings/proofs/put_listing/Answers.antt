-- `listings::put_listing` meets its contract: there is room for any text, so what is shown is the listing of the image, and it is refused for a fault of the image alone. Assumes nothing.
use mathlib.Core.Path.{◌≡◌, refl, sym, ap, ◌∙◌}
use mathlib.Core.List.{List}
use Prim.Native.Nat.{ℕ, ◌+◌, ◌≤◌, ◌<◌}
use native.Mathlib.Omega.{arith}
use lib.ListN.{length}
use borrow.Author.Tests.{le-ltb}
use Rattle.std.specs.Prelude.{Result, Ok, Err}
use Rattle.rules.specs.Bytes.{byte_at, part, splice}
use Rattle.rules.specs.Verdict.{verdict}
use Rattle.rules.specs.Outcome.{AnswerSays}
use Rattle.rules.specs.Calls.Listing.{listing_of, listed, shown}
use Rattle.rules.specs.Refusal.{answered}
use Rattle.rules.specs.declared.Layout.{Layout}
use Rattle.rules.specs.declared.refusal.Refusal.{Refusal}
use Rattle.rules.proofs.Verdict.{verdict_small}
use Rattle.rules.proofs.Refusals.{bare_said}
use Rattle.console.specs.Mark.{number_digit, answer_digit}
use Rattle.listing.proofs.Showing.{is_listed, at_front}
use Rattle.listings.proofs.put_listing.Goals as goal

module _ (layout : Layout) (image text : List ℕ) (small : (i : ℕ) → byte_at image i < 256) (room : 4466 ≤ length text) where
  -- the answer says the judge's number, which has one digit
  digit_is : (said : Result (Unit {0}) Refusal) → AnswerSays (answered said) (listing_of layout image 0 (length text)).number → answer_digit said ≡ 48 + verdict layout image
  unfolding AnswerSays answer_digit number_digit
  digit_is (Ok done) says = let is = (is_listed layout image (length text) small room).number in omega (arith, is, says)
  digit_is (Err refusal) says =
      let is = (is_listed layout image (length text) small room).number in
      rw ((bare_said refusal _ says).0, is, le-ltb 6 (verdict layout image) (verdict_small layout image)) refl

  text_is : {after : List ℕ} {size : ℕ} → (size ≡ length (shown layout image (length text))) × (after ≡ splice text 0 (shown layout image (length text)))
      → (part after 0 size ≡ listed layout image) × ((size ≡ length (listed layout image)) × (after ≡ splice text 0 (listed layout image)))
  text_is put = let given = is_listed layout image (length text) small room in at_front text (listed layout image) put given.is given.fits

pub returns-clause-size_after : goal.returns-clause-size_after
returns-clause-size_after c =
    (text_is c.args.layout c.args.image.now c.args.text.now (λ i. omega (arith, c.type_inv.image i)) (omega (arith, c.requires)) c.show-shown.ensures.size_value).0

pub returns-clause-size_value : goal.returns-clause-size_value
returns-clause-size_value c =
    (text_is c.args.layout c.args.image.now c.args.text.now (λ i. omega (arith, c.type_inv.image i)) (omega (arith, c.requires)) c.show-shown.ensures.size_value).1

pub returns-clause-mark_value : goal.returns-clause-mark_value
returns-clause-mark_value c =
    c.mark_by.ensures ∙ digit_is c.args.layout c.args.image.now c.args.text.now (λ i. omega (arith, c.type_inv.image i)) (omega (arith, c.requires)) c.show-shown.result.verdict c.show-shown.ensures.number_value

-- What is shown of an image, by what `listing::listing` answers of the root; and where there is room for any text it is that of the image, whatever the room. Assumes nothing.
use mathlib.Core.Path.{◌≡◌, refl, sym, ap, ◌∙◌}
use mathlib.Core.List.{List, []}
use Prim.Native.Nat.{ℕ, ◌≤◌, ◌<◌}
use native.Mathlib.Omega.{arith}
use native.Mathlib.Decide.{ℕ_discrete}
use lib.ListN.{length, take, length-append}
use borrow.Author.Tests.{eq-eqb, ne_eqb}
use Rattle.rules.specs.Bytes.{byte_at, part, splice}
use Rattle.rules.specs.Volume.{index_at}
use Rattle.rules.specs.Verdict.{verdict}
use Rattle.rules.specs.Outcome.{Report, AmountSays, Gives}
use Rattle.rules.specs.Calls.Listing.{listing_text, listing_tests, listing_of, refused_line, listed, shown}
use Rattle.rules.specs.declared.Layout.{Layout}
use Rattle.rules.specs.Answers.Amount.{Given, Refused}
use Rattle.rules.proofs.Tests.{unless_passed, unless_met_lem}
use Rattle.rules.proofs.Splice.{splice_none, splice_front}
use Rattle.rules.proofs.Indexes.{root_at, root_indexed}
use Rattle.rules.proofs.Listing.{decimal_short, listing_room, listing_unsound, listing_fits}
use Rattle.rules.proofs.Verdict.{verdict_small}

-- the root's index is sector 1
module _ (layout : Layout) (image : List ℕ) where
  abbrev root_text : List ℕ
  root_text = listing_text layout image (index_at layout image 0)

  root_text_lem : root_text ≡ listing_text layout image 1
  root_text_lem = ap (listing_text layout image) (root_at layout image)

  root_there : index_at layout image 0 ≡ 0 → ⊥
  root_there none = omega (arith, none, root_at layout image)

-- by the two answers of the listing
module _ (layout : Layout) (image before : List ℕ) where
  abbrev report : Report
  report = listing_of layout image 0 (length before)

  shown_text : report.number ≡ 0 → shown layout image (length before) ≡ root_text layout image
  unfolding shown
  shown_text e = rw (eq-eqb report.number 0 e) (sym (root_text_lem layout image))

  shown_line : (report.number ≡ 0 → ⊥) → shown layout image (length before) ≡ refused_line report.number
  unfolding shown
  shown_line some = rw (ne_eqb report.number 0 some)

  pub shown_given : {size : ℕ} {after : List ℕ} → Gives AmountSays report (Given size) before after
      → (size ≡ length (shown layout image (length before))) × (after ≡ splice before 0 (shown layout image (length before)))
  unfolding AmountSays listing_of
  shown_given gave =
      let none = gave.said.0 in
      let text = shown_text none in (
        gave.said.1 ∙ unless_passed (listing_tests layout image 0 (length before)) (length (root_text layout image)) 0 none ∙ sym (ap length text),
        gave.left ∙ ap (splice before 0) (unless_passed (listing_tests layout image 0 (length before)) (root_text layout image) [] none ∙ sym text),
      )

  -- a refusal leaves the buffer, and the line goes over it
  pub shown_refused : {number : ℕ} {after : List ℕ} → Gives AmountSays report (Refused number) before after → (after ≡ before) × (refused_line number ≡ shown layout image (length before))
  unfolding AmountSays listing_of
  shown_refused gave =
      let some = gave.said.1 in (
        gave.left ∙ ap (splice before 0) (unless_met_lem (listing_tests layout image 0 (length before)) (root_text layout image) [] some) ∙ splice_none before 0,
        ap refused_line gave.said.0 ∙ sym (shown_line some),
      )

  -- the number in either case
  pub number_given : {size : ℕ} {after : List ℕ} → Gives AmountSays report (Given size) before after → report.number ≡ 0
  unfolding AmountSays
  number_given gave = gave.said.0

  pub number_refused : {number : ℕ} {after : List ℕ} → Gives AmountSays report (Refused number) before after → (number ≡ report.number) × (report.number ≡ 0 → ⊥)
  unfolding AmountSays
  number_refused gave = gave.said

-- the line of a refusal is short
pub refused_short : (number : ℕ) → number < 10 → length (refused_line number) ≤ 10
unfolding refused_line
refused_short number few = simp length-append (omega (arith, decimal_short 0 number few))

-- where there is room for any text
module _ (layout : Layout) (image : List ℕ) (room : ℕ) (small : (i : ℕ) → byte_at image i < 256) (wide : 4466 ≤ room) where
  pub record IsListed : Type 0 where
    pub is : shown layout image room ≡ listed layout image
    pub number : (listing_of layout image 0 room).number ≡ verdict layout image
    pub fits : length (listed layout image) ≤ room

  pub is_listed : IsListed
  unfolding listed shown
  is_listed =
      elim (ℕ_discrete (verdict layout image) 0) [
        | yes sound ↦
            let short = listing_room layout image 1 small sound (root_indexed layout image) in
            let given = listing_fits layout image 0 room sound (root_there layout image) (omega (arith, ap length (root_text_lem layout image))) in
            let t = eq-eqb (verdict layout image) 0 sound in
            record { is = rw (given, t); number = rw given (sym sound); fits = rw t (omega arith) }
        | no unsound ↦ record { is = rw (listing_unsound layout image 0 room unsound); number = rw (listing_unsound layout image 0 room unsound) refl; fits = rw (ne_eqb (verdict layout image) 0 unsound) (omega (arith, refused_short (verdict layout image) (omega (arith, verdict_small layout image)))) }
      ]

-- what was laid over a text that has room for it stands at its front
module _ (before : List ℕ) {bytes after : List ℕ} {size : ℕ} where
  pub at_front : (text : List ℕ) → (size ≡ length bytes) × (after ≡ splice before 0 bytes) → bytes ≡ text → length text ≤ length before
      → (part after 0 size ≡ text) × ((size ≡ length text) × (after ≡ splice before 0 text))
  at_front text put is room =
      let long = put.0 ∙ ap length is in
      let laid = put.1 ∙ ap (splice before 0) is in
      (ap (λ (n : ℕ). take n after) long ∙ ap (take (length text)) laid ∙ splice_front before text room, (long, laid))

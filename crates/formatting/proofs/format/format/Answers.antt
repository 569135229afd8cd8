-- `formatting::format::format` meets its contract: each refusal gives the number of the first test that failed, the tests before it having passed, with 7 the
-- place where the name is wrong, and leaves the image as it was. Assumes nothing.
use mathlib.Core.Path.{◌≡◌, refl, sym, ◌∙◌}
use mathlib.Core.Bool.{Bool, true, false}
use mathlib.Core.List.{List}
use Prim.Native.Nat.{ℕ}
use native.Mathlib.Omega.{arith}
use borrow.Author.Tests.{eq-eqb, ne_eqb, le-leb, lt-leb}
use Rattle.rules.specs.Sectors.{sector_count}
use Rattle.rules.specs.Name.{name_rule, wrong_place}
use Rattle.rules.specs.Verdict.{size_rule}
use Rattle.rules.specs.Tests.{first_of, unless_met}
use Rattle.rules.specs.Outcome.{NamedSays}
use Rattle.rules.specs.Calls.Format.{format_tests, format_number, after_format}
use Rattle.std.specs.Prelude.{Some}
use Rattle.rules.specs.Answers.NamedAnswer.{Done, Refused, Misnamed}
use Rattle.rules.proofs.Name.{name_is}
use Rattle.rules.proofs.Misnamed.{none_rule, place_wrong, wrong_unnamed}
use Rattle.rules.proofs.Outcome.{bare, made_refused, made_done}
use Rattle.std.proofs.Common.{rules}
use Rattle.formatting.proofs.format.format.Goals as goal
use Rattle.formatting.proofs.format.format.Goals.{Else-sectors-gt1600, In_default}

-- a name that is wrong somewhere breaks the rule
unruled : (name : List ℕ) (place : ℕ) → wrong_place name ≡ Some place → name_rule name ≡ false
unruled name place there = go (name_rule name) refl
  where
    go : (t : Bool) → name_rule name ≡ t → t ≡ false
    go true ruled = absurd (wrong_unnamed name place (place_wrong name place there) (name_is name ruled))
    go false broken = refl

-- which test gives which number
module _ (image : List ℕ) (n : ℕ) (name : List ℕ) where
  missized : size_rule image ≡ false → format_number image n name ≡ 1
  unfolding format_tests first_of
  missized e = rw e

  misasked : (n ≡ sector_count image → ⊥) → size_rule image ≡ true → format_number image n name ≡ 1
  unfolding format_tests first_of
  misasked other sized = rw (sized, ne_eqb n (sector_count image) other)

  misnamed : n ≡ sector_count image → size_rule image ≡ true → name_rule name ≡ false → format_number image n name ≡ 7
  unfolding format_tests first_of
  misnamed asked sized ruled = rw (sized, eq-eqb n (sector_count image) asked, ruled)

  passed : n ≡ sector_count image → size_rule image ≡ true → name_rule name ≡ true → format_number image n name ≡ 0
  unfolding format_tests first_of
  passed asked sized ruled = rw (sized, eq-eqb n (sector_count image) asked, ruled)

  refused : (whole : List ℕ) → format_number image n name ≡ 1
      → NamedSays (wrong_place name) (Refused 1) (format_number image n name) × (image ≡ unless_met (format_tests image n name) whole image)
  unfolding NamedSays
  refused whole e = made_refused (NamedSays (wrong_place name)) (Refused 1) (format_tests image n name) whole image 1 (λ z. omega (arith, z)) (bare 1 refl) e

pub returns-then-image-ne0 : goal.returns-then-image-ne0
unfolding size_rule after_format
returns-then-image-ne0 c = let both = refused _ _ _ _ (missized _ _ _ (rw (ne_eqb _ _ c.if-image-ne0.true))) in
    record { named_says = both.0; image_after = both.1 }

pub returns-then-sectors-lt3 : goal.returns-then-sectors-lt3
unfolding size_rule after_format
returns-then-sectors-lt3 c = let both = refused _ _ _ _ (missized _ _ _ (rw (eq-eqb _ _ c.if-image-ne0.false, lt-leb _ _ c.if-sectors-lt3.true))) in
    record { named_says = both.0; image_after = both.1 }

pub returns-then-sectors-gt1600 : goal.returns-then-sectors-gt1600
unfolding size_rule after_format
returns-then-sectors-gt1600 c = let both = refused _ _ _ _ (missized _ _ _ (rw (eq-eqb _ _ c.if-image-ne0.false, le-leb _ _ c.if-sectors-lt3.false, lt-leb _ _ c.if-sectors-gt1600.true))) in
    record { named_says = both.0; image_after = both.1 }

sized : (c : Else-sectors-gt1600) → size_rule c.args.image.now ≡ true
unfolding size_rule
sized c = rw (eq-eqb _ _ c.if-image-ne0.false, le-leb _ _ c.if-sectors-lt3.false, le-leb _ _ c.if-sectors-gt1600.false)

pub returns-in-Some : goal.returns-in-Some
unfolding after_format NamedSays
returns-in-Some c =
    let there = sym c.wrong_place.ensures ∙ c.in-Some.is in
    let both = made_refused (NamedSays _) (Misnamed _) _ _ _ 7 (λ z. omega (arith, z)) (refl, there) (misnamed _ _ _ c.if-n-sectors.false (sized (goal.at.returns-in-Some c).Else-sectors-gt1600) (unruled _ _ there)) in
    record { named_says = both.0; image_after = both.1 }

named : (c : In_default) → name_rule c.args.name.now ≡ true
named c = none_rule _ (sym c.wrong_place.ensures ∙ c.in_default.is)

pub write_volume-requires : goal.write_volume-requires
write_volume-requires c = (search rules, search rules, search rules, (name_is _ (named (goal.at.write_volume-requires c).In_default)).ten)

pub returns : goal.returns
unfolding after_format NamedSays
returns c =
    let whole = made_done (NamedSays (wrong_place c.args.name.now)) Done _ _ _ refl (passed _ _ _ c.if-n-sectors.false (sized (goal.at.returns c).Else-sectors-gt1600) (named (goal.at.returns c).In_default)) in
    record { named_says = whole.0; image_after = c.write_volume.ensures ∙ whole.1 }

pub returns-then-n-sectors : goal.returns-then-n-sectors
unfolding after_format
returns-then-n-sectors c = let both = refused _ _ _ _ (misasked _ _ _ c.if-n-sectors.true (sized (goal.at.returns-then-n-sectors c).Else-sectors-gt1600)) in
    record { named_says = both.0; image_after = both.1 }

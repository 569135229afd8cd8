-- `cataloguing::entry` meets its contract: each refusal gives the number of the first test that was met; the file's number stands in the directory's index at twice the place. Assumes nothing.
use mathlib.Core.Path.{◌≡◌, sym, ap, ◌∙◌}
use mathlib.Core.List.{List, [], ◌∷◌}
use Prim.Native.Nat.{ℕ, ◌<◌, ◌≤◌, ◌*◌}
use native.Mathlib.Omega.{arith}
use lib.Dec.{eqb, leb, ltb}
use lib.ListN.{length}
use borrow.Author.Tests.{eq-eqb, ne_eqb, le-leb, lt-leb, lt-ltb, le-ltb}
use Rattle.rules.specs.Bytes.{splice, part, word_at}
use Rattle.rules.specs.Sectors.{sector_of}
use Rattle.rules.specs.Volume.{index_at, files_in, header_in}
use Rattle.rules.specs.Tests.{Test, refuse, first_of}
use Rattle.rules.specs.Verdict.{verdict}
use Rattle.rules.specs.Sound.{SoundIndex}
use Rattle.rules.specs.Outcome.{AnswerSays, Gives}
use Rattle.rules.specs.Calls.Entry.{row_of, no_row, entry_tests, entry_at, entry_of, entry_row, EntrySays}
use Rattle.rules.specs.declared.Layout.{Layout}
use Rattle.rules.specs.Answers.Answer.{Done, Refused}
use Rattle.rules.specs.declared.Row.{Row}
use Rattle.rules.specs.Answers.Entry.{Entry}
use Rattle.rules.proofs.Tests.{unless_passed, unless_met_lem}
use Rattle.rules.proofs.Splice.{splice_none}
use Rattle.rules.proofs.Indexes.{directory_indexed}
use Rattle.rules.proofs.Verdict.{sound, unsound_first, sound_first}
use Rattle.rules.proofs.Opening.{place_none, place_some, place_many, file_low, file_long}
use Rattle.rules.proofs.Refusals.{fault_some, err_is, ok_there, err_absent}
use Rattle.sector.proofs.IndexLaws.{there_none, there_some}
use Rattle.cataloguing.proofs.entry.Goals as goal
use Rattle.cataloguing.proofs.entry.Goals.{After-word-k, Else-k-eq0, In_ok-i, In_ok-judge}

module _ (layout : Layout) (image : List ℕ) (directory place room : ℕ) where
  abbrev index : ℕ
  index = index_at layout image directory

  abbrev many : ℕ
  many = length (files_in image index)

  -- 8, twice, and 15, behind the tests of the volume
  abbrev own : List Test
  own = refuse 8 (eqb index 0) ∷ (refuse 8 (leb many place) ∷ (refuse 15 (ltb room 28) ∷ []))

  abbrev first : ℕ
  first = first_of (entry_tests layout image directory place room)

  unsound : (verdict layout image ≡ 0 → ⊥) → first ≡ verdict layout image
  unfolding entry_tests
  unsound some = unsound_first layout image own some

  module _ (whole : verdict layout image ≡ 0) where
    nowhere : index ≡ 0 → first ≡ 8
    unfolding entry_tests first_of
    nowhere none = sound_first layout image own whole ∙ rw (eq-eqb index 0 none)

    module _ (there : index ≡ 0 → ⊥) where
      no_file_lem : many ≤ place → first ≡ 8
      unfolding entry_tests first_of
      no_file_lem h = sound_first layout image own whole ∙ rw (ne_eqb index 0 there, le-leb many place h)

      short : place < many → room < 28 → first ≡ 15
      unfolding entry_tests first_of
      short h k = sound_first layout image own whole ∙ rw (ne_eqb index 0 there, lt-leb many place h, lt-ltb room 28 k)

      passed : place < many → 28 ≤ room → first ≡ 0
      unfolding entry_tests first_of
      passed h k = sound_first layout image own whole ∙ rw (ne_eqb index 0 there, lt-leb many place h, le-ltb room 28 k)

-- what is promised where a test is met, and where none is
module _ (layout : Layout) (image : List ℕ) (directory place : ℕ) (header : List ℕ) where
  abbrev tests : List Test
  tests = entry_tests layout image directory place (length header)

  abbrev Promised : Entry → List ℕ → Type 0
  Promised given after = Gives (EntrySays (entry_row layout image directory place (length header))) (entry_of layout image directory place (length header)) given header after

  refused : (number : ℕ) → first_of tests ≡ number → (number ≡ 0 → ⊥) → Promised (record { answer = Refused number; row = no_row }) header
  unfolding entry_of entry_row AnswerSays
  refused number e some =
      let met : first_of tests ≡ 0 → ⊥ = λ z. some (sym e ∙ z) in
      record {
        said = record { said = (sym e, met); row_is = sym (unless_met_lem _ _ no_row met) };
        left = sym (ap (splice header 0) (unless_met_lem _ _ [] met) ∙ splice_none header 0);
      }

  given : first_of tests ≡ 0 → (row : Row) → row ≡ row_of (sector_of image (entry_at layout image directory place)) → (after : List ℕ)
      → after ≡ splice header 0 (header_in image (entry_at layout image directory place)) → Promised (record { answer = Done; row = row }) after
  unfolding entry_of entry_row AnswerSays
  given e row is after laid =
      record {
        said = record { said = e; row_is = is ∙ sym (unless_passed _ _ no_row e) };
        left = laid ∙ ap (splice header 0) (sym (unless_passed _ _ [] e));
      }

-- the image is sound, and so is the index; the two bytes of it at the place; the file there
whole : (c : In_ok-judge) → verdict c.args.layout c.args.image.now ≡ 0
whole c = sym c.in_ok-judge.ensures

index_is : (c : In_ok-i) → let a = c.args in (c.in_ok-i.i ≡ index_at a.layout a.image.now a.directory) × (c.in_ok-i.i ≡ 0 → ⊥)
index_is c = there_some _ _ _ c.index_at.ensures (ok_there _ c.index_at.result c.in_ok-i.i c.in_ok-i.ensures.value)

there : (c : In_ok-i) → let a = c.args in index_at a.layout a.image.now a.directory ≡ 0 → ⊥
there c none = (index_is c).1 ((index_is c).0 ∙ none)

sound_index : (c : In_ok-i) → let a = c.args in SoundIndex a.layout a.image.now (index_at a.layout a.image.now a.directory)
sound_index c =
    let a = c.args in
    (sound a.layout a.image.now (whole (goal.at.In_ok-i c).In_ok-judge)).each _ (directory_indexed a.layout a.image.now a.directory (there c))

number_is : (c : After-word-k) →
    let a = c.args in
    word_at (sector_of a.image.now (index_at a.layout a.image.now a.directory)) (2 * a.place) ≡ c.word-k.result
number_is c = rw (← (index_is (goal.at.After-word-k c).In_ok-i).0, ← c.sector_of.ensures) (sym c.word-k.ensures)

found : (c : Else-k-eq0) →
    let a = c.args in
    (a.place < length (files_in a.image.now (index_at a.layout a.image.now a.directory))) × (entry_at a.layout a.image.now a.directory a.place ≡ c.word-k.result)
found c =
    let a = c.args in
    let at = place_some a.layout a.image.now _ a.place (sound_index (goal.at.Else-k-eq0 c).In_ok-i) (λ z. c.if-k-eq0.false (sym (number_is (goal.at.Else-k-eq0 c).After-word-k) ∙ z)) in
    (at.0, at.1 ∙ number_is (goal.at.Else-k-eq0 c).After-word-k)

pub returns-in_err-judge : goal.returns-in_err-judge
returns-in_err-judge c =
    let a = c.args in
    let fault = c.in_err-judge.ensures in
    let some = fault_some c.in_err-judge.field-0.0 in
    rw (err_is c.from_residual.result _ c.from_residual.ensures.1) (refused a.layout a.image.now a.directory a.place a.header.now _ (unsound _ _ _ _ _ (λ z. some (fault ∙ z)) ∙ sym fault) some)

pub returns-in_err-i : goal.returns-in_err-i
returns-in_err-i c =
    let a = c.args in
    let absent = err_absent _ c.index_at.result _ c.in_err-i.ensures.value in
    let none = there_none _ _ c.index_at.ensures absent.0 in
    rw (err_is c.from_residual-in_err-i.result _ c.from_residual-in_err-i.ensures.1, absent.1) (refused a.layout a.image.now a.directory a.place a.header.now 8 (nowhere _ _ _ _ _ (whole (goal.at.returns-in_err-i c).In_ok-judge) none) (λ z. omega (arith, z)))

pub returns-then-place-ge128 : goal.returns-then-place-ge128
returns-then-place-ge128 c =
    let a = c.args in
    let few = place_many a.layout a.image.now _ (sound_index (goal.at.returns-then-place-ge128 c).In_ok-i) in
    refused a.layout a.image.now a.directory a.place a.header.now 8 (no_file_lem _ _ _ _ _ (whole (goal.at.returns-then-place-ge128 c).In_ok-judge) (there (goal.at.returns-then-place-ge128 c).In_ok-i) (omega (arith, few, c.if-place-ge128.true))) (λ z. omega (arith, z))

pub returns-then-k-eq0 : goal.returns-then-k-eq0
returns-then-k-eq0 c =
    let a = c.args in
    let none = place_none a.layout a.image.now _ a.place (sound_index (goal.at.returns-then-k-eq0 c).In_ok-i) (number_is (goal.at.returns-then-k-eq0 c).After-word-k ∙ c.if-k-eq0.true) in
    refused a.layout a.image.now a.directory a.place a.header.now 8 (no_file_lem _ _ _ _ _ (whole (goal.at.returns-then-k-eq0 c).In_ok-judge) (there (goal.at.returns-then-k-eq0 c).In_ok-i) none) (λ z. omega (arith, z))

pub returns-then-header-lt28 : goal.returns-then-header-lt28
returns-then-header-lt28 c =
    let a = c.args in
    refused a.layout a.image.now a.directory a.place a.header.now 15 (short _ _ _ _ _ (whole (goal.at.returns-then-header-lt28 c).In_ok-judge) (there (goal.at.returns-then-header-lt28 c).In_ok-i) (found (goal.at.returns-then-header-lt28 c).Else-k-eq0).0 c.if-header-lt28.true) (λ z. omega (arith, z))

pub row_of-requires : goal.row_of-requires
row_of-requires c =
    let a = c.args in
    let low = file_low a.layout a.image.now _ a.place (sound_index (goal.at.row_of-requires c).In_ok-i) (found (goal.at.row_of-requires c).Else-k-eq0).0 in
    rw c.descriptor_of-descriptor.ensures (file_long a.layout a.image.now _ (sound _ a.image.now (whole (goal.at.row_of-requires c).In_ok-judge)) (omega (arith, (found (goal.at.row_of-requires c).Else-k-eq0).1, low)))

pub returns : goal.returns
unfolding header_in
returns c =
    let a = c.args in
    let read = c.descriptor_of-descriptor.ensures ∙ ap (sector_of a.image.now) (sym (found (goal.at.returns c).Else-k-eq0).1) in
    given a.layout a.image.now a.directory a.place a.header.now (passed _ _ _ _ _ (whole (goal.at.returns c).In_ok-judge) (there (goal.at.returns c).In_ok-i) (found (goal.at.returns c).Else-k-eq0).0 c.if-header-lt28.false) c.row_of.result (c.row_of.ensures ∙ ap row_of read) _
    (c.lay.ensures ∙ ap (splice a.header.now 0) (c.part.ensures ∙ ap (λ (l : List ℕ). part l 0 28) read))

-- `creating::create_new` meets its contract: each refusal gives the number of the first test that failed, the tests before it having passed.
-- Assumes nothing.
use mathlib.Core.Path.{◌≡◌, refl, sym, ap, subst, ◌∙◌}
use mathlib.Core.Bool.{true, false}
use mathlib.Core.List.{List, [], ◌∷◌}
use Prim.Native.Nat.{ℕ, ◌*◌, ◌≤◌, ◌<◌}
use native.Mathlib.Omega.{arith}
use lib.ListN.{length}
use borrow.Author.Tests.{le-ltb, lt-ltb, le-leb, lt-leb}
use borrow.Rule.Slice.PartMut.{put_mid}
use Rattle.rules.specs.Bytes.{word_at, part, splice}
use Rattle.rules.specs.Sectors.{sector_of, sector_count, sectors_in, written}
use Rattle.rules.specs.Map.{free_count, marked}
use Rattle.rules.specs.Kind.{marking}
use Rattle.rules.specs.Descriptor.{new_descriptor}
use Rattle.rules.specs.Volume.{files_in}
use Rattle.rules.specs.Choice.{descriptor_choice}
use Rattle.rules.specs.Sound.{SoundIndex, Sound}
use Rattle.rules.specs.Tests.{first_of, unless_met}
use Rattle.rules.specs.Outcome.{write, done, refusal}
use Rattle.rules.specs.Calls.Create.{create_status, entered, create_tests, creating}
use Rattle.rules.specs.Calls.Store.{data_writes}
use Rattle.rules.specs.declared.Layout.{Layout}
use Rattle.rules.proofs.Splice.{splice-length, put_back}
use Rattle.rules.proofs.Name.{name_is}
use Rattle.rules.proofs.Descriptor.{new_length}
use Rattle.rules.proofs.Written.{sector_other}
use Rattle.rules.proofs.Map.{only_one}
use Rattle.rules.proofs.Listed.{label_long}
use Rattle.rules.proofs.Marking.{marked-length}
use Rattle.rules.proofs.Choice.{Chosen, sound_fenced, descriptor_choice_free}
use Rattle.rules.proofs.Outcome.{order_laid, refusal_meets, done_meets}
use Rattle.rules.proofs.Opening.{place_none, place_some}
use Rattle.index.proofs.Entered.{written-entered}
use Rattle.std.proofs.Common.{rules}
use Rattle.creating.proofs.create_new.Goals as goal
use Rattle.creating.proofs.create_new.Goals.{After-descriptor_choice-k, After-free_count_of, After-word, Else-not-create_status, Start}

-- which test gives which number; place 126, the last but one, is that of a 127th file of the index
module _ (layout : Layout) (image name : List ℕ) (status record_length records_per_sector i : ℕ) where
  misasked : create_status status ≡ false → creating layout image name status record_length records_per_sector i ≡ refusal 15
  unfolding creating create_tests first_of unless_met
  misasked e = rw e

  module _ (is : SoundIndex layout image i) (asked : create_status status ≡ true) where
    full : (word_at (sector_of image i) 252 ≡ 0 → ⊥) → creating layout image name status record_length records_per_sector i ≡ refusal 11
    unfolding creating create_tests first_of unless_met
    full some = rw (asked, le-leb 127 (length (files_in image i)) (place_some layout image i 126 is some).0)

    module _ (room : word_at (sector_of image i) 252 ≡ 0) where
      few : length (files_in image i) < 127
      few = omega (arith, place_none layout image i 126 is room)

      taken : free_count (sector_of image 0) ≡ 0 → creating layout image name status record_length records_per_sector i ≡ refusal 12
      unfolding creating create_tests first_of unless_met
      taken none = rw (asked, lt-leb 127 (length (files_in image i)) few, lt-ltb (free_count (sector_of image 0)) 1 (omega arith))

      passed : (free_count (sector_of image 0) ≡ 0 → ⊥) → (k : ℕ) → k ≡ descriptor_choice (sector_of image 0)
          → creating layout image name status record_length records_per_sector i ≡ done (entered image i name k (new_descriptor name (marking layout status) records_per_sector 0 record_length) (marked 1 (sector_of image 0) k))
      unfolding creating create_tests first_of unless_met
      passed some k chosen = rw (chosen, asked, lt-leb 127 (length (files_in image i)) few, le-ltb (free_count (sector_of image 0)) 1 (omega (arith, some)))

-- the descriptor is not in sector 0, so what is marked there is what stood there
marked_there : (layout : Layout) (image one sector0 descriptor : List ℕ) (k : ℕ) → Sound layout image → 2 ≤ k → length descriptor ≡ 256 → one ≡ splice image (256 * k) descriptor → sector0 ≡ marked 1 (part one 0 256) k
    → put_mid 0 256 one sector0 ≡ written image (write k descriptor ∷ (write 0 (marked 1 (sector_of image 0) k) ∷ []))
unfolding sector_of written
marked_there layout image one sector0 descriptor k is high long one-is marks =
    let same : part one 0 256 ≡ sector_of image 0 = ap (λ (l : List ℕ). sector_of l 0) one-is ∙ sector_other image k descriptor long 0 (λ e. omega (arith, e, high)) in
    let here : sector0 ≡ marked 1 (sector_of image 0) k = marks ∙ ap (λ (s : List ℕ). marked 1 s k) same in
    let size : length sector0 ≡ 256 = ap length here ∙ marked-length 1 (sector_of image 0) k ∙ label_long layout image is in
    put_back one sector0 0 256 size (omega (arith, ap length one-is, splice-length image (256 * k) descriptor, is.whole, is.size)) ∙ rw (one-is, here)

-- the index keeps its rules, and is a sector of the volume
listed : (c : Start) → SoundIndex c.args.layout c.args.image.now c.args.i
listed c = c.requires.0.each c.args.i c.requires.1

asked : (c : Else-not-create_status) → create_status c.args.status ≡ true
asked c = sym c.create_status.ensures ∙ c.if-not-create_status.false

last_is : (c : After-word) → let a = c.args in c.word.result ≡ word_at (sector_of a.image.now a.i) 252
last_is c = c.word.ensures ∙ ap (λ (s : List ℕ). word_at s 252) c.sector_of.ensures

free_is : (c : After-free_count_of) → c.free_count_of.result ≡ free_count (sector_of c.args.image.now 0)
free_is c = c.free_count_of.ensures.0 ∙ ap free_count c.sector_of-2.ensures

pub returns-then-not-create_status : goal.returns-then-not-create_status
returns-then-not-create_status c =
    let a = c.args in
    let s = c.create_status in
    let both = refusal_meets a.image.now _ (creating a.layout a.image.now a.name.now a.status a.record_length a.records_per_sector a.i) 15 refl
    (misasked _ _ _ _ _ _ _ (sym s.ensures ∙ c.if-not-create_status.true)) in
    record { meets = both.0; order = both.1 }

pub returns-then-word-ne0 : goal.returns-then-word-ne0
returns-then-word-ne0 c =
    let a = c.args in
    let both = refusal_meets a.image.now _ (creating a.layout a.image.now a.name.now a.status a.record_length a.records_per_sector a.i) 11 refl
    (full _ _ _ _ _ _ _ (listed (goal.at.returns-then-word-ne0 c).Start) (asked (goal.at.returns-then-word-ne0 c).Else-not-create_status) (λ z. c.if-word-ne0.true (last_is (goal.at.returns-then-word-ne0 c).After-word ∙ z))) in
    record { meets = both.0; order = both.1 }

pub returns-then-free_count_of-eq0 : goal.returns-then-free_count_of-eq0
returns-then-free_count_of-eq0 c =
    let a = c.args in
    let both = refusal_meets a.image.now _ (creating a.layout a.image.now a.name.now a.status a.record_length a.records_per_sector a.i) 12 refl
    (taken _ _ _ _ _ _ _ (listed (goal.at.returns-then-free_count_of-eq0 c).Start) (asked (goal.at.returns-then-free_count_of-eq0 c).Else-not-create_status) (sym (last_is (goal.at.returns-then-free_count_of-eq0 c).After-word) ∙ c.if-word-ne0.false) (sym (free_is (goal.at.returns-then-free_count_of-eq0 c).After-free_count_of) ∙ c.if-free_count_of-eq0.true)) in
    record { meets = both.0; order = both.1 }

-- the sector chosen, which was free
chosen_is : (c : After-descriptor_choice-k) → c.descriptor_choice-k.result ≡ descriptor_choice (sector_of c.args.image.now 0)
chosen_is c = c.descriptor_choice-k.ensures.0 ∙ ap descriptor_choice c.sector_of-3.ensures

is_free : (c : After-descriptor_choice-k) → let image = c.args.image.now in Chosen (sector_count image) (sector_of image 0) c.descriptor_choice-k.result
is_free c =
    subst (Chosen (sector_count c.args.image.now) (sector_of c.args.image.now 0)) (sym (chosen_is c))
    (descriptor_choice_free (sector_count c.args.image.now) (sector_of c.args.image.now 0) (sound_fenced _ c.args.image.now c.requires.0)
    (omega (arith, c.if-free_count_of-eq0.false, free_is (goal.at.After-descriptor_choice-k c).After-free_count_of)))

ten : (c : After-descriptor_choice-k) → length c.args.name.now ≡ 10
ten c = (name_is _ c.requires.2).ten

pub write_descriptor-requires : goal.write_descriptor-requires
write_descriptor-requires c = ten (goal.at.write_descriptor-requires c).After-descriptor_choice-k

pub returns : goal.returns
unfolding written data_writes entered sectors_in
returns c =
    let a = c.args in
    let image = a.image.now in
    let name = a.name.now in
    let k = c.descriptor_choice-k.result in
    let with-mark = marking a.layout a.status in
    let descriptor = new_descriptor name with-mark a.records_per_sector 0 a.record_length in
    let long = new_length name with-mark a.records_per_sector 0 a.record_length (ten (goal.at.returns c).After-descriptor_choice-k) in
    let there =
    c.write_descriptor.ensures
    ∙ ap (λ (s : ℕ). splice image (256 * k) (new_descriptor name s a.records_per_sector 0 a.record_length)) c.marking-marked.ensures
    in
    let writes = entered image a.i name k descriptor (marked 1 (sector_of image 0) k) in
    let both = done_meets image _ (creating a.layout image name a.status a.record_length a.records_per_sector a.i) writes _ _
    (passed _ _ _ _ _ _ _ (listed (goal.at.returns c).Start) (asked (goal.at.returns c).Else-not-create_status) (sym (last_is (goal.at.returns c).After-word) ∙ c.if-word-ne0.false) (λ z. c.if-free_count_of-eq0.false (free_is (goal.at.returns c).After-free_count_of ∙ z)) k (chosen_is (goal.at.returns c).After-descriptor_choice-k))
    (written-entered _ image a.i name [] k [] descriptor (marked 1 (sector_of image 0) k) c.requires.0 c.requires.1 (λ j one. subst (Chosen (sector_count image) (sector_of image 0)) (only_one k j one) (is_free (goal.at.returns c).After-descriptor_choice-k)) long
    (marked-length 1 (sector_of image 0) k ∙ label_long _ image c.requires.0) _ _
    (marked_there _ image _ c.mark.new.sector0 descriptor k c.requires.0 (is_free (goal.at.returns c).After-descriptor_choice-k).from long there (rw c.from.ensures at c.mark.ensures)) c.enter.ensures)
    (rw (c.from-2.ensures, c.from-3.ensures) at c.list.ensures ∙ order_laid _ writes (search rules)) in
    record { meets = both.0; order = both.1 }

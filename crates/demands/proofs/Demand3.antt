-- Packing meets demand 3. The number is read off its two tests; the rest follows from what the packed image of a sound volume keeps, since the bytes are a function of
-- label area and catalogues: the label area holds n, in bytes 10 and 11. Two versions that meet it do the same: numbers and refusals are fixed, and the laid down form is one.
use mathlib.Core.Path.{◌≡◌, refl, sym, ap, ◌∙◌}
use mathlib.Core.List.{List}
use Prim.Native.Nat.{ℕ}
use native.Mathlib.Omega.{arith}
use native.Mathlib.Decide.{ℕ_discrete}
use lib.ListN.{length, length-map}
use borrow.Author.Tests.{not-false, eq-eqb, ne_eqb, eqb-true}
use Rattle.rules.specs.Bytes.{word_at}
use Rattle.rules.specs.Sectors.{sector_of, sector_count}
use Rattle.rules.specs.Directory.{entries, entry_index}
use Rattle.rules.specs.Volume.{File, catalogues}
use Rattle.rules.specs.Tests.{first_of, Passed}
use Rattle.rules.specs.Verdict.{volume_tests, verdict}
use Rattle.rules.specs.Sound.{Sound}
use Rattle.rules.specs.Calls.Pack.{label_area, packed, pack_tests, pack_number, after_pack}
use Rattle.rules.specs.declared.Layout.{Layout}
use Rattle.rules.proofs.Tests.{all_passed, none_met, passed_both, unless_passed, unless_met_lem}
use Rattle.rules.proofs.Verdict.{sound, passes, unsound_first, sound_first}
use Rattle.rules.proofs.Pack.{label_byte, label_again}
use Rattle.demands.specs.Packing.{Packs}
use Rattle.demands.specs.Demand3.{Packed, Packer, Packable, Demand3, OnePacking, packs}
use Rattle.demands.proofs.PackedSound.{packed_image, packed_sound, laid_packs}
use Rattle.demands.proofs.PackedOne.{packs_one}

-- the number
module _ (layout : Layout) (source target : List ℕ) where
  pub packable_number : Packable layout source target → pack_number layout source target ≡ 0
  unfolding pack_tests first_of
  packable_number can = sound_first layout source _ (passes layout source can.sound) ∙ rw (eq-eqb (length target) (length source) can.long)

  unsound_number : (Sound layout source → ⊥) → pack_number layout source target ≡ verdict layout source
  unfolding pack_tests
  unsound_number not = unsound_first layout source _ (λ e. not (sound layout source e))

  unmeasured_number : Sound layout source → (length target ≡ length source → ⊥) → pack_number layout source target ≡ 15
  unfolding pack_tests first_of
  unmeasured_number is other = sound_first layout source _ (passes layout source is) ∙ rw (ne_eqb (length target) (length source) other)

  number_packable : pack_number layout source target ≡ 0 → Packable layout source target
  unfolding pack_tests verdict Passed
  number_packable e =
      let passed = passed_both (volume_tests layout source) _ (all_passed (pack_tests layout source target) e) in
      record {
        sound = sound layout source (none_met (volume_tests layout source) passed.0);
        long = eqb-true (length target) (length source) (not-false _ passed.1.0);
      }

  -- the target afterwards
  after_packed : Packable layout source target → after_pack layout source target ≡ packed_image layout source
  unfolding after_pack
  after_packed can = unless_passed (pack_tests layout source target) _ target (packable_number can)

  after_refused : (pack_number layout source target ≡ 0 → ⊥) → after_pack layout source target ≡ target
  unfolding after_pack
  after_refused not = unless_met_lem (pack_tests layout source target) _ target not

-- label area and catalogues determine the packed bytes
sectors_labelled : (layout : Layout) (source : List ℕ) (is : Sound layout source) → word_at (label_area layout source) 10 ≡ sector_count source
sectors_labelled layout source is = omega (arith, label_byte layout source is 10 (omega arith), label_byte layout source is 11 (omega arith), is.label.count)

same_packed : (layout : Layout) (n n' : ℕ) (label label' : List ℕ) (all all' : List (List File)) → n ≡ n' → label ≡ label' → all ≡ all' → packed layout n label all ≡ packed layout n' label' all'
same_packed layout n n' label label' all all' p q r = rw (p, q, r)

packed_form : (layout : Layout) (first second : List ℕ) (is : Sound layout first) (is' : Sound layout second) → label_area layout first ≡ label_area layout second
    → catalogues layout first ≡ catalogues layout second → packed_image layout first ≡ packed_image layout second
packed_form layout first second is is' label listed =
    same_packed layout (sector_count first) (sector_count second) (label_area layout first) (label_area layout second) (catalogues layout first) (catalogues layout second)
    (sym (sectors_labelled layout first is) ∙ ap (λ (l : List ℕ). word_at l 10) label ∙ sectors_labelled layout second is') label listed

module _ (layout : Layout) (source target : List ℕ) (can : Packable layout source target) where
  after_sound : Sound layout (after_pack layout source target)
  after_sound = rw (after_packed layout source target can) (packed_sound layout source can.sound)

  after_laid : Packs layout source (after_pack layout source target)
  after_laid = rw (after_packed layout source target can) (laid_packs layout source can.sound)

  after_label : label_area layout (after_pack layout source target) ≡ label_area layout source
  after_label = label_again layout source (after_pack layout source target) _ (length-map (entries layout (sector_of (after_pack layout source target) 0)) entry_index) after_laid.label

  after_packable : (other : List ℕ) → length other ≡ length source → Packable layout (after_pack layout source target) other
  after_packable other long = record { sound = after_sound; long = long ∙ sym after_laid.size }

after_form : (layout : Layout) (first second target other : List ℕ) → Packable layout first target → Packable layout second other → label_area layout first ≡ label_area layout second
    → catalogues layout first ≡ catalogues layout second
    → after_pack layout first target ≡ after_pack layout second other
after_form layout first second target other can can' label listed =
    after_packed layout first target can ∙ packed_form layout first second can.sound can'.sound label listed ∙ sym (after_packed layout second other can')

pub packing_demand : (layout : Layout) → Demand3 layout (packs layout)
unfolding packs
packing_demand layout =
    record {
      done = λ source target. (number_packable layout source target, packable_number layout source target);
      judged = unsound_number layout;
      measured = unmeasured_number layout;
      refuses = after_refused layout;
      laid = after_laid layout;
      sound = after_sound layout;
      again = λ source target other can long.
          let next = after_packable layout source target can other long in
          (packable_number layout (after_pack layout source target) other next, after_form layout (after_pack layout source target) source other target next can (after_label layout source target can) (after_laid layout source target can).listed);
      form = λ first second target other can can'. (
        (λ e. (
          sym (after_label layout first target can) ∙ ap (label_area layout) e ∙ after_label layout second other can',
          sym (after_laid layout first target can).listed ∙ ap (catalogues layout) e ∙ (after_laid layout second other can').listed,
        )),
        (λ both. after_form layout first second target other can can' both.0 both.1),
      );
      fresh = λ source target other can can'. after_form layout source source target other can can' refl refl;
    }

-- The demand is complete.
same_result : (number number' : ℕ) (target target' : List ℕ) → number ≡ number' → target ≡ target'
    → ◌≡◌ {A = Packed} (record { number = number; target = target }) (record { number = number'; target = target' })
same_result number number' target target' e f = rw (e, f)

module _ (layout : Layout) (first second : Packer) (is : Demand3 layout first) (is' : Demand3 layout second) (source target : List ℕ) where
  abbrev Same : Type 0
  Same = first source target ≡ second source target

  both_done : Packable layout source target → Same
  both_done can =
      same_result _ _ _ _ ((is.done source target).1 can ∙ sym ((is'.done source target).1 can))
      (packs_one layout source _ _ can.sound (is.laid source target can) (is'.laid source target can))

  both_refused : (Packable layout source target → ⊥) → (first source target).number ≡ (second source target).number → Same
  both_refused not e =
      same_result _ _ _ _ e
      (is.refuses source target (λ zero. not ((is.done source target).0 zero)) ∙ sym (is'.refuses source target (λ zero. not ((is'.done source target).0 zero))))

  both_same : Same
  both_same =
      elim (ℕ_discrete (verdict layout source) 0) [
        | no some ↦
            let unsound : Sound layout source → ⊥ = λ volume. some (passes layout source volume) in
            both_refused (λ can. unsound can.sound) (is.judged source target unsound ∙ sym (is'.judged source target unsound))
        | yes zero ↦
            let volume = sound layout source zero in
            elim (ℕ_discrete (length target) (length source)) [
              | yes long ↦ both_done (record { sound = volume; long = long })
              | no other ↦ both_refused (λ can. other can.long) (is.measured source target volume other ∙ sym (is'.measured source target volume other))
            ]
      ]

pub one_packing : (layout : Layout) → OnePacking layout
unfolding OnePacking
one_packing layout = both_same layout

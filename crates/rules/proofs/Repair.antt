-- Repair's number is 0 exactly for what can be mended: `repair_mendable`.
use mathlib.Core.Path.{◌≡◌, refl, sym, ◌∙◌}
use mathlib.Core.Logic.{◌↔◌}
use mathlib.Core.Bool.{Bool, true, false, not, ◌&&◌, ◌||◌}
use mathlib.Core.List.{List, [], ◌∷◌}
use Prim.Native.Nat.{ℕ, zero, suc, ◌≤◌, ◌<◌}
use native.Mathlib.Omega.{arith}
use native.Mathlib.Decide.{ℕ_discrete}
use lib.ListN.{length, get_or}
use borrow.Author.Tests.{not-true, not-false}
use Rattle.rules.specs.Bytes.{same}
use Rattle.rules.specs.Sectors.{sector_of, sector_count}
use Rattle.rules.specs.Map.{count}
use Rattle.rules.specs.Descriptor.{descriptor_rule, IsDescriptor}
use Rattle.rules.specs.Index.{index_rule}
use Rattle.rules.specs.Directory.{entries, entries_rule}
use Rattle.rules.specs.Volume.{indexes, every, files_in, name_in, holders}
use Rattle.rules.specs.Tests.{first_of, Passed}
use Rattle.rules.specs.Verdict.{size_rule}
use Rattle.rules.specs.Sound.{IsIndexed}
use Rattle.rules.specs.Calls.Repair.{named_in, each_rule, distinct_rule, repair_tests, Mendable}
use Rattle.rules.specs.declared.Layout.{Layout}
use Rattle.rules.proofs.Tests.{both, neither, absurd_test, all_passed}
use Rattle.rules.proofs.Bytes.{same_is, is_same}
use Rattle.rules.proofs.Label.{label_is, is_label}
use Rattle.rules.proofs.Map.{count_none, count_here, count_other, count_more}
use Rattle.rules.proofs.Descriptor.{descriptor_is, is_descriptor}
use Rattle.rules.proofs.Index.{index_is, is_index}
use Rattle.rules.proofs.Directory.{entries_are, are_entries}
use Rattle.rules.proofs.Indexes.{every_is, is_every}
use Rattle.rules.proofs.Verdict.{size_is, is_size, held_once, once_held}
use Rattle.rules.proofs.Ordered.{Distinct}

-- no file among ks has that name
module _ (image name : List ℕ) where
  pub named_none : (ks : List ℕ) → named_in image name ks ≡ false → (k : ℕ) → 1 ≤ count k ks → name ≡ name_in image k → ⊥
  unfolding named_in
  named_none [] e k some is = omega (arith, some, count_none k)
  named_none (j ∷ js) e k some is =
      let parts = neither (same name (name_in image j)) (named_in image name js) e in
      elim (ℕ_discrete j k) [
        | yes here ↦ absurd_test (sym (rw (here, ← is) (is_same name)) ∙ parts.0)
        | no there ↦ named_none js parts.1 k (omega (arith, some, count_other k j js there)) is
      ]

  pub none_named : (ks : List ℕ) → ((k : ℕ) → 1 ≤ count k ks → name ≡ name_in image k → ⊥) → named_in image name ks ≡ false
  unfolding named_in
  none_named [] none = refl
  none_named (j ∷ js) none = go (same name (name_in image j)) refl (none_named js (λ k h. none k (omega (arith, h, count_more k j js))))
    where
      go : (t : Bool) → same name (name_in image j) ≡ t → named_in image name js ≡ false → (t || named_in image name js) ≡ false
      go true e more = absurd (none j (omega (arith, count_here j js)) (same_is name (name_in image j) e))
      go false e more = more

-- 4: the names
module _ (image : List ℕ) where
  -- none of the later ones has the name of one of the earlier ones
  abbrev Later : List ℕ → List ℕ → Type 0
  Later earlier ks = (k : ℕ) → 1 ≤ count k earlier → (q : ℕ) → q < length ks → name_in image (get_or ks q 0) ≡ name_in image k → ⊥

  pub distinct_is : (earlier ks : List ℕ) → distinct_rule image earlier ks ≡ true → Later earlier ks × Distinct image ks
  unfolding distinct_rule
  distinct_is earlier [] e = ((λ k some q h is. omega (arith, h)), (λ p q h l is. omega (arith, l)))
  distinct_is earlier (j ∷ js) e =
      let parts = both (not (named_in image (name_in image j) earlier)) (distinct_rule image (j ∷ earlier) js) e in
      let rest = distinct_is (j ∷ earlier) js parts.1 in
      (first (named_none image (name_in image j) earlier (not-true (named_in image (name_in image j) earlier) parts.0)) rest.0, apart rest.0 rest.1)
    where
      first : ((k : ℕ) → 1 ≤ count k earlier → name_in image j ≡ name_in image k → ⊥) → Later (j ∷ earlier) js → Later earlier (j ∷ js)
      first none more k some zero h is = none k some is
      first none more k some (suc q) h is = more k (omega (arith, some, count_more k j earlier)) q (omega arith) is

      apart : Later (j ∷ earlier) js → Distinct image js → Distinct image (j ∷ js)
      apart later more p zero h l is = omega (arith, h)
      apart later more zero (suc q) h l is = later j (omega (arith, count_here j earlier)) q (omega arith) (sym is)
      apart later more (suc p) (suc q) h l is = more p q (omega arith) (omega arith) is

  pub is_distinct : (earlier ks : List ℕ) → Later earlier ks → Distinct image ks → distinct_rule image earlier ks ≡ true
  unfolding distinct_rule
  is_distinct earlier [] later distinct = refl
  is_distinct earlier (j ∷ js) later distinct =
      rw (none_named image (name_in image j) earlier (λ k some is. later k some 0 (omega arith) is))
      (is_distinct (j ∷ earlier) js
      (λ k some q h is.
      elim (ℕ_discrete j k) [
        | yes here ↦ distinct 0 (suc q) (omega arith) (omega arith) (rw here (sym is))
        | no there ↦ later k (omega (arith, some, count_other k j earlier there)) (suc q) (omega arith) is
      ])
      (λ p q h l. distinct (suc p) (suc q) (omega arith) (omega arith)))

-- and the descriptors
module _ (layout : Layout) (n : ℕ) (image : List ℕ) where
  pub each_is : (ks : List ℕ) → each_rule layout n image ks ≡ true → (p : ℕ) → p < length ks → IsDescriptor layout n (sector_of image (get_or ks p 0))
  unfolding each_rule
  each_is [] e p h = absurd (omega arith)
  each_is (k ∷ ks) e zero h = descriptor_is layout n (sector_of image k) (both (descriptor_rule layout n (sector_of image k)) (each_rule layout n image ks) e).0
  each_is (k ∷ ks) e (suc p) h = each_is ks (both (descriptor_rule layout n (sector_of image k)) (each_rule layout n image ks) e).1 p (omega arith)

  pub is_each : (ks : List ℕ) → ((p : ℕ) → p < length ks → IsDescriptor layout n (sector_of image (get_or ks p 0))) → each_rule layout n image ks ≡ true
  unfolding each_rule
  is_each [] is = refl
  is_each (k ∷ ks) is = rw (is_descriptor layout n (sector_of image k) (is 0 (omega arith))) (is_each ks (λ p h. is (suc p) (omega arith)))

-- the five tests
pub mendable : (layout : Layout) (image : List ℕ) → first_of (repair_tests layout image) ≡ 0 → Mendable layout image
unfolding repair_tests Passed
mendable layout image e =
    let n = sector_count image in
    let passed = all_passed (repair_tests layout image) e in
    let size = size_is image (not-false (size_rule image) passed.0) in
    let three = both (entries_rule n (entries layout (sector_of image 0))) (every (λ i. index_rule n (sector_of image i)) (indexes layout image)) (not-false _ passed.1.1.0) in
    record {
      whole = size.0;
      size = (size.1, size.2);
      label = label_is n (sector_of image 0) (not-false _ passed.1.0);
      entered = entries_are n (entries layout (sector_of image 0)) three.0;
      each = λ i indexed.
          let files = files_in image i in
          let four = both (each_rule layout n image files) (distinct_rule image [] files) (every_is (λ i. each_rule layout n image (files_in image i) && distinct_rule image [] (files_in image i)) (indexes layout image) (not-false _ passed.1.1.1.0) i indexed) in
          record {
            index = index_is n (sector_of image i) (every_is (λ i. index_rule n (sector_of image i)) (indexes layout image) three.1 i indexed);
            descriptors = each_is layout n image files four.0;
            distinct = (distinct_is image [] files four.1).1;
          };
      single = held_once (holders layout image) passed.1.1.1.1.0;
    }

pub mends : (layout : Layout) (image : List ℕ) → Mendable layout image → first_of (repair_tests layout image) ≡ 0
unfolding repair_tests first_of
mends layout image is =
    let n = sector_count image in
    rw (
      is_size image is.whole is.size.0 is.size.1,
      is_label n (sector_of image 0) is.label,
      are_entries n (entries layout (sector_of image 0)) is.entered,
      is_every (λ i. index_rule n (sector_of image i)) (indexes layout image) (λ i indexed. is_index n (sector_of image i) (is.each i indexed).index),
      is_every (λ i. each_rule layout n image (files_in image i) && distinct_rule image [] (files_in image i)) (indexes layout image) four,
      once_held (holders layout image) is.single,
    )
  where
    four : (i : ℕ) → IsIndexed layout image i → (each_rule layout (sector_count image) image (files_in image i) && distinct_rule image [] (files_in image i)) ≡ true
    four i indexed =
        let files = files_in image i in
        let here = is.each i indexed in
        rw (is_each layout (sector_count image) image files here.descriptors) (is_distinct image [] files (λ k some q h e. omega (arith, some, count_none k)) here.distinct)

pub repair_mendable : (layout : Layout) (image : List ℕ) → (first_of (repair_tests layout image) ≡ 0) ↔ Mendable layout image
repair_mendable layout image = (mendable layout image, mends layout image)

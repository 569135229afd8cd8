-- The verdict is 0 exactly for sound volumes: `verdict_sound`.
use mathlib.Core.Path.{◌≡◌, refl, sym, ◌∙◌}
use mathlib.Core.Logic.{◌↔◌}
use mathlib.Core.Bool.{true, false, ◌&&◌}
use mathlib.Core.List.{List, [], ◌∷◌, ◌++◌}
use Prim.Native.Nat.{ℕ, zero, suc, ◌*◌, ◌%◌, ◌≤◌, ◌<◌}
use native.Mathlib.Omega.{arith}
use native.Mathlib.Decide.{ℕ_discrete}
use lib.Dec.{eqb, leb, ltb}
use lib.ListN.{length, get_or}
use borrow.Author.Tests.{eq-eqb, eqb-true, le-leb, leb-true, le-ltb, ltb-false, not-false}
use Rattle.rules.specs.Sectors.{sector_of, sector_count}
use Rattle.rules.specs.Name.{precedes, Before}
use Rattle.rules.specs.Label.{label_rule}
use Rattle.rules.specs.Map.{count, map_rule}
use Rattle.rules.specs.Descriptor.{descriptor_rule, IsDescriptor}
use Rattle.rules.specs.Index.{index_rule}
use Rattle.rules.specs.Directory.{entries, entries_rule}
use Rattle.rules.specs.Volume.{indexes, every, files_in, name_in, holders}
use Rattle.rules.specs.Tests.{Test, first_of, Passed}
use Rattle.rules.specs.Verdict.{size_rule, descriptors_rule, held_twice, volume_tests, verdict}
use Rattle.rules.specs.Sound.{file_at, IsIndexed, SoundIndex, Sound}
use Rattle.rules.specs.declared.Layout.{Layout}
use Rattle.rules.proofs.Tests.{both, neither, all_passed, first_passed, first_met, AtMost, first_most}
use Rattle.rules.proofs.Name.{precedes_is, is_precedes, before_trans}
use Rattle.rules.proofs.Label.{label_is, is_label}
use Rattle.rules.proofs.Map.{count_none, count_here, count_other, count_more, taken_below, taken_past, bits_taken, map_at, at_map}
use Rattle.rules.proofs.Descriptor.{descriptor_is, is_descriptor}
use Rattle.rules.proofs.Index.{index_is, is_index}
use Rattle.rules.proofs.Directory.{entries_are, are_entries}
use Rattle.rules.proofs.Indexes.{every_is, is_every}

-- 1: the size
pub size_is : (image : List ℕ) → size_rule image ≡ true → (length image ≡ 256 * sector_count image) × (3 ≤ sector_count image) × (sector_count image ≤ 1600)
unfolding size_rule
size_is image e =
    let whole = both (eqb (length image % 256) 0) (leb 3 (sector_count image) && leb (sector_count image) 1600) e in
    let bounds = both (leb 3 (sector_count image)) (leb (sector_count image) 1600) whole.1 in
    (omega (arith, eqb-true (length image % 256) 0 whole.0), leb-true _ _ bounds.0, leb-true _ _ bounds.1)

pub is_size : (image : List ℕ) → length image ≡ 256 * sector_count image → 3 ≤ sector_count image → sector_count image ≤ 1600 → size_rule image ≡ true
unfolding size_rule
is_size image whole large small =
    rw (eq-eqb (length image % 256) 0 (omega arith), le-leb 3 (sector_count image) large, le-leb (sector_count image) 1600 small)

-- 4: the descriptors, and the order of their names
module _ (layout : Layout) (n : ℕ) (image : List ℕ) where
  unfolded : (previous : List ℕ) (k : ℕ) (ks : List ℕ) → descriptors_rule layout n image previous (k ∷ ks) ≡ true
      → (descriptor_rule layout n (sector_of image k) ≡ true) × (precedes previous (name_in image k) ≡ true) × (descriptors_rule layout n image (name_in image k) ks ≡ true)
  unfolding descriptors_rule
  unfolded previous k ks e =
      let here = both (descriptor_rule layout n (sector_of image k)) (precedes previous (name_in image k) && descriptors_rule layout n image (name_in image k) ks) e in
      let later = both (precedes previous (name_in image k)) (descriptors_rule layout n image (name_in image k) ks) here.1 in
      (here.0, later.0, later.1)

  pub descriptors_are : (previous ks : List ℕ) → descriptors_rule layout n image previous ks ≡ true → (p : ℕ) → p < length ks → IsDescriptor layout n (sector_of image (get_or ks p 0))
  descriptors_are previous [] e p h = absurd (omega arith)
  descriptors_are previous (k ∷ ks) e zero h = descriptor_is layout n (sector_of image k) (unfolded previous k ks e).0
  descriptors_are previous (k ∷ ks) e (suc p) h = descriptors_are (name_in image k) ks (unfolded previous k ks e).2 p (omega arith)

  pub name_long : (k : ℕ) → IsDescriptor layout n (sector_of image k) → length (name_in image k) ≡ 10
  unfolding name_in
  name_long k is = is.name.ten

  -- each name is after the one before the list, where that is a name
  after : (previous ks : List ℕ) → length previous ≡ 10 → descriptors_rule layout n image previous ks ≡ true → (p : ℕ) → p < length ks → Before previous (name_in image (get_or ks p 0))
  after previous [] long e p h = absurd (omega arith)
  after previous (k ∷ ks) long e p h =
      let parts = unfolded previous k ks e in
      let here = name_long k (descriptor_is layout n (sector_of image k) parts.0) in
      let first = precedes_is previous (name_in image k) (long ∙ sym here) parts.1 in
      go p h first (after (name_in image k) ks here parts.2)
    where
      go : (p : ℕ) → p < length (k ∷ ks) → Before previous (name_in image k) → ((q : ℕ) → q < length ks → Before (name_in image k) (name_in image (get_or ks q 0)))
          → Before previous (name_in image (get_or (k ∷ ks) p 0))
      go zero h first more = first
      go (suc p) h first more = before_trans previous (name_in image k) (name_in image (get_or ks p 0)) first (more p (omega arith))

  pub ascend : (previous ks : List ℕ) → descriptors_rule layout n image previous ks ≡ true → (p q : ℕ) → p < q → q < length ks → Before (name_in image (get_or ks p 0)) (name_in image (get_or ks q 0))
  ascend previous [] e p q h k = absurd (omega arith)
  ascend previous (k ∷ ks) e zero zero h l = absurd (omega arith)
  ascend previous (k ∷ ks) e zero (suc q) h l =
      let parts = unfolded previous k ks e in
      after (name_in image k) ks (name_long k (descriptor_is layout n (sector_of image k) parts.0)) parts.2 q (omega arith)
  ascend previous (k ∷ ks) e (suc p) zero h l = absurd (omega arith)
  ascend previous (k ∷ ks) e (suc p) (suc q) h l = ascend (name_in image k) ks (unfolded previous k ks e).2 p q (omega arith) (omega arith)

  pub are_descriptors : (previous ks : List ℕ) → ((p : ℕ) → p < length ks → IsDescriptor layout n (sector_of image (get_or ks p 0)))
      → ((p : ℕ) → p < length ks → precedes previous (name_in image (get_or ks p 0)) ≡ true)
      → ((p q : ℕ) → p < q → q < length ks → Before (name_in image (get_or ks p 0)) (name_in image (get_or ks q 0)))
      → descriptors_rule layout n image previous ks ≡ true
  unfolding descriptors_rule
  are_descriptors previous [] is first order = refl
  are_descriptors previous (k ∷ ks) is first order =
      rw (is_descriptor layout n (sector_of image k) (is 0 (omega arith)), first 0 (omega arith))
      (are_descriptors (name_in image k) ks (λ p h. is (suc p) (omega arith)) (λ p h. is_precedes (name_in image k) (name_in image (get_or ks p 0)) (order 0 (suc p) (omega arith) (omega arith)))
      (λ p q h l. order (suc p) (suc q) (omega arith) (omega arith)))

-- no name is before the first
pub precedes_none : (name : List ℕ) → length name ≡ 10 → precedes [] name ≡ true
unfolding precedes
precedes_none [] long = absurd (omega arith)
precedes_none (b ∷ name) long = refl

-- 5: no sector stands twice among the holders
pub held_once : (hs : List ℕ) → held_twice hs ≡ false → (k : ℕ) → count k hs ≤ 1
unfolding held_twice
held_once [] e k = omega (arith, count_none k)
held_once (h ∷ hs) e k =
    let parts = neither (ltb 0 (count h hs)) (held_twice hs) e in
    elim (ℕ_discrete h k) [
      | yes here ↦
          let none : count h hs ≤ 0 = ltb-false 0 (count h hs) parts.0 in
          let none' = rw here at none in
          rw here (omega (arith, count_here k hs, none'))
      | no there ↦ omega (arith, count_other k h hs there, held_once hs parts.1 k)
    ]

pub once_held : (hs : List ℕ) → ((k : ℕ) → count k hs ≤ 1) → held_twice hs ≡ false
unfolding held_twice
once_held [] f = refl
once_held (h ∷ hs) f =
    rw (le-ltb 0 (count h hs) (omega (arith, f h, count_here h hs))) (once_held hs (λ k. omega (arith, f k, count_more k h hs)))

-- the six tests
pub record Keeps (layout : Layout) (image : List ℕ) : Type 0 where
  pub size : size_rule image ≡ true
  pub label : label_rule (sector_count image) (sector_of image 0) ≡ true
  pub entered : entries_rule (sector_count image) (entries layout (sector_of image 0)) ≡ true
  pub index : (i : ℕ) → IsIndexed layout image i → index_rule (sector_count image) (sector_of image i) ≡ true
  pub descriptors : (i : ℕ) → IsIndexed layout image i → descriptors_rule layout (sector_count image) image [] (files_in image i) ≡ true
  pub single : held_twice (holders layout image) ≡ false
  pub map : map_rule (sector_count image) (holders layout image) (sector_of image 0) ≡ true

pub rules_kept : (layout : Layout) (image : List ℕ) → verdict layout image ≡ 0 → Keeps layout image
unfolding verdict volume_tests Passed
rules_kept layout image e =
    let n = sector_count image in
    let passed = all_passed (volume_tests layout image) e in
    let three = both (entries_rule n (entries layout (sector_of image 0))) (every (λ i. index_rule n (sector_of image i)) (indexes layout image)) (not-false _ passed.1.1.0) in
    record {
      size = not-false (size_rule image) passed.0;
      label = not-false _ passed.1.0;
      entered = three.0;
      index = every_is (λ i. index_rule n (sector_of image i)) (indexes layout image) three.1;
      descriptors = every_is (λ i. descriptors_rule layout n image [] (files_in image i)) (indexes layout image) (not-false _ passed.1.1.1.0);
      single = passed.1.1.1.1.0;
      map = not-false _ passed.1.1.1.1.1.0;
    }

sound_index : (layout : Layout) (image : List ℕ) (i : ℕ) → index_rule (sector_count image) (sector_of image i) ≡ true → descriptors_rule layout (sector_count image) image [] (files_in image i) ≡ true → SoundIndex layout image i
sound_index layout image i index descriptors =
    record {
      index = index_is (sector_count image) (sector_of image i) index;
      descriptors = descriptors_are layout (sector_count image) image [] (files_in image i) descriptors;
      ascending = ascend layout (sector_count image) image [] (files_in image i) descriptors;
    }

pub sound : (layout : Layout) (image : List ℕ) → verdict layout image ≡ 0 → Sound layout image
sound layout image e =
    let n = sector_count image in
    let kept = rules_kept layout image e in
    let size = size_is image kept.size in
    let bits = map_at n (holders layout image) (sector_of image 0) kept.map in
    record {
      whole = size.0;
      size = (size.1, size.2);
      label = label_is n (sector_of image 0) kept.label;
      entered = entries_are n (entries layout (sector_of image 0)) kept.entered;
      each = λ i indexed. sound_index layout image i (kept.index i indexed) (kept.descriptors i indexed);
      single = held_once (holders layout image) kept.single;
      marked = λ k h. bits k (omega (arith, size.2)) ∙ taken_below n (holders layout image) k h;
      filled = λ k h l. bits k l ∙ taken_past n (holders layout image) k h;
    }

pub index_passes : (layout : Layout) (image : List ℕ) (i : ℕ) → SoundIndex layout image i → descriptors_rule layout (sector_count image) image [] (files_in image i) ≡ true
index_passes layout image i is =
    are_descriptors layout (sector_count image) image [] (files_in image i) is.descriptors
    (λ p h. precedes_none (name_in image (file_at image i p)) (name_long layout (sector_count image) image (file_at image i p) (is.descriptors p h))) is.ascending

pub passes : (layout : Layout) (image : List ℕ) → Sound layout image → verdict layout image ≡ 0
unfolding verdict volume_tests first_of
passes layout image is =
    let n = sector_count image in
    rw (
      is_size image is.whole is.size.0 is.size.1,
      is_label n (sector_of image 0) is.label,
      are_entries n (entries layout (sector_of image 0)) is.entered,
      is_every (λ i. index_rule n (sector_of image i)) (indexes layout image) (λ i indexed. is_index n (sector_of image i) (is.each i indexed).index),
      is_every (λ i. descriptors_rule layout n image [] (files_in image i)) (indexes layout image) (λ i indexed. index_passes layout image i (is.each i indexed)),
      once_held (holders layout image) is.single,
      at_map n (holders layout image) (sector_of image 0) (bits_taken n (holders layout image) (sector_of image 0) is.marked is.filled),
    )

pub verdict_sound : (layout : Layout) (image : List ℕ) → (verdict layout image ≡ 0) ↔ Sound layout image
verdict_sound layout image = (sound layout image, passes layout image)

-- the numbers are 0 to 6
pub verdict_small : (layout : Layout) (image : List ℕ) → verdict layout image ≤ 6
unfolding verdict volume_tests AtMost
verdict_small layout image = first_most 6 (volume_tests layout image) (omega arith, (omega arith, (omega arith, (omega arith, (omega arith, (omega arith, tt))))))

-- a call whose tests begin with those of the volume
module _ (layout : Layout) (image : List ℕ) (tests : List Test) where
  pub unsound_first : (verdict layout image ≡ 0 → ⊥) → first_of (volume_tests layout image ++ tests) ≡ verdict layout image
  unfolding verdict
  unsound_first some = first_met (volume_tests layout image) tests some

  pub sound_first : verdict layout image ≡ 0 → first_of (volume_tests layout image ++ tests) ≡ first_of tests
  unfolding verdict
  sound_first e = first_passed (volume_tests layout image) tests e

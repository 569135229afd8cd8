-- Numbers 1 to 6: each test of a volume decides its ground; and 1 to 5 as repair has them.
use mathlib.Core.Path.{◌≡◌, refl, sym, ◌∙◌}
use mathlib.Core.Bool.{Bool, true, false, ◌&&◌, ◌||◌}
use mathlib.Core.List.{List, [], ◌∷◌}
use Prim.Native.Nat.{ℕ, ◌≤◌}
use native.Mathlib.Omega.{arith}
use lib.Dec.{ltb}
use lib.ListN.{get_or}
use borrow.Author.Tests.{not-false, ltb-true}
use Rattle.rules.specs.Sectors.{sector_of, sector_count}
use Rattle.rules.specs.Map.{count, map_rule}
use Rattle.rules.specs.Index.{index_rule}
use Rattle.rules.specs.Directory.{entries, entries_rule}
use Rattle.rules.specs.Volume.{indexes, every, files_in, holders, name_in}
use Rattle.rules.specs.Verdict.{size_rule, held_twice, volume_tests, descriptors_rule}
use Rattle.rules.specs.Sound.{IsIndexed}
use Rattle.rules.specs.Calls.Repair.{each_rule, distinct_rule, repair_tests}
use Rattle.rules.specs.declared.Layout.{Layout}
use Rattle.rules.proofs.Tests.{absurd_test, both}
use Rattle.rules.proofs.Label.{label_is, is_label}
use Rattle.rules.proofs.Map.{count_none, count_here, count_more, taken_below, taken_past, bits_taken, map_at, at_map}
use Rattle.rules.proofs.Index.{index_is, is_index}
use Rattle.rules.proofs.Directory.{entries_are, are_entries}
use Rattle.rules.proofs.Indexes.{every_is, is_every}
use Rattle.rules.proofs.Verdict.{size_is, is_size, held_once, descriptors_are, name_long, ascend, are_descriptors, precedes_none}
use Rattle.rules.proofs.Repair.{each_is, is_each, distinct_is, is_distinct}
use Rattle.demands.specs.Grounds.{IsSize, HasIndexes, HasDescriptors, HeldTwice, HasMap, faults, HasNames, mending_faults}
use Rattle.demands.proofs.Deciding.{Decide, broken}

-- the tests of the rules, as the grounds state them
pub sized_is : (image : List ℕ) → size_rule image ≡ true → IsSize image
sized_is image e = let size = size_is image e in record { whole = size.0; range = (size.1, size.2) }

pub is_sized : (image : List ℕ) → IsSize image → size_rule image ≡ true
is_sized image is = is_size image is.whole is.range.0 is.range.1

-- the entries and the indexes; the descriptors and the order of their names
module _ (layout : Layout) (image : List ℕ) where
  indexed_is : entries_rule (sector_count image) (entries layout (sector_of image 0)) && every (λ i. index_rule (sector_count image) (sector_of image i)) (indexes layout image) ≡ true → HasIndexes layout image
  indexed_is e =
      let n = sector_count image in
      let rules = both (entries_rule n (entries layout (sector_of image 0))) (every (λ i. index_rule n (sector_of image i)) (indexes layout image)) e in
      record {
        entered = entries_are n (entries layout (sector_of image 0)) rules.0;
        each = λ i indexed. index_is n (sector_of image i) (every_is (λ i. index_rule n (sector_of image i)) (indexes layout image) rules.1 i indexed);
      }

  is_indexed : HasIndexes layout image → entries_rule (sector_count image) (entries layout (sector_of image 0)) && every (λ i. index_rule (sector_count image) (sector_of image i)) (indexes layout image) ≡ true
  is_indexed has =
      let n = sector_count image in
      rw (are_entries n (entries layout (sector_of image 0)) has.entered)
      (is_every (λ i. index_rule n (sector_of image i)) (indexes layout image) (λ i indexed. is_index n (sector_of image i) (has.each i indexed)))

  abbrev described : ℕ → Bool
  described i = descriptors_rule layout (sector_count image) image [] (files_in image i)

  described_is : every described (indexes layout image) ≡ true → HasDescriptors layout image
  described_is e =
      let each = every_is described (indexes layout image) e in
      record {
        descriptors = λ i indexed. descriptors_are layout (sector_count image) image [] (files_in image i) (each i indexed);
        ascending = λ i indexed. ascend layout (sector_count image) image [] (files_in image i) (each i indexed);
      }

  is_described : HasDescriptors layout image → every described (indexes layout image) ≡ true
  is_described has =
      is_every described (indexes layout image)
      (λ i indexed.
      are_descriptors layout (sector_count image) image [] (files_in image i) (has.descriptors i indexed)
      (λ p h. precedes_none (name_in image (get_or (files_in image i) p 0)) (name_long layout (sector_count image) image (get_or (files_in image i) p 0) (has.descriptors i indexed p h)))
      (has.ascending i indexed))

  -- and as repair has them: no two names are equal
  abbrev apart : ℕ → Bool
  apart i = each_rule layout (sector_count image) image (files_in image i) && distinct_rule image [] (files_in image i)

  named_is : every apart (indexes layout image) ≡ true → HasNames layout image
  named_is e =
      let each : (i : ℕ) → IsIndexed layout image i → (each_rule layout (sector_count image) image (files_in image i) ≡ true) × (distinct_rule image [] (files_in image i) ≡ true) =
      λ i indexed. both (each_rule layout (sector_count image) image (files_in image i)) (distinct_rule image [] (files_in image i)) (every_is apart (indexes layout image) e i indexed)
      in
      record {
        descriptors = λ i indexed. each_is layout (sector_count image) image (files_in image i) (each i indexed).0;
        distinct = λ i indexed. (distinct_is image [] (files_in image i) (each i indexed).1).1;
      }

  is_named_lem : HasNames layout image → every apart (indexes layout image) ≡ true
  is_named_lem has =
      is_every apart (indexes layout image)
      (λ i indexed.
      rw (is_each layout (sector_count image) image (files_in image i) (has.descriptors i indexed))
      (is_distinct image [] (files_in image i) (λ k some q h e. omega (arith, some, count_none k)) (has.distinct i indexed)))

record Twice (hs : List ℕ) : Type 0 where
  sector : ℕ
  twice : 2 ≤ count sector hs

twice_held : (hs : List ℕ) → held_twice hs ≡ true → Twice hs
unfolding held_twice
twice_held [] e = absurd_test (sym e)
twice_held (h ∷ hs) e = go (ltb 0 (count h hs)) refl e (twice_held hs)
  where
    go : (t : Bool) → ltb 0 (count h hs) ≡ t → (t || held_twice hs) ≡ true → (held_twice hs ≡ true → Twice hs) → Twice (h ∷ hs)
    go true here e more = record { sector = h; twice = omega (arith, ltb-true 0 (count h hs) here, count_here h hs) }
    go false here e more = let later = more e in record { sector = later.sector; twice = omega (arith, later.twice, count_more later.sector h hs) }

twice_is : (layout : Layout) (image : List ℕ) → held_twice (holders layout image) ≡ true → HeldTwice layout image
twice_is layout image e = let held = twice_held (holders layout image) e in record { sector = held.sector; twice = held.twice }

not_twice : (layout : Layout) (image : List ℕ) → held_twice (holders layout image) ≡ false → HeldTwice layout image → ⊥
not_twice layout image e held = omega (arith, held_once (holders layout image) e held.sector, held.twice)

map_is : (layout : Layout) (image : List ℕ) → sector_count image ≤ 1600 → map_rule (sector_count image) (holders layout image) (sector_of image 0) ≡ true → HasMap layout image
map_is layout image low e =
    let n = sector_count image in
    let bits = map_at n (holders layout image) (sector_of image 0) e in
    record {
      marked = λ k h. bits k (omega (arith, low)) ∙ taken_below n (holders layout image) k h;
      filled = λ k h l. bits k l ∙ taken_past n (holders layout image) k h;
    }

is_map : (layout : Layout) (image : List ℕ) → HasMap layout image → map_rule (sector_count image) (holders layout image) (sector_of image 0) ≡ true
is_map layout image has =
    at_map (sector_count image) (holders layout image) (sector_of image 0) (bits_taken (sector_count image) (holders layout image) (sector_of image 0) has.marked has.filled)

pub faults_decided : (layout : Layout) (image : List ℕ) → Decide (volume_tests layout image) (faults layout image)
unfolding Decide volume_tests faults
faults_decided layout image =
    let n = sector_count image in (
      refl,
      broken (sized_is image) (is_sized image),
      λ sized. (
        refl,
        broken (label_is n (sector_of image 0)) (is_label n (sector_of image 0)),
        λ _. (
          refl,
          broken (indexed_is layout image) (is_indexed layout image),
          λ _. (
            refl,
            broken (described_is layout image) (is_described layout image),
            λ _. (
              refl,
              record { yes_there = twice_is layout image; not_there = not_twice layout image },
              λ _. (refl, broken (map_is layout image (size_is image (not-false (size_rule image) sized)).2) (is_map layout image), λ _. tt),
            ),
          ),
        ),
      ),
    )

pub mending_decided : (layout : Layout) (image : List ℕ) → Decide (repair_tests layout image) (mending_faults layout image)
unfolding Decide repair_tests mending_faults
mending_decided layout image =
    let n = sector_count image in (
      refl,
      broken (sized_is image) (is_sized image),
      λ _. (
        refl,
        broken (label_is n (sector_of image 0)) (is_label n (sector_of image 0)),
        λ _. (
          refl,
          broken (indexed_is layout image) (is_indexed layout image),
          λ _. (
            refl,
            broken (named_is layout image) (is_named_lem layout image),
            λ _. (refl, record { yes_there = twice_is layout image; not_there = not_twice layout image }, λ _. tt),
          ),
        ),
      ),
    )

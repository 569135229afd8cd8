-- Repair, after a stop between two writes of a call: every index ordered by name, then the map made anew; nothing else is touched. It refuses with 1 to 5, except that distinct names may stand in any order; 6 is never a refusal.
use Rattle.std.specs.Prelude.{◌≡◌, Bool, true, false, not, ◌&&◌, ◌||◌, List, [], ◌∷◌, ◌++◌, map, ℕ, ◌*◌, ◌≤◌, ◌<◌, length}
use Rattle.rules.specs.Bytes.{same, splice}
use Rattle.rules.specs.Sectors.{sector_of, sector_count, Write}
use Rattle.rules.specs.Label.{label_rule, IsLabel}
use Rattle.rules.specs.Map.{count, map_of}
use Rattle.rules.specs.Descriptor.{descriptor_rule, IsDescriptor}
use Rattle.rules.specs.Index.{index_rule, index_of, IsIndex}
use Rattle.rules.specs.Directory.{entries, entries_rule, AreEntries}
use Rattle.rules.specs.Volume.{indexes, every, files_in, name_in, holders, placed}
use Rattle.rules.specs.Tests.{Test, refuse}
use Rattle.rules.specs.Verdict.{size_rule, held_twice}
use Rattle.rules.specs.Sound.{file_at, IsIndexed}
use Rattle.rules.specs.Outcome.{Outcome, write, tested}
use Rattle.rules.specs.declared.Layout.{Layout}

-- whether a file among ks has that name
unfoldable pub named_in : List ℕ → List ℕ → List ℕ → Bool
named_in image name [] = false
named_in image name (k ∷ ks) = same name (name_in image k) || named_in image name ks

-- 4, as repair has it: the descriptors keep their rules, and none has the name of an earlier one
unfoldable pub each_rule : Layout → ℕ → List ℕ → List ℕ → Bool
each_rule layout n image [] = true
each_rule layout n image (k ∷ ks) = descriptor_rule layout n (sector_of image k) && each_rule layout n image ks

unfoldable pub distinct_rule : List ℕ → List ℕ → List ℕ → Bool
distinct_rule image earlier [] = true
distinct_rule image earlier (k ∷ ks) = not (named_in image (name_in image k) earlier) && distinct_rule image (k ∷ earlier) ks

unfoldable pub repair_tests : Layout → List ℕ → List Test
repair_tests layout image =
    let n = sector_count image in
    let is = indexes layout image in
    refuse 1 (not (size_rule image))
    ∷ (refuse 2 (not (label_rule n (sector_of image 0)))
    ∷ (refuse 3 (not (entries_rule n (entries layout (sector_of image 0)) && every (λ i. index_rule n (sector_of image i)) is))
    ∷ (refuse 4 (not (every (λ i. each_rule layout n image (files_in image i) && distinct_rule image [] (files_in image i)) is))
    ∷ (refuse 5 (held_twice (holders layout image)) ∷ []))))

-- the numbers ks put one after another among those that stand in the order of the names they lead to
unfoldable pub ordered_onto : List ℕ → List ℕ → List ℕ → List ℕ
ordered_onto image done [] = done
ordered_onto image done (k ∷ ks) = ordered_onto image (placed image (name_in image k) k done) ks

unfoldable pub ordered : List ℕ → List ℕ → List ℕ
ordered image ks = ordered_onto image [] ks

-- the index in sector i ordered by name
unfoldable pub ordered_index : List ℕ → ℕ → Write
ordered_index image i = write i (index_of (ordered image (files_in image i)))

-- sector 0 with the map of the holders; bytes 0 to 55 are kept
unfoldable pub map_anew : Layout → List ℕ → List ℕ
map_anew layout image = splice (sector_of image 0) 56 (map_of (sector_count image) (holders layout image))

-- the root's index, those of the entries in their order, sector 0
unfoldable pub mending : Layout → List ℕ → List Write
mending layout image = map (ordered_index image) (indexes layout image) ++ (write 0 (map_anew layout image) ∷ [])

unfoldable pub repair_of : Layout → List ℕ → Outcome
repair_of layout image = tested (repair_tests layout image) (mending layout image)

-- What repair needs, as facts: all that makes a volume sound but the order of the names and the map.
pub record MendableIndex (layout : Layout) (image : List ℕ) (i : ℕ) : Type 0 where
  pub index : IsIndex (sector_count image) (sector_of image i)
  pub descriptors : (p : ℕ) → p < length (files_in image i) → IsDescriptor layout (sector_count image) (sector_of image (file_at image i p))
  pub distinct : (p q : ℕ) → p < q → q < length (files_in image i) → name_in image (file_at image i p) ≡ name_in image (file_at image i q) → ⊥

pub record Mendable (layout : Layout) (image : List ℕ) : Type 0 where
  pub whole : length image ≡ 256 * sector_count image
  pub size : (3 ≤ sector_count image) × (sector_count image ≤ 1600)
  pub label : IsLabel (sector_count image) (sector_of image 0)
  pub entered : AreEntries (sector_count image) (entries layout (sector_of image 0))
  pub each : (i : ℕ) → IsIndexed layout image i → MendableIndex layout image i
  pub single : (k : ℕ) → count k (holders layout image) ≤ 1

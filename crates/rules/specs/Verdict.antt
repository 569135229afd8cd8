-- Numbers 1 to 6, in the table's order: the whole image is tested for 1, then 2, and so on. This is what the judge gives.
use Rattle.std.specs.Prelude.{Bool, true, false, not, ◌&&◌, ◌||◌, List, [], ◌∷◌, ℕ, ◌%◌, eqb, leb, ltb, length}
use Rattle.rules.specs.Sectors.{sector_of, sector_count}
use Rattle.rules.specs.Name.{precedes}
use Rattle.rules.specs.Label.{label_rule}
use Rattle.rules.specs.Map.{count, map_rule}
use Rattle.rules.specs.Descriptor.{descriptor_rule}
use Rattle.rules.specs.Index.{index_rule}
use Rattle.rules.specs.Directory.{entries, entries_rule}
use Rattle.rules.specs.Volume.{indexes, every, files_in, name_in, holders}
use Rattle.rules.specs.Tests.{Test, refuse, first_of}
use Rattle.rules.specs.declared.Layout.{Layout}

-- 1: the length is 256 × n for n 3 to 1,600
unfoldable pub size_rule : List ℕ → Bool
size_rule image = eqb (length image % 256) 0 && (leb 3 (sector_count image) && leb (sector_count image) 1600)

-- 4: the descriptors keep their rules, and the names ascend strictly after the name `previous`
unfoldable pub descriptors_rule : Layout → ℕ → List ℕ → List ℕ → List ℕ → Bool
descriptors_rule layout n image previous [] = true
descriptors_rule layout n image previous (k ∷ ks) =
    descriptor_rule layout n (sector_of image k) && (precedes previous (name_in image k) && descriptors_rule layout n image (name_in image k) ks)

-- 5: a sector has two holders
unfoldable pub held_twice : List ℕ → Bool
held_twice [] = false
held_twice (h ∷ hs) = ltb 0 (count h hs) || held_twice hs

unfoldable pub volume_tests : Layout → List ℕ → List Test
volume_tests layout image =
    let n = sector_count image in
    let is = indexes layout image in
    refuse 1 (not (size_rule image))
    ∷ (refuse 2 (not (label_rule n (sector_of image 0)))
    ∷ (refuse 3 (not (entries_rule n (entries layout (sector_of image 0)) && every (λ i. index_rule n (sector_of image i)) is))
    ∷ (refuse 4 (not (every (λ i. descriptors_rule layout n image [] (files_in image i)) is))
    ∷ (refuse 5 (held_twice (holders layout image)) ∷ (refuse 6 (not (map_rule n (holders layout image) (sector_of image 0))) ∷ [])))))

unfoldable pub verdict : Layout → List ℕ → ℕ
verdict layout image = first_of (volume_tests layout image)

-- A sound volume, as facts about its files, sectors and counts.
use Rattle.std.specs.Prelude.{◌≡◌, List, ℕ, ◌*◌, ◌≤◌, ◌<◌, length, get_or}
use Rattle.rules.specs.Sectors.{sector_of, sector_count}
use Rattle.rules.specs.Name.{Before}
use Rattle.rules.specs.Label.{IsLabel}
use Rattle.rules.specs.Map.{map_bit, count}
use Rattle.rules.specs.Descriptor.{IsDescriptor}
use Rattle.rules.specs.Index.{IsIndex}
use Rattle.rules.specs.Directory.{entries, AreEntries}
use Rattle.rules.specs.Volume.{indexes, files_in, name_in, holders}
use Rattle.rules.specs.declared.Layout.{Layout}

-- the sector of the descriptor of the file at a place of the catalogue of index i
abbrev pub file_at : List ℕ → ℕ → ℕ → ℕ
file_at image i p = get_or (files_in image i) p 0

-- i is the sector of an index
abbrev pub IsIndexed : Layout → List ℕ → ℕ → Type 0
IsIndexed layout image i = 1 ≤ count i (indexes layout image)

-- an index keeps its rules, and the descriptors that it leads to keep theirs, their names in order
pub record SoundIndex (layout : Layout) (image : List ℕ) (i : ℕ) : Type 0 where
  pub index : IsIndex (sector_count image) (sector_of image i)
  pub descriptors : (p : ℕ) → p < length (files_in image i) → IsDescriptor layout (sector_count image) (sector_of image (file_at image i p))
  pub ascending : (p q : ℕ) → p < q → q < length (files_in image i) → Before (name_in image (file_at image i p)) (name_in image (file_at image i q))

pub record Sound (layout : Layout) (image : List ℕ) : Type 0 where
  -- n sectors of 256 bytes, n from 3 to 1,600
  pub whole : length image ≡ 256 * sector_count image
  pub size : (3 ≤ sector_count image) × (sector_count image ≤ 1600)
  pub label : IsLabel (sector_count image) (sector_of image 0)
  -- the entries of the directories, and every index
  pub entered : AreEntries (sector_count image) (entries layout (sector_of image 0))
  pub each : (i : ℕ) → IsIndexed layout image i → SoundIndex layout image i
  -- no sector has two holders
  pub single : (k : ℕ) → count k (holders layout image) ≤ 1
  -- the map marks the holders and nothing else below the end, and all from there on
  pub marked : (k : ℕ) → k < sector_count image → map_bit (sector_of image 0) k ≡ count k (holders layout image)
  pub filled : (k : ℕ) → sector_count image ≤ k → k < 1600 → map_bit (sector_of image 0) k ≡ 1

-- k is the sector of the descriptor of a file that index i lists, on a sound volume
pub record IsFile (layout : Layout) (image : List ℕ) (i k : ℕ) : Type 0 where
  pub sound : Sound layout image
  pub indexed : IsIndexed layout image i
  pub place : ℕ
  pub inside : place < length (files_in image i)
  pub is : file_at image i place ≡ k

-- The one laid down form of a volume, as facts: what the target of packing is. Packing keeps sector 0 bytes 0-55, but for the index sectors of directories: these go from sector 2 on in the order of the entries, and their new numbers are put into the entries. Then come the descriptors, the root's first, in name order, with bytes 0-27 kept; data follows in the same order without a gap; a file with sectors has one block; unused blocks and index places are zero; free sectors are all E5 hex. With f files and no directories, descriptors go to sectors 2 to f + 1 and data follows from sector f + 2.
use Rattle.std.specs.Prelude.{◌≡◌, ◌↔◌, List, [], ◌∷◌, ◌++◌, map, ℕ, ◌+◌, ◌≤◌, ◌<◌, length, replicate}
use Rattle.rules.specs.Bytes.{part}
use Rattle.rules.specs.Sectors.{sector_of, sector_count}
use Rattle.rules.specs.Map.{count, map_of}
use Rattle.rules.specs.Chain.{blocks, run, chain_with}
use Rattle.rules.specs.Descriptor.{chain_of}
use Rattle.rules.specs.Index.{index_of}
use Rattle.rules.specs.Directory.{entries, entry_index}
use Rattle.rules.specs.Volume.{index_at, indexes, files_in, files_of, places_in, holders, catalogues}
use Rattle.rules.specs.Sound.{IsIndexed}
use Rattle.rules.specs.Calls.Pack.{with_indexes, label_area}
use Rattle.rules.specs.declared.Layout.{Layout}

-- the files of the root, then those of each entry
abbrev pub all_files : Layout → List ℕ → List ℕ
all_files layout image = files_of image (indexes layout image)

-- the places of several files, those of one behind those of the other
unfoldable pub places_of : (image ks : List ℕ) → List ℕ
places_of image [] = []
places_of image (k ∷ ks) = places_in image k ++ places_of image ks

-- a chain of one block, or of none, and zeros behind it
pub record OneBlock (chain : List ℕ) : Type 0 where
  pub few : length (blocks chain) ≤ 1
  pub rest : chain ≡ chain_with (blocks chain)

pub record Packs (layout : Layout) (source target : List ℕ) : Type 0 where
  pub size : length target ≡ length source
  -- sector 0 keeps bytes 0-55, with the new index sectors in the entries; its map is that of the holders
  pub label : part (sector_of target 0) 0 56 ≡ with_indexes (label_area layout source) 30 (map entry_index (entries layout (sector_of target 0)))
  pub map : part (sector_of target 0) 56 200 ≡ map_of (sector_count target) (holders layout target)
  -- behind that of the root, in sector 1, index sectors go from 2 on in the order of the entries; the same directories are there
  pub indexed : indexes layout target ≡ run 1 (length (indexes layout source))
  pub entered : (directory : ℕ) → (index_at layout target directory ≡ 0) ↔ (index_at layout source directory ≡ 0)
  -- descriptors go to the sectors behind them, the root's first, and unused index places are zero
  pub files : all_files layout target ≡ run (1 + length (indexes layout source)) (length (all_files layout source))
  pub index : (i : ℕ) → IsIndexed layout target i → sector_of target i ≡ index_of (files_in target i)
  -- in name order, bytes 0-27 of the descriptors and the data as they were
  pub listed : catalogues layout target ≡ catalogues layout source
  -- data follows in the same order without a gap
  pub gapless : places_of target (all_files layout target) ≡ run (1 + length (indexes layout source) + length (all_files layout source)) (length (places_of target (all_files layout target)))
  -- a file with sectors has one block, and unused blocks are zero
  pub chains : (k : ℕ) → 1 ≤ count k (all_files layout target) → OneBlock (chain_of (sector_of target k))
  -- free sectors are all E5 hex
  pub free : (k : ℕ) → k < sector_count target → count k (holders layout target) ≡ 0 → sector_of target k ≡ replicate 256 0xE5

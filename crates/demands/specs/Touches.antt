-- Which sectors a change touches, in which order they are to be written, and what it leaves there; every other sector stands as it stood. In the words of the choices where the layout is free.
-- What a file then holds, header and contents, the catalogue says (Effects).
use Rattle.std.specs.Prelude.{◌≡◌, cond, List, [], ◌∷◌, ◌++◌, ℕ, ◌+◌, ◌≤◌, ◌<◌, length, get_or}
use Rattle.rules.specs.Sectors.{sector_of, sector_count}
use Rattle.rules.specs.Map.{count, marked_all}
use Rattle.rules.specs.Chain.{blocks, chain_with}
use Rattle.rules.specs.Kind.{sectors_for}
use Rattle.rules.specs.Descriptor.{chain_of}
use Rattle.rules.specs.Index.{index_of}
use Rattle.rules.specs.Volume.{index_at, files_in, name_in, places_in}
use Rattle.rules.specs.declared.Layout.{Layout}
use Rattle.rules.specs.declared.Block.{Block}
use Rattle.demands.specs.Call as call
use Rattle.demands.specs.Call.{Change}
use Rattle.demands.specs.Grounds.{Has}
use Rattle.demands.specs.Taking.{ForDescriptor, Taken}

-- every sector but those touched stands as it stood
abbrev pub Others : (image after touched : List ℕ) → Type 0
Others image after touched = (j : ℕ) → j < sector_count image → count j touched ≡ 0 → sector_of after j ≡ sector_of image j

-- index i lists the numbers that it listed, less those that go and more those that come, without a gap; zeros are behind them
pub record Numbers (image after : List ℕ) (i : ℕ) (goes comes : List ℕ) : Type 0 where
  pub lists : (j : ℕ) → count j (files_in after i) + count j goes ≡ count j (files_in image i) + count j comes
  pub laid : sector_of after i ≡ index_of (files_in after i)

-- the file of that name in index i: the sector of its descriptor, its places and its chain
pub record Lies (after : List ℕ) (i : ℕ) (name : List ℕ) (k : ℕ) (places chain : List ℕ) : Type 0 where
  pub listed : 1 ≤ count k (files_in after i)
  pub named : name_in after k ≡ name
  pub places_are : places_in after k ≡ places
  pub chain_is : chain_of (sector_of after k) ≡ chain

-- a file that keeps its places and its chain
pub record Stays (image after : List ℕ) (i : ℕ) (name : List ℕ) (k : ℕ) (touched : List ℕ) : Type 0 where
  pub lies : Lies after i name k (places_in image k) (chain_of (sector_of image k))
  pub others : Others image after touched

-- a file that takes so many sectors behind those that it has; `first` are those that the call has taken before them, `system` what it touches of sector 0 and the index. Their map bits are one now,
-- and nothing else of sector 0 changes.
pub record Gains (image after : List ℕ) (i : ℕ) (name : List ℕ) (k : ℕ) (first places : List ℕ) (before : List Block) (many : ℕ) (system : List ℕ) : Type 0 where
  pub taken : Taken image first places before many
  pub lies : Lies after i name k (places ++ taken.ks) (chain_with taken.chain)
  pub map : sector_of after 0 ≡ marked_all 1 (sector_of image 0) (first ++ taken.ks)
  pub others : Others image after (system ++ (k ∷ taken.ks))

-- a new file: its descriptor is chosen before its data. The writes: data in file order, descriptor, sector 0, index
pub record Enters (image after : List ℕ) (i : ℕ) (name : List ℕ) (many : ℕ) (order : List ℕ) : Type 0 where
  pub k : ℕ
  pub chosen : ForDescriptor image k
  pub gains : Gains image after i name k (k ∷ []) [] [] many (0 ∷ (i ∷ []))
  pub numbers : Numbers image after i [] (k ∷ [])
  pub writes : order ≡ gains.taken.ks ++ (k ∷ (0 ∷ (i ∷ [])))

-- a file that takes one sector more: data, sector 0, descriptor
pub record Grows (image after : List ℕ) (i : ℕ) (name : List ℕ) (order : List ℕ) (k : ℕ) : Type 0 where
  pub gains : Gains image after i name k [] (places_in image k) (blocks (chain_of (sector_of image k))) 1 (0 ∷ [])
  pub writes : order ≡ gains.taken.ks ++ (0 ∷ (k ∷ []))

-- a file that goes: its number leaves the index, and the map bits of its descriptor and its data are zero now; those sectors keep their bytes
pub record Leaves (image after : List ℕ) (i k : ℕ) : Type 0 where
  pub map : sector_of after 0 ≡ marked_all 0 (sector_of image 0) (k ∷ places_in image k)
  pub numbers : Numbers image after i (k ∷ []) []
  pub others : Others image after (0 ∷ (i ∷ []))

-- overwriting touches a data sector, and by the rule with marks the descriptor before it
abbrev pub overwrite_touches : Layout → (k place : ℕ) → List ℕ
overwrite_touches layout k place = cond layout.marks (k ∷ (place ∷ [])) (place ∷ [])

-- change by change: i is the sector of the index, k that of the descriptor of the file of that name. The writes of delete: index, sector 0; of rename: descriptor, index; of the others what they touch
unfoldable pub TouchesIn : Layout → Change → (image after : List ℕ) (i : ℕ) (name order : List ℕ) → Type 0
TouchesIn layout (call.create status record_length records_per_sector) image after i name order = Enters image after i name 0 order
TouchesIn layout (call.store bytes) image after i name order = Enters image after i name (sectors_for (length bytes)) order
TouchesIn layout (call.append bytes) image after i name order = Has image i name (Grows image after i name order)
TouchesIn layout (call.overwrite offset bytes) image after i name order =
    Has image i name
    (λ k.
    let touched = overwrite_touches layout k (get_or (places_in image k) offset 0) in
    (offset < length (places_in image k)) × Stays image after i name k touched × (order ≡ touched))
TouchesIn layout call.protect image after i name order = Has image i name (λ k. Stays image after i name k (k ∷ []) × (order ≡ k ∷ []))
TouchesIn layout call.unprotect image after i name order = Has image i name (λ k. Stays image after i name k (k ∷ []) × (order ≡ k ∷ []))
TouchesIn layout call.clear image after i name order = Has image i name (λ k. Stays image after i name k (k ∷ []) × (order ≡ k ∷ []))
TouchesIn layout call.delete image after i name order = Has image i name (λ k. Leaves image after i k × (order ≡ i ∷ (0 ∷ [])))
TouchesIn layout (call.rename new) image after i name order = Has image i name (λ k. Stays image after i new k (k ∷ (i ∷ [])) × Numbers image after i [] [] × (order ≡ k ∷ (i ∷ [])))

-- in the directory of that number
abbrev pub Touches : Layout → Change → (image after : List ℕ) (directory : ℕ) (name order : List ℕ) → Type 0
Touches layout change image after directory name order = TouchesIn layout change image after (index_at layout image directory) name order

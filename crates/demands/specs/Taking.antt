-- Where new sectors are, as facts: the choices where the layout is free.
use Rattle.std.specs.Prelude.{◌≡◌, List, [], ◌∷◌, ◌++◌, ◌⊎◌, ℕ, ◌+◌, ◌≤◌, ◌<◌, length}
use Rattle.rules.specs.Sectors.{sector_of, sector_count}
use Rattle.rules.specs.Map.{map_bit, count}
use Rattle.rules.specs.declared.Block.{Block}

-- a sector of the volume that is free by the map, and none of those that the call has taken already
pub record Free (image taken : List ℕ) (k : ℕ) : Type 0 where
  pub inside : k < sector_count image
  pub free : map_bit (sector_of image 0) k ≡ 0
  pub other : count k taken ≡ 0

pub record Lowest (image taken : List ℕ) (from k : ℕ) : Type 0 where
  pub up : from ≤ k
  pub is : Free image taken k
  pub first : (j : ℕ) → from ≤ j → j < k → Free image taken j → ⊥

-- a new descriptor takes the lowest free sector from 2 up
abbrev pub ForDescriptor : (image : List ℕ) → ℕ → Type 0
ForDescriptor image k = Lowest image [] 2 k

-- data takes the lowest free sector from 34 up; when none is left there, the lowest free from 2 to 33
abbrev pub ForData : (image taken : List ℕ) → ℕ → Type 0
ForData image taken k = Lowest image taken 34 k ⊎ (((j : ℕ) → 34 ≤ j → Free image taken j → ⊥) × Lowest image taken 2 k)

-- a sector that follows the last of the file's places
pub record Follows (places : List ℕ) (k : ℕ) : Type 0 where
  pub front : List ℕ
  pub last : ℕ
  pub places_are : places ≡ front ++ (last ∷ [])
  pub next : k ≡ last + 1

-- it extends the last block, which holds that place; otherwise it begins a block; the earlier blocks stay
pub record Extends (places : List ℕ) (k : ℕ) (before after : List Block) : Type 0 where
  pub follows : Follows places k
  pub front : List Block
  pub block : Block
  pub was : before ≡ front ++ (block ∷ [])
  pub is : after ≡ front ++ (record { start = block.start; last = block.last + 1 } ∷ [])

pub record Begins (places : List ℕ) (k : ℕ) (before after : List Block) : Type 0 where
  pub apart : Follows places k → ⊥
  pub is : after ≡ before ++ (record { start = k; last = length places } ∷ [])

abbrev pub Longer : (places : List ℕ) (k : ℕ) (before after : List Block) → Type 0
Longer places k before after = Extends places k before after ⊎ Begins places k before after

-- some blocks between, to which one thing leads and from which another goes on
pub record Through (To From : List Block → Type 0) : Type 0 where
  pub between : List Block
  pub to : To between
  pub from : From between

-- several are taken one after another: the sectors ks, for the data of a file that has those places and blocks, when the call has taken others already; they make its blocks `after`
unfoldable pub Takes : (image taken places : List ℕ) (before : List Block) (ks : List ℕ) (after : List Block) → Type 0
Takes image taken places before [] after = after ≡ before
Takes image taken places before (k ∷ ks) after =
    ForData image taken k × Through (Longer places k before) (λ between. Takes image (k ∷ taken) (places ++ (k ∷ [])) between ks after)

-- so many of them
pub record Taken (image first places : List ℕ) (before : List Block) (many : ℕ) : Type 0 where
  pub ks : List ℕ
  pub so_many : length ks ≡ many
  pub chain : List Block
  pub takes : Takes image first places before ks chain

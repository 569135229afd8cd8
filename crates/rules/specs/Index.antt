-- Sector 1, and in the second edition the index of a directory: 128 numbers, each a descriptor's sector, from 2 to n-1. The first zero ends the list and all after it are zero. The last number is zero, so there are at most 127 files in it.
use Rattle.std.specs.Prelude.{◌≡◌, Bool, true, cond, ◌&&◌, List, [], ◌∷◌, ◌++◌, ℕ, ◌+◌, ◌*◌, ◌≤◌, ◌<◌, eqb, leb, ltb, length, drop, get_or, replicate}
use Rattle.rules.specs.Bytes.{byte_at, word_bytes, all_are, over}

-- the numbers up to the first zero
unfoldable pub numbers : List ℕ → List ℕ
numbers [] = []
numbers (high ∷ []) = []
numbers (high ∷ (low ∷ index)) = cond (eqb (256 * high + low) 0) [] ((256 * high + low) ∷ numbers index)

unfoldable pub range_rule : ℕ → List ℕ → Bool
range_rule n [] = true
range_rule n (k ∷ ks) = leb 2 k && (ltb k n && range_rule n ks)

unfoldable pub index_rule : ℕ → List ℕ → Bool
index_rule n index =
    range_rule n (numbers index)
    && (ltb (length (numbers index)) 128 && all_are 0 (drop (2 * length (numbers index)) index))

-- an index with those numbers
unfoldable pub numbers_bytes : List ℕ → List ℕ
numbers_bytes [] = []
numbers_bytes (k ∷ ks) = word_bytes k ++ numbers_bytes ks

unfoldable pub index_of : List ℕ → List ℕ
index_of ks = over (replicate 256 0) (numbers_bytes ks)

-- the number k taken out: later ones move down by one place
unfoldable pub without : ℕ → List ℕ → List ℕ
without k [] = []
without k (j ∷ js) = cond (eqb j k) js (j ∷ without k js)

-- The same as facts.
pub record IsIndex (n : ℕ) (index : List ℕ) : Type 0 where
  pub range : (p : ℕ) → p < length (numbers index) → (2 ≤ get_or (numbers index) p 0) × (get_or (numbers index) p 0 < n)
  pub few : length (numbers index) ≤ 127
  pub rest : (i : ℕ) → 2 * length (numbers index) ≤ i → byte_at index i ≡ 0

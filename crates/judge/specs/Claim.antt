-- The marks of the judge's loop over the holders: 200 bytes in the map's own order, on which sectors are claimed one after another.
use Rattle.std.specs.Prelude.{Bool, true, false, cond, ◌&&◌, List, [], ◌∷◌, ◌++◌, ℕ, ◌≤◌, ◌<◌, eqb, replicate}
use Rattle.rules.specs.Map.{map_bit, count, marked}
use Rattle.rules.specs.Volume.{files_in, file_holders}

-- the marks as the map of a sector 0; what stands before the map is of no account
unfoldable pub as_map : List ℕ → List ℕ
as_map marks = replicate 56 0 ++ marks

-- none of these sectors is taken
unfoldable pub all_free : List ℕ → List ℕ → Bool
all_free sector0 [] = true
all_free sector0 (k ∷ ks) = eqb (map_bit sector0 k) 0 && all_free sector0 ks

-- one of these sectors is taken when its turn comes: by the map, or by one that came before it
unfoldable pub clashes : List ℕ → List ℕ → Bool
clashes sector0 [] = false
clashes sector0 (k ∷ ks) = cond (eqb (map_bit sector0 k) 0) (clashes (marked 1 sector0 k) ks) true

-- these sectors are below n
abbrev pub Below : ℕ → List ℕ → Type 0
Below n ks = (k : ℕ) → 1 ≤ count k ks → k < n

-- what is claimed for these indexes: each of them, and what its files hold
unfoldable pub claims : List ℕ → List ℕ → List ℕ
claims image [] = []
claims image (i ∷ is) = i ∷ (file_holders image (files_in image i) ++ claims image is)

-- What was entered into a table, the latest first.
use Rattle.std.specs.Prelude.{◌≡◌, true, cond, List, [], ◌∷◌, ℕ, eqb, replicate}
use Rattle.sums.specs.Table.{Entered}

pub record Entry : Type 0 where
  pub place : ℕ
  pub sum : ℕ

-- the places that were entered under a sum
unfoldable pub places_under : ℕ → List Entry → List ℕ
places_under sum [] = []
places_under sum (entry ∷ entries) = cond (eqb entry.sum sum) (entry.place ∷ places_under sum entries) (places_under sum entries)

-- the arrays once these were entered one by one, into arrays that had zeros for all buckets
pub data History : (last earlier sums : List ℕ) → List Entry → Type 0 where
  begun : {last earlier sums : List ℕ} (buckets : ℕ) → last ≡ replicate buckets 0 → History last earlier sums []
  more : {last earlier sums last' earlier' sums' : List ℕ} {entries : List Entry} (entry : Entry) → History last earlier sums entries
      → Entered entry.place entry.sum true last earlier sums last' earlier' sums' → History last' earlier' sums' (entry ∷ entries)

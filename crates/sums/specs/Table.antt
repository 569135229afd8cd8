-- The table of places by their sums: which places the three arrays have under a sum, and in which order a walk meets them.
use Rattle.std.specs.Prelude.{◌≡◌, Bool, true, false, cond, ◌&&◌, List, [], ◌∷◌, ℕ, zero, suc, ◌+◌, ◌<◌, ◌%◌, eqb, ltb, length, get_or}

-- the place that was entered before this one in its bucket, or 0; what does not lead to a lower place leads nowhere
unfoldable pub link_of : (earlier : List ℕ) → ℕ → ℕ
link_of earlier place = cond (ltb (get_or earlier place 0) place) (get_or earlier place 0) 0

-- the places with this sum, from `place` on by the links, in so many steps; as places fall, `place` steps are enough
unfoldable pub chain : (sum : ℕ) → (earlier sums : List ℕ) → (steps place : ℕ) → List ℕ
chain sum earlier sums zero place = []
chain sum earlier sums (suc steps) zero = []
chain sum earlier sums (suc steps) (suc p) =
    let rest = chain sum earlier sums steps (link_of earlier (suc p)) in
    cond (eqb (get_or sums (suc p) 0) sum) (suc p ∷ rest) rest

-- all places under a sum: those on the chain of its bucket that have it
unfoldable pub under : (sum : ℕ) → (last earlier sums : List ℕ) → List ℕ
under sum last earlier sums = let top = get_or last (sum % length last) 0 in chain sum earlier sums top top

-- what a walk that has come to a place under the sum still meets: this place and those behind it; nothing at 0
unfoldable pub walk : (place sum : ℕ) → (earlier sums : List ℕ) → List ℕ
walk zero sum earlier sums = []
walk (suc p) sum earlier sums = suc p ∷ chain sum earlier sums p (link_of earlier (suc p))

-- every place that was entered is below `next`
pub record Table (last : List ℕ) (next : ℕ) : Type 0 where
  pub below : (bucket : ℕ) → get_or last bucket 0 < next

-- whether there is room for a place: in the arrays, and in the 32 bits that keep it
unfoldable pub fits : (place : ℕ) → (last earlier sums : List ℕ) → Bool
fits place last earlier sums = ltb place (length earlier) && (ltb place (length sums) && (ltb 0 (length last) && ltb place 4294967296))

-- a place entered under a sum: it comes first there, and under no other sum does anything change. Where it does not fit, nothing changes at all
pub record Entered (place sum : ℕ) (done : Bool) (last earlier sums last' earlier' sums' : List ℕ) : Type 0 where
  pub said : done ≡ fits place last earlier sums
  pub own : done ≡ true → under sum last' earlier' sums' ≡ place ∷ under sum last earlier sums
  pub others : (other : ℕ) → (other ≡ sum → ⊥) → under other last' earlier' sums' ≡ under other last earlier sums
  pub refused : done ≡ false → (last' ≡ last) × (earlier' ≡ earlier) × (sums' ≡ sums)
  pub table : Table last' (place + 1)

-- The steps of a chain, by the definition: its end, a place with the sum and one without; and that as many steps as the place is high are enough, since places fall.
use mathlib.Core.Path.{◌≡◌, refl, ap}
use mathlib.Core.List.{List, ◌∷◌}
use Prim.Native.Nat.{ℕ, zero, suc, ◌≤◌, ◌<◌, ◌%◌}
use native.Mathlib.Omega.{arith}
use native.Mathlib.Decide.{dec_lt}
use lib.ListN.{length, get_or, get_or-eq_default}
use borrow.Author.Tests.{lt-ltb, le-ltb, eq-eqb, ne_eqb}
use Rattle.sums.specs.Table.{link_of, chain, under, walk}

-- a link leads to a lower place, or to 0
pub link_down : (earlier : List ℕ) (place : ℕ) → get_or earlier place 0 < place → link_of earlier place ≡ get_or earlier place 0
unfolding link_of
link_down earlier place h = rw (lt-ltb _ _ h)

pub link_none : (earlier : List ℕ) (place : ℕ) → place ≤ get_or earlier place 0 → link_of earlier place ≡ 0
unfolding link_of
link_none earlier place h = rw (le-ltb _ _ h)

pub link_falls : (earlier : List ℕ) (p : ℕ) → link_of earlier (suc p) ≤ p
link_falls earlier p =
    elim (dec_lt (get_or earlier (suc p) 0) (suc p)) [
      | yes h ↦ omega (arith, link_down earlier (suc p) h)
      | no h ↦ omega (arith, link_none earlier (suc p) (omega arith))
    ]

module _ (sum : ℕ) (earlier sums : List ℕ) where
  -- enough steps are enough
  enough : (steps more place : ℕ) → place ≤ steps → place ≤ more → chain sum earlier sums steps place ≡ chain sum earlier sums more place
  unfolding chain
  enough zero zero place h k = refl
  enough zero (suc more) zero h k = refl
  enough zero (suc more) (suc p) h k = absurd (omega arith)
  enough (suc steps) zero zero h k = refl
  enough (suc steps) zero (suc p) h k = absurd (omega arith)
  enough (suc steps) (suc more) zero h k = refl
  enough (suc steps) (suc more) (suc p) h k =
      let falls = link_falls earlier p in
      rw (enough steps more (link_of earlier (suc p)) (omega arith) (omega arith))

  -- the chain from a place on: a place with the sum is the first that a walk meets, another is passed over, and 0 is the end
  pub chain_end : (place : ℕ) → place ≡ 0 → chain sum earlier sums place place ≡ walk 0 sum earlier sums
  unfolding chain walk
  chain_end place e = rw e

  pub chain_here : (place : ℕ) → 0 < place → get_or sums place 0 ≡ sum → chain sum earlier sums place place ≡ walk place sum earlier sums
  unfolding chain walk
  chain_here zero h e = absurd (omega arith)
  chain_here (suc p) h e = rw (eq-eqb (get_or sums (suc p) 0) sum e)

  pub chain_on : (place : ℕ) → 0 < place → (get_or sums place 0 ≡ sum → ⊥) → chain sum earlier sums place place ≡ chain sum earlier sums (link_of earlier place) (link_of earlier place)
  unfolding chain
  chain_on zero h e = absurd (omega arith)
  chain_on (suc p) h e =
      let falls = link_falls earlier p in
      rw (ne_eqb (get_or sums (suc p) 0) sum e) (enough p (link_of earlier (suc p)) (link_of earlier (suc p)) falls (omega arith))

  -- a walk meets its place, and then those of the chain that its link begins
  pub walk_on : (place : ℕ) → 0 < place → walk place sum earlier sums ≡ place ∷ chain sum earlier sums (link_of earlier place) (link_of earlier place)
  unfolding walk
  walk_on zero h = absurd (omega arith)
  walk_on (suc p) h =
      let falls = link_falls earlier p in
      ap (λ (l : List ℕ). suc p ∷ l) (enough p (link_of earlier (suc p)) (link_of earlier (suc p)) falls (omega arith))

  -- without buckets there is none under any sum
  pub none_under : (last : List ℕ) → length last ≡ 0 → under sum last earlier sums ≡ walk 0 sum earlier sums
  unfolding under
  none_under last none = chain_end _ (get_or-eq_default last 0 {n = sum % length last} (omega arith))

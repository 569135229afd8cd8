-- The blocks of a chain stand in it, three bytes each.
use mathlib.Core.Path.{◌≡◌, refl}
use mathlib.Core.Bool.{Bool, true, false}
use mathlib.Core.List.{List, [], ◌∷◌}
use Prim.Native.Nat.{ℕ, ◌*◌, ◌≤◌}
use native.Mathlib.Omega.{arith}
use lib.ListN.{length}
use Rattle.rules.specs.Chain.{blocks, ends_chain}

pub blocks_inside : (chain : List ℕ) → 3 * length (blocks chain) ≤ length chain
unfolding blocks
blocks_inside [] = omega arith
blocks_inside (a ∷ []) = omega arith
blocks_inside (a ∷ (b ∷ [])) = omega arith
blocks_inside (a ∷ (b ∷ (c ∷ chain))) = here (ends_chain a b c) refl (blocks_inside chain)
  where
    here : (t : Bool) → ends_chain a b c ≡ t → 3 * length (blocks chain) ≤ length chain → 3 * length (blocks (a ∷ (b ∷ (c ∷ chain)))) ≤ length (a ∷ (b ∷ (c ∷ chain)))
    here true e more = rw e (omega arith)
    here false e more = rw e (omega arith)

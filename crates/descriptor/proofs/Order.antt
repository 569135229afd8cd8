-- The order of names, as the library and as the rules say it.
use mathlib.Core.Path.{◌≡◌, refl}
use mathlib.Core.Bool.{Bool, true, false, cond}
use mathlib.Core.List.{List, [], ◌∷◌}
use Prim.Native.Nat.{ℕ, ◌<◌}
use native.Mathlib.Omega.{arith}
use lib.Dec.{eqb, ltb}
use borrow.Author.Tests.{ne_eqb, ltb-true}
use Rattle.std.specs.Prelude.{Some}
use Rattle.std.specs.Ordering.{nat_cmp, is_lt, is_some_and, partial_ordering_then}
use Rattle.std.specs.Cmp.Lexicographic.{slice_partial_cmp}
use Rattle.rules.specs.Name.{precedes}

pub order_precedes : (first second : List ℕ) → is_some_and is_lt (slice_partial_cmp (λ (x y : ℕ). Some (nat_cmp x y)) first second) ≡ precedes first second
unfolding precedes
order_precedes [] [] = refl
order_precedes [] (b ∷ second) = refl
order_precedes (a ∷ first) [] = refl
order_precedes (a ∷ first) (b ∷ second) = go (ltb a b) (eqb a b) refl refl (order_precedes first second)
  where
    go : (t u : Bool) → ltb a b ≡ t → eqb a b ≡ u
        → is_some_and is_lt (slice_partial_cmp (λ (x y : ℕ). Some (nat_cmp x y)) first second) ≡ precedes first second
        → is_some_and is_lt (partial_ordering_then (Some (nat_cmp a b)) (slice_partial_cmp (λ (x y : ℕ). Some (nat_cmp x y)) first second)) ≡ cond (eqb a b) (precedes first second) (ltb a b)
    go true u less same more =
        let below : a < b = ltb-true a b less in
        let other : eqb a b ≡ false = ne_eqb a b (λ e. omega (arith, below, e)) in
        rw (less, other) refl
    go false true less same more = rw (less, same) more
    go false false less same more = rw (less, same) refl

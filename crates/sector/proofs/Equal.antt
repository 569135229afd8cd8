-- Equality byte by byte, as the library and as the rules say it.
use mathlib.Core.Path.{◌≡◌, refl, ap}
use mathlib.Core.Bool.{Bool, ◌&&◌}
use mathlib.Core.List.{List, [], ◌∷◌}
use Prim.Native.Nat.{ℕ}
use lib.Dec.{eqb}
use lib.Pointwise.{pointwise}
use Rattle.rules.specs.Bytes.{same}

pub pointwise_same : (first second : List ℕ) → pointwise eqb first second ≡ same first second
unfolding same
pointwise_same [] [] = refl
pointwise_same [] (b ∷ second) = refl
pointwise_same (a ∷ first) [] = refl
pointwise_same (a ∷ first) (b ∷ second) = ap (λ (t : Bool). eqb a b && t) (pointwise_same first second)

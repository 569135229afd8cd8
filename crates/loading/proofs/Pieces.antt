-- Sectors laid one after another into a buffer, cut at a length: a piece, and the rest after it.
use mathlib.Core.Path.{◌≡◌, refl, sym, ap, ◌∙◌}
use mathlib.Core.List.{List, [], ◌∷◌, ◌++◌, map}
use Prim.Native.Nat.{ℕ, zero, suc, ◌+◌, ◌-◌}
use native.Mathlib.Omega.{arith}
use native.Mathlib.Nat.{sub-zero}
use lib.ListN.{length, take}
use Rattle.rules.specs.Bytes.{splice}
use Rattle.rules.specs.Sectors.{joined}
use Rattle.rules.proofs.Splice.{splice_append, splice_none}

take_split : (size : ℕ) (first second : List ℕ) → take size (first ++ second) ≡ take size first ++ take (size - length (take size first)) second
take_split zero first second = refl
take_split (suc size) [] second = rw (sub-zero (suc size))
take_split (suc size) (b ∷ first) second =
    let e : suc size - suc (length (take size first)) ≡ size - length (take size first) = omega arith in
    rw e (ap (λ (l : List ℕ). b ∷ l) (take_split size first second))

module _ (sector : ℕ → List ℕ) (out : List ℕ) (at size : ℕ) where
  pub piece_laid : (p : ℕ) (ps piece : List ℕ) → piece ≡ take (size - at) (sector p)
      → splice out at (take (size - at) (joined (map sector (p ∷ ps)))) ≡ splice (splice out at piece) (at + length piece) (take (size - (at + length piece)) (joined (map sector ps)))
  unfolding joined
  piece_laid p ps piece e =
      let z : size - at - length piece ≡ size - (at + length piece) = omega arith in
      let cut : take (size - at) (sector p ++ joined (map sector ps)) ≡ piece ++ take (size - (at + length piece)) (joined (map sector ps)) =
      take_split (size - at) (sector p) (joined (map sector ps)) ∙ rw (← e, z)
      in
      ap (splice out at) cut ∙ sym (splice_append out at piece (take (size - (at + length piece)) (joined (map sector ps))))

  pub pieces_done : splice out at (take (size - at) (joined (map sector []))) ≡ out
  unfolding joined
  pieces_done = none (size - at)
    where
      none : (many : ℕ) → splice out at (take many []) ≡ out
      none zero = splice_none out at
      none (suc many) = splice_none out at

-- Bytes cut into sectors and laid end to end again are those bytes, with zeros behind them; and a file that was put into the catalogue stands there.
use mathlib.Core.Path.{◌≡◌, refl, ap, ◌∙◌}
use mathlib.Core.Bool.{Bool, true, false, cond}
use mathlib.Core.List.{List, [], ◌∷◌, ◌++◌}
use Prim.Native.Nat.{ℕ, zero, suc, ◌+◌, ◌-◌, ◌*◌, ◌≤◌, ◌<◌}
use native.Mathlib.Omega.{arith}
use native.Mathlib.Decide.{dec_lt}
use lib.ListN.{length, take, drop, get_or, replicate, length-drop, length-replicate, take-append-drop}
use lib.Seq.{take-append-le, take-append-add}
use Rattle.rules.specs.Bytes.{over, splice}
use Rattle.rules.specs.Name.{precedes}
use Rattle.rules.specs.Volume.{File}
use Rattle.rules.specs.Sectors.{joined}
use Rattle.rules.proofs.Splice.{splice_front}
use Rattle.rules.proofs.Written.{piece_length}
use Rattle.demands.specs.Catalogue.{file_name, no_file, put_in}
use Rattle.demands.specs.Effects.{pieces}

-- as many as were asked for
pub pieces-length : (many : ℕ) (bytes : List ℕ) → length (pieces many bytes) ≡ many
unfolding pieces
pieces-length zero bytes = refl
pieces-length (suc many) bytes = ap suc (pieces-length many (drop 256 bytes))

-- a piece is the bytes where they fit, and otherwise the front of them
piece_last : (size : ℕ) (bytes : List ℕ) → length bytes ≤ size → take (length bytes) (over (replicate size 0) bytes) ≡ bytes
unfolding splice
piece_last size bytes h = splice_front (replicate size 0) bytes (omega (arith, h, length-replicate {A = ℕ} size 0))

piece_full : (size : ℕ) (bytes : List ℕ) → size ≤ length bytes → over (replicate size 0) bytes ≡ take size bytes
unfolding over
piece_full zero bytes h = refl
piece_full (suc size) [] h = absurd (omega arith)
piece_full (suc size) (b ∷ bytes) h = ap (λ (l : List ℕ). b ∷ l) (piece_full size bytes (omega arith))

-- a piece, and the others behind it
joined_more : (size : ℕ) (bytes rest : List ℕ) → length (over (replicate size 0) bytes) ≡ size → size ≤ length bytes → take (length bytes - size) rest ≡ drop size bytes
    → take (length bytes) (over (replicate size 0) bytes ++ rest) ≡ bytes
joined_more size bytes rest long full more =
    let split : length bytes ≡ length (over (replicate size 0) bytes) + (length bytes - size) = omega arith in
    ap (λ (m : ℕ). take m (over (replicate size 0) bytes ++ rest)) split
    ∙ take-append-add (over (replicate size 0) bytes) rest (length bytes - size)
    ∙ rw (piece_full size bytes full, more) (take-append-drop size bytes)

pub joined-pieces : (many : ℕ) (bytes : List ℕ) → length bytes ≤ 256 * many → take (length bytes) (joined (pieces many bytes)) ≡ bytes
unfolding pieces joined
joined-pieces zero [] h = refl
joined-pieces zero (b ∷ bytes) h = absurd (omega arith)
joined-pieces (suc many) bytes h =
    let rest = joined (pieces many (drop 256 bytes)) in
    elim (dec_lt 256 (length bytes)) [
      | yes more ↦
          let left = length-drop 256 bytes in
          joined_more 256 bytes rest (piece_length bytes) (omega arith) (rw left at (joined-pieces many (drop 256 bytes) (omega (arith, left, h))))
      | no last ↦ take-append-le (length bytes) (over (replicate 256 0) bytes) rest (omega (arith, last, piece_length bytes)) ∙ piece_last 256 bytes (omega (arith, last))
    ]

-- a file that was put in stands in the catalogue
pub record Stands (file : File) (listed : List File) : Type 0 where
  pub place : ℕ
  pub inside : place < length listed
  pub is : get_or listed place no_file ≡ file

pub put_stands : (file : File) (listed : List File) → Stands file (put_in file listed)
unfolding put_in
put_stands file [] = record { place = 0; inside = omega arith; is = refl }
put_stands file (first ∷ more) = go (precedes (file_name file) (file_name first)) (put_stands file more)
  where
    go : (t : Bool) → Stands file (put_in file more) → Stands file (cond t (file ∷ (first ∷ more)) (first ∷ put_in file more))
    go true rest = record { place = 0; inside = omega arith; is = refl }
    go false rest = record { place = suc rest.place; inside = omega (arith, rest.inside); is = rest.is }

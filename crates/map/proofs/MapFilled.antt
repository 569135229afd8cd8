-- A map filled: 255 all over, zeros from the byte in which `used` lies to the one in which the end lies, and those two set.
use mathlib.Core.Path.{◌≡◌, sym, ap, ◌∙◌}
use mathlib.Core.List.{List}
use Prim.Native.Nat.{ℕ, ◌+◌, ◌-◌, ◌*◌, ◌/◌, ◌≤◌, ◌<◌}
use native.Mathlib.Omega.{arith}
use native.Mathlib.Decide.{dec_lt, ℕ_discrete}
use lib.ListN.{length, set, get_or, replicate, length-set, length-replicate, get_or-replicate}
use lib.Seq.{ext_get_or, get_or-set_same, get_or-set_other}
use Rattle.rules.specs.Bytes.{splice}
use Rattle.rules.specs.Chain.{run}
use Rattle.rules.specs.Map.{taken, byte_of, map_of}
use Rattle.rules.proofs.Map.{bytes_at}
use Rattle.rules.proofs.Formatted.{map_length}
use Rattle.rules.proofs.Splice.{splice-length, splice_inside, splice_below, splice_above}
use Rattle.map.proofs.HeldBytes.{byte_held, byte_free, byte_past}

module _ (n used : ℕ) (few : used ≤ n) (most : n ≤ 1600) where
  abbrev byte : ℕ → ℕ
  byte i = byte_of (taken n (run 0 used)) (8 * i)

  abbrev filled : List ℕ
  filled = splice (replicate 200 255) (used / 8) (replicate (n / 8 - used / 8) 0)

  filled_length : length filled ≡ 200
  filled_length = splice-length (replicate 200 255) (used / 8) (replicate (n / 8 - used / 8) 0) ∙ length-replicate {A = ℕ} 200 255

  -- the bytes that are neither of the two
  filled_at : (i : ℕ) → i < 200 → (i ≡ used / 8 → ⊥) → (i ≡ n / 8 → ⊥) → get_or filled i 0 ≡ byte i
  filled_at i inside held end =
      let long = length-replicate {A = ℕ} (n / 8 - used / 8) 0 in
      elim (dec_lt i (used / 8)) [
        | yes below ↦
            splice_below (replicate 200 255) (used / 8) _ i below ∙ get_or-replicate 200 i 255 0 inside ∙ byte_held n used (8 * i) few (omega arith)
        | no from ↦
            elim (dec_lt i (n / 8)) [
              | yes between ↦
                  let e : used / 8 + (i - used / 8) ≡ i = omega arith in
                  rw e at (splice_inside (replicate 200 255) (used / 8) (replicate (n / 8 - used / 8) 0) (i - used / 8) (omega (arith, long)) (omega (arith, length-replicate {A = ℕ} 200 255)))
                  ∙ get_or-replicate (n / 8 - used / 8) (i - used / 8) 0 0 (omega arith)
                  ∙ byte_free n used (8 * i) few (omega (arith, held)) (omega arith)
              | no past ↦
                  splice_above (replicate 200 255) (used / 8) (replicate (n / 8 - used / 8) 0) i (omega (arith, long))
                  ∙ get_or-replicate 200 i 255 0 inside
                  ∙ byte_past n used (8 * i) few (omega (arith, end))
            ]
      ]

  pub map_filled : set (set filled (used / 8) (byte (used / 8))) (n / 8) (byte (n / 8)) ≡ map_of n (run 0 used)
  unfolding map_of
  map_filled = ext_get_or 0 _ _ (size ∙ sym (map_length n (run 0 used))) (λ i inside. at i (omega (arith, inside, size)) ∙ sym (bytes_at (taken n (run 0 used)) 200 0 i (omega (arith, inside, size)) ∙ ap (byte_of (taken n (run 0 used))) (omega arith)))
    where
      size : length (set (set filled (used / 8) (byte (used / 8))) (n / 8) (byte (n / 8))) ≡ 200
      size = simp length-set filled_length

      at : (i : ℕ) → i < 200 → get_or (set (set filled (used / 8) (byte (used / 8))) (n / 8) (byte (n / 8))) i 0 ≡ byte i
      at i inside =
          elim (ℕ_discrete i (n / 8)) [
            | yes here ↦ rw here (get_or-set_same (set filled (used / 8) (byte (used / 8))) (n / 8) (byte (n / 8)) 0 (omega (arith, length-set filled (used / 8) (byte (used / 8)), filled_length)))
            | no other ↦
                get_or-set_other _ (n / 8) i _ 0 other
                ∙ elim (ℕ_discrete i (used / 8)) [
                  | yes here ↦ rw here (get_or-set_same filled (used / 8) (byte (used / 8)) 0 (omega (arith, filled_length)))
                  | no neither ↦ get_or-set_other _ (used / 8) i _ 0 neither ∙ filled_at i inside neither other
                ]
          ]

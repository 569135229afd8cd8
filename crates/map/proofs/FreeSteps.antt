-- The zero bits of the map, a byte at a time.
use mathlib.Core.Path.{◌≡◌, refl, ap}
use mathlib.Core.List.{List}
use Prim.Native.Nat.{ℕ, zero, suc, ◌+◌, ◌-◌, ◌*◌, ◌/◌, ◌%◌, ◌^◌, ◌≤◌, ◌<◌}
use native.Mathlib.Nat.{div-one, zero-div}
use native.Mathlib.Omega.{arith}
use native.Mathlib.Decide.{dec_lt}
use lib.ListN.{length, get_or-eq_default, length-take, length-drop}
use lib.Pow.{shr-shr}
use lib.Count.{ones, ones_step, ones-le}
use Rattle.rules.specs.Bytes.{byte_at, part}
use Rattle.rules.specs.Map.{map_bit, zero_bits}
use Rattle.rules.proofs.Bytes.{part_at}
use Rattle.rules.proofs.Free.{one_or_none}
use Rattle.rules.proofs.Map.{map_bit_lem}

-- the zero bits from byte i of the map on
abbrev pub zeros_from : List ℕ → ℕ → ℕ
zeros_from sector0 i = zero_bits sector0 (8 * (200 - i)) (8 * i)

module _ (sector0 : List ℕ) (i : ℕ) (small : byte_at sector0 (56 + i) < 256) where
  -- the bits of byte i from bit j on are zero where they are not one
  bits_step : (bits j many : ℕ) → j + bits ≡ 8
      → zero_bits sector0 (bits + many) (8 * i + j) + ones (byte_at sector0 (56 + i) / 2 ^ j) ≡ bits + zero_bits sector0 many (8 * i + 8)
  unfolding zero_bits
  bits_step zero j many all =
      let e : j ≡ 8 = omega arith in
      let f : 0 + many ≡ many = omega arith in
      rw (e, f) (omega (arith, ones-le 0 (byte_at sector0 (56 + i) / 256) (omega (arith, small))))
  bits_step (suc bits) j many all =
      let rest = byte_at sector0 (56 + i) / 2 ^ j in
      let half = ap ones (shr-shr (byte_at sector0 (56 + i)) j 1) in
      let e : suc bits + many ≡ suc (bits + many) = omega arith in
      let f : 8 * i + j + 1 ≡ 8 * i + (j + 1) = omega arith in
      let here = one_or_none (rest % 2) (omega arith) in
      rw (e, f, map_bit_lem sector0 i j (omega arith)) (omega (arith, here, ones_step rest, half, bits_step bits (j + 1) many (omega arith)))

  byte_step : (many : ℕ) → zero_bits sector0 (8 + many) (8 * i) + ones (byte_at sector0 (56 + i)) ≡ 8 + zero_bits sector0 many (8 * i + 8)
  byte_step many =
      let e : 8 * i + 0 ≡ 8 * i = omega arith in
      rw (e, div-one (byte_at sector0 (56 + i))) at (bits_step 8 0 many (omega arith))

pub zeros_step : (sector0 : List ℕ) (i : ℕ) → i < 200 → byte_at (part sector0 56 200) i < 256
    → zeros_from sector0 i + ones (byte_at (part sector0 56 200) i) ≡ 8 + zeros_from sector0 (i + 1)
zeros_step sector0 i inside small =
    let here = part_at sector0 56 200 i inside in
    let e : 8 * (200 - i) ≡ 8 + 8 * (200 - (i + 1)) = omega arith in
    let f : 8 * (i + 1) ≡ 8 * i + 8 = omega arith in
    rw (e, f, here) (byte_step sector0 i (omega (arith, small, here)) (8 * (200 - (i + 1))))

-- past the end all bits are zero
zeros_out : (sector0 : List ℕ) (many k : ℕ) → length sector0 ≤ 56 + k / 8 → zero_bits sector0 many k ≡ many
unfolding zero_bits map_bit
zeros_out sector0 zero k past = refl
zeros_out sector0 (suc many) k past = rw (get_or-eq_default sector0 0 past, zero-div (2 ^ (k % 8))) (omega (arith, zeros_out sector0 many (k + 1) (omega arith)))

pub zeros_end : (sector0 : List ℕ) (i : ℕ) → length (part sector0 56 200) ≡ i → 8 * i + zeros_from sector0 i ≡ 1600
unfolding zero_bits
zeros_end sector0 i all =
    let long = rw (length-take, length-drop) at all in
    elim (dec_lt i 200) [
      | yes short ↦ omega (arith, zeros_out sector0 (8 * (200 - i)) (8 * i) (omega arith))
      | no whole ↦
          let e : 8 * (200 - i) ≡ 0 = omega arith in
          rw e (omega arith)
    ]

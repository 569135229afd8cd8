-- A bit of a byte made another, by the shifts of the code: the old bit's value is taken off, the new one's added.
use mathlib.Core.Path.{◌≡◌}
use Prim.Native.Nat.{ℕ, ◌+◌, ◌-◌, ◌*◌, ◌%◌, ◌^◌, ◌≤◌, ◌<◌}
use native.Mathlib.Omega.{arith}
use Rattle.rules.specs.Bytes.{bit_of, with_bit}
use Rattle.rules.proofs.Map.{by_eight}
use Rattle.rules.proofs.Marking.{with_bit_below}

-- a bit at its place in a byte
abbrev pub shifted : ℕ → ℕ → ℕ
shifted bit j = bit * 2 ^ j % 256

-- none is shifted out
shifted_is : (bit j : ℕ) → j < 8 → bit < 2 → shifted bit j ≡ bit * 2 ^ j
shifted_is bit j h two =
    by_eight (λ (i : ℕ). shifted bit i ≡ bit * 2 ^ i) (omega arith) (omega arith) (omega arith) (omega arith) (omega arith) (omega arith) (omega arith) (omega arith) j h

module _ (byte j : ℕ) (h : j < 8) where
  pub old_fits : shifted (bit_of byte j) j ≤ byte
  old_fits =
      by_eight (λ (i : ℕ). shifted (bit_of byte i) i ≤ byte) (omega arith) (omega arith) (omega arith) (omega arith) (omega arith) (omega arith) (omega arith) (omega arith) j h

  module _ (bit : ℕ) (two : bit < 2) where
    pub bit_made : byte - shifted (bit_of byte j) j + shifted bit j ≡ with_bit byte j bit
    unfolding with_bit
    bit_made = rw (shifted_is (bit_of byte j) j h (omega arith), shifted_is bit j h two)

    pub new_fits : byte < 256 → byte - shifted (bit_of byte j) j + shifted bit j < 256
    new_fits small = rw bit_made (with_bit_below byte j bit (omega arith) small h)

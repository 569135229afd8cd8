-- The length of a program: what c and the end offset make it, its bound, and that length and c with the end offset are had back from each other.
use mathlib.Core.Path.{◌≡◌, ◌∙◌}
use Prim.Native.Nat.{ℕ, ◌+◌, ◌-◌, ◌*◌, ◌%◌, ◌≤◌, ◌<◌}
use native.Mathlib.Omega.{arith}
use native.Mathlib.Decide.{ℕ_discrete}
use borrow.Author.Tests.{eq-eqb, ne_eqb}
use Rattle.rules.specs.Kind.{program_length, sectors_for}

-- the last sector is full
pub length_full : (c end_offset : ℕ) → end_offset ≡ 0 → program_length c end_offset ≡ 256 * c
unfolding program_length
length_full c end_offset none = rw (eq-eqb end_offset 0 none)

-- the last sector is used up to the end offset
pub length_part : (c end_offset : ℕ) → (end_offset ≡ 0 → ⊥) → program_length c end_offset ≡ 256 * (c - 1) + end_offset
unfolding program_length
length_part c end_offset some = rw (ne_eqb end_offset 0 some)

pub length_most : (c end_offset : ℕ) → end_offset < 256 → program_length c end_offset ≤ 256 * c + 255
length_most c end_offset small =
    elim (ℕ_discrete end_offset 0) [
      | yes none ↦ omega (arith, length_full c end_offset none)
      | no some ↦ omega (arith, length_part c end_offset some)
    ]

-- a program of any number of bytes, in the sectors and with the end offset of a store, has that length
pub length_stored : (bytes : ℕ) → program_length (sectors_for bytes) (bytes % 256) ≡ bytes
length_stored bytes =
    elim (ℕ_discrete (bytes % 256) 0) [
      | yes none ↦ length_full (sectors_for bytes) (bytes % 256) none ∙ omega (arith, none)
      | no some ↦ length_part (sectors_for bytes) (bytes % 256) some ∙ omega (arith, some)
    ]

-- and one whose kind keeps the rule has the sectors and the end offset of a store of its length
module _ (c end_offset : ℕ) (small : end_offset < 256) (kind : c ≡ 0 → end_offset ≡ 0) where
  pub stored_sectors : sectors_for (program_length c end_offset) ≡ c
  stored_sectors =
      elim (ℕ_discrete end_offset 0) [
        | yes none ↦ omega (arith, length_full c end_offset none)
        | no some ↦
            let least : c ≡ 0 → ⊥ = λ e. some (kind e) in
            omega (arith, length_part c end_offset some)
      ]

  pub stored_end : program_length c end_offset % 256 ≡ end_offset
  stored_end =
      elim (ℕ_discrete end_offset 0) [
        | yes none ↦ omega (arith, length_full c end_offset none)
        | no some ↦ omega (arith, length_part c end_offset some)
      ]

-- Marking: sector 0 with the bit of one sector, or of several, made one or zero. The bits marked are as said, and all else stays.
use mathlib.Core.Path.{◌≡◌, refl, sym, ap, ◌∙◌}
use mathlib.Core.List.{List, [], ◌∷◌, ◌++◌}
use Prim.Native.Nat.{ℕ, zero, suc, ◌+◌, ◌-◌, ◌*◌, ◌/◌, ◌%◌, ◌^◌, ◌≤◌, ◌<◌}
use native.Mathlib.Omega.{arith}
use native.Mathlib.Nat.{add-mul, mod-lt, mul-suc}
use native.Mathlib.Decide.{dec_lt, ℕ_discrete}
use lib.ListN.{length, length-set}
use lib.Seq.{get_or-set_same, get_or-set_other, set_out}
use lib.Pow.{pow_pos, split, high, low, field, mod-mod-pow, shr-shr}
use Rattle.rules.specs.Bytes.{byte_at, bit_of, with_bit}
use Rattle.rules.specs.Map.{map_bit, count, taken, zero_bits, free_count, marked, marked_all}
use Rattle.rules.proofs.Map.{count_none, count_here, count_other, count_more, taken_below, taken_past, by_eight}
use Rattle.rules.proofs.Free.{one_or_none}

-- a bit is read of the number above another bit, and of the number below it
bit_above : (number j d : ℕ) → bit_of number (j + 1 + d) ≡ bit_of (number / 2 ^ j / 2) d
bit_above number j d = ap (λ (q : ℕ). q % 2) (sym (ap (λ (q : ℕ). q / 2 ^ d) (shr-shr number j 1) ∙ shr-shr number (j + 1) d))

bit_below : (number i d : ℕ) → bit_of number i ≡ number % 2 ^ (d + (1 + i)) % 2 ^ (1 + i) / 2 ^ i
bit_below number i d = sym (ap (λ (r : ℕ). r / 2 ^ i) (mod-mod-pow number d (1 + i)) ∙ field number 1 i)

-- a byte with its bit j made `bit`: what stands above that bit, the bit, and what stands below it
module _ (byte j bit : ℕ) where
  with_bit_is : with_bit byte j bit ≡ (byte / 2 ^ j / 2 * 2 + bit) * 2 ^ j + byte % 2 ^ j
  unfolding with_bit
  with_bit_is =
      let q = byte / 2 ^ j in
      let halves : q ≡ q / 2 * 2 + q % 2 = omega arith in
      let was : q * 2 ^ j ≡ q / 2 * 2 * 2 ^ j + q % 2 * 2 ^ j = ap (λ (n : ℕ). n * 2 ^ j) halves ∙ add-mul (q / 2 * 2) (q % 2) (2 ^ j) in
      omega (arith, was, add-mul (q / 2 * 2) bit (2 ^ j), split byte j)

  with_bit_high : with_bit byte j bit / 2 ^ j ≡ byte / 2 ^ j / 2 * 2 + bit
  with_bit_high = rw with_bit_is (high (byte / 2 ^ j / 2 * 2 + bit) j (mod-lt byte (pow_pos j)))

  with_bit_low : with_bit byte j bit % 2 ^ j ≡ byte % 2 ^ j
  with_bit_low = rw with_bit_is (low (byte / 2 ^ j / 2 * 2 + bit) j (mod-lt byte (pow_pos j)))

module _ (byte j bit : ℕ) (small : bit ≤ 1) where
  pub with_bit_same : bit_of (with_bit byte j bit) j ≡ bit
  with_bit_same = rw (with_bit_high byte j bit) (omega arith)

  pub with_bit_other : (i : ℕ) → (i ≡ j → ⊥) → bit_of (with_bit byte j bit) i ≡ bit_of byte i
  with_bit_other i ne =
      elim (dec_lt j i) [
        | yes h ↦
            let e : i ≡ j + 1 + (i - (j + 1)) = omega arith in
            let same : with_bit byte j bit / 2 ^ j / 2 ≡ byte / 2 ^ j / 2 = omega (arith, with_bit_high byte j bit) in
            ap (bit_of (with_bit byte j bit)) e ∙ bit_above (with_bit byte j bit) j (i - (j + 1)) ∙ ap (λ (q : ℕ). bit_of q (i - (j + 1))) same
            ∙ sym (ap (bit_of byte) e ∙ bit_above byte j (i - (j + 1)))
        | no h ↦
            let e : j - (i + 1) + (1 + i) ≡ j = omega (arith, ne) in
            let new = rw e at (bit_below (with_bit byte j bit) i (j - (i + 1))) in
            let old = rw e at (bit_below byte i (j - (i + 1))) in
            new ∙ ap (λ (r : ℕ). r % 2 ^ (1 + i) / 2 ^ i) (with_bit_low byte j bit) ∙ sym old
      ]

  pub with_bit_below : byte < 256 → j < 8 → with_bit byte j bit < 256
  unfolding with_bit
  with_bit_below below =
      by_eight (λ (j : ℕ). with_bit byte j bit < 256)
      (omega arith) (omega arith) (omega arith) (omega arith) (omega arith) (omega arith) (omega arith) (omega arith) j

-- sector 0 with one bit of the map made `bit`: its length, the byte that holds the bit, the other bytes, and no such byte
module _ (bit : ℕ) (sector0 : List ℕ) (k : ℕ) where
  pub marked-length : length (marked bit sector0 k) ≡ length sector0
  unfolding marked
  marked-length = length-set sector0 (56 + k / 8) (with_bit (byte_at sector0 (56 + k / 8)) (k % 8) bit)

  marked_byte : 56 + k / 8 < length sector0 → byte_at (marked bit sector0 k) (56 + k / 8) ≡ with_bit (byte_at sector0 (56 + k / 8)) (k % 8) bit
  unfolding marked
  marked_byte h = get_or-set_same sector0 (56 + k / 8) (with_bit (byte_at sector0 (56 + k / 8)) (k % 8) bit) 0 h

  marked_bytes : (i : ℕ) → (i ≡ 56 + k / 8 → ⊥) → byte_at (marked bit sector0 k) i ≡ byte_at sector0 i
  unfolding marked
  marked_bytes i ne = get_or-set_other sector0 (56 + k / 8) i (with_bit (byte_at sector0 (56 + k / 8)) (k % 8) bit) 0 ne

  marked_past : length sector0 ≤ 56 + k / 8 → marked bit sector0 k ≡ sector0
  unfolding marked
  marked_past h = set_out sector0 (56 + k / 8) (with_bit (byte_at sector0 (56 + k / 8)) (k % 8) bit) h

  pub marked_label : (i : ℕ) → i < 56 → byte_at (marked bit sector0 k) i ≡ byte_at sector0 i
  marked_label i h = marked_bytes i (λ e. omega arith)

-- its bits, and that its bytes stay bytes
module _ (bit : ℕ) (small : bit ≤ 1) (sector0 : List ℕ) (k : ℕ) where
  pub marked_here : k < 1600 → length sector0 ≡ 256 → map_bit (marked bit sector0 k) k ≡ bit
  unfolding map_bit
  marked_here low long = rw (marked_byte bit sector0 k (omega arith)) (with_bit_same (byte_at sector0 (56 + k / 8)) (k % 8) bit small)

  pub marked_other : (i : ℕ) → (i ≡ k → ⊥) → map_bit (marked bit sector0 k) i ≡ map_bit sector0 i
  unfolding map_bit
  marked_other i ne =
      elim (dec_lt (56 + k / 8) (length sector0)) [
        | yes inside ↦
            elim (ℕ_discrete (i / 8) (k / 8)) [
              | yes same ↦
                  let apart : i % 8 ≡ k % 8 → ⊥ = λ e. ne (omega arith) in
                  rw (same, marked_byte bit sector0 k inside) (with_bit_other (byte_at sector0 (56 + k / 8)) (k % 8) bit small (i % 8) apart)
              | no other ↦ rw (marked_bytes bit sector0 k (56 + i / 8) (λ e. other (omega arith)))
            ]
        | no outside ↦ rw (marked_past bit sector0 k (omega arith))
      ]

  pub marked_below : ((i : ℕ) → byte_at sector0 i < 256) → (i : ℕ) → byte_at (marked bit sector0 k) i < 256
  marked_below below i =
      elim (dec_lt (56 + k / 8) (length sector0)) [
        | yes inside ↦
            elim (ℕ_discrete i (56 + k / 8)) [
              | yes same ↦ rw (same, marked_byte bit sector0 k inside) (with_bit_below (byte_at sector0 (56 + k / 8)) (k % 8) bit small (below (56 + k / 8)) (mod-lt k (omega arith)))
              | no other ↦ rw (marked_bytes bit sector0 k i other) (below i)
            ]
        | no outside ↦ rw (marked_past bit sector0 k (omega arith)) (below i)
      ]

-- the same of the bits of several sectors
module _ (bit : ℕ) where
  pub all_length : (sector0 ks : List ℕ) → length (marked_all bit sector0 ks) ≡ length sector0
  unfolding marked_all
  all_length sector0 [] = refl
  all_length sector0 (k ∷ ks) = all_length (marked bit sector0 k) ks ∙ marked-length bit sector0 k

  pub all_append : (sector0 ks js : List ℕ) → marked_all bit sector0 (ks ++ js) ≡ marked_all bit (marked_all bit sector0 ks) js
  unfolding marked_all
  all_append sector0 [] js = refl
  all_append sector0 (k ∷ ks) js = all_append (marked bit sector0 k) ks js

  pub all_label : (sector0 ks : List ℕ) (i : ℕ) → i < 56 → byte_at (marked_all bit sector0 ks) i ≡ byte_at sector0 i
  unfolding marked_all
  all_label sector0 [] i h = refl
  all_label sector0 (k ∷ ks) i h = all_label (marked bit sector0 k) ks i h ∙ marked_label bit sector0 k i h

module _ (bit : ℕ) (small : bit ≤ 1) where
  pub all_below : (sector0 ks : List ℕ) → ((i : ℕ) → byte_at sector0 i < 256) → (i : ℕ) → byte_at (marked_all bit sector0 ks) i < 256
  unfolding marked_all
  all_below sector0 [] below i = below i
  all_below sector0 (k ∷ ks) below i = all_below (marked bit sector0 k) ks (marked_below bit small sector0 k below) i

  pub all_other : (sector0 ks : List ℕ) (i : ℕ) → count i ks ≡ 0 → map_bit (marked_all bit sector0 ks) i ≡ map_bit sector0 i
  unfolding marked_all
  all_other sector0 [] i none = refl
  all_other sector0 (k ∷ ks) i none =
      let other : i ≡ k → ⊥ = λ e. omega (arith, count_here i ks, rw (← e) at none) in
      all_other (marked bit sector0 k) ks i (omega (arith, count_more i k ks)) ∙ marked_other bit small sector0 k i other

  pub all_here : (sector0 ks : List ℕ) (i : ℕ) → 1 ≤ count i ks → i < 1600 → length sector0 ≡ 256 → map_bit (marked_all bit sector0 ks) i ≡ bit
  unfolding marked_all
  all_here sector0 [] i some low long = absurd (omega (arith, count_none i))
  all_here sector0 (k ∷ ks) i some low long =
      let long' = marked-length bit sector0 k ∙ long in
      elim (dec_lt 0 (count i ks)) [
        | yes more ↦ all_here (marked bit sector0 k) ks i more low long'
        | no last ↦
            elim (ℕ_discrete k i) [
              | yes same ↦ all_other (marked bit sector0 k) ks i (omega arith) ∙ rw same (marked_here bit small sector0 i low long)
              | no other ↦ absurd (omega (arith, count_other i k ks other))
            ]
      ]

-- where the map is that of its holders, marking those that come, or clearing those that go, gives the map of the new holders
module _ (n : ℕ) (sector0 hs js hs' : List ℕ) (long : length sector0 ≡ 256) (is : (k : ℕ) → k < 1600 → map_bit sector0 k ≡ taken n hs k) where
  pub marked_holders : ((k : ℕ) → count k js + count k hs ≤ 1) → ((k : ℕ) → count k hs' ≡ count k js + count k hs)
      → (k : ℕ) → k < 1600 → map_bit (marked_all 1 sector0 js) k ≡ taken n hs' k
  marked_holders once new k low =
      let one : 1 ≤ 1 = omega arith in
      elim (dec_lt 0 (count k js)) [
        | yes some ↦
            elim (dec_lt k n) [
              | yes inside ↦ rw (all_here 1 one sector0 js k some low long, taken_below n hs' k inside) (omega (arith, once k, new k))
              | no outside ↦ rw (all_here 1 one sector0 js k some low long, taken_past n hs' k (omega arith))
            ]
        | no none ↦
            elim (dec_lt k n) [
              | yes inside ↦ rw (all_other 1 one sector0 js k (omega arith), is k low, taken_below n hs k inside, taken_below n hs' k inside) (omega (arith, new k))
              | no outside ↦ rw (all_other 1 one sector0 js k (omega arith), is k low, taken_past n hs k (omega arith), taken_past n hs' k (omega arith))
            ]
      ]

  pub cleared_holders : ((k : ℕ) → count k hs ≤ 1) → ((k : ℕ) → 1 ≤ count k js → k < n) → ((k : ℕ) → count k hs ≡ count k js + count k hs')
      → (k : ℕ) → k < 1600 → map_bit (marked_all 0 sector0 js) k ≡ taken n hs' k
  cleared_holders once below old k low =
      let zero' : 0 ≤ 1 = omega arith in
      elim (dec_lt 0 (count k js)) [
        | yes some ↦ rw (all_here 0 zero' sector0 js k some low long, taken_below n hs' k (below k some)) (omega (arith, once k, old k))
        | no none ↦
            elim (dec_lt k n) [
              | yes inside ↦ rw (all_other 0 zero' sector0 js k (omega arith), is k low, taken_below n hs k inside, taken_below n hs' k inside) (omega (arith, old k))
              | no outside ↦ rw (all_other 0 zero' sector0 js k (omega arith), is k low, taken_past n hs k (omega arith), taken_past n hs' k (omega arith))
            ]
      ]

-- the free count: each bit that is made changes it by itself alone
pub bit_once : (sector0 : List ℕ) (k : ℕ) → map_bit sector0 k ≤ 1
unfolding map_bit
bit_once sector0 k = omega arith

module _ (old new : List ℕ) where
  zeros_same : (many k : ℕ) → ((i : ℕ) → k ≤ i → map_bit new i ≡ map_bit old i) → zero_bits new many k ≡ zero_bits old many k
  unfolding zero_bits
  zeros_same zero k same = refl
  zeros_same (suc many) k same = rw (same k (omega arith), zeros_same many (k + 1) (λ i h. same i (omega arith)))

  zeros_changed : (j : ℕ) → ((i : ℕ) → (i ≡ j → ⊥) → map_bit new i ≡ map_bit old i) → (many k : ℕ) → k ≤ j → j < k + many
      → zero_bits new many k + map_bit new j ≡ zero_bits old many k + map_bit old j
  unfolding zero_bits
  zeros_changed j same zero k low high = absurd (omega arith)
  zeros_changed j same (suc many) k low high =
      elim (ℕ_discrete k j) [
        | yes here ↦
            rw here
            (omega
            (arith, one_or_none (map_bit old j) (bit_once old j), one_or_none (map_bit new j) (bit_once new j), zeros_same many (j + 1) (λ i h. same i (λ e. omega arith))))
        | no other ↦ rw (same k other) (omega (arith, zeros_changed j same many (k + 1) (omega (arith, other)) (omega arith)))
      ]

pub marked_free : (bit : ℕ) → bit ≤ 1 → (sector0 : List ℕ) (k : ℕ) → k < 1600 → length sector0 ≡ 256
    → free_count (marked bit sector0 k) + bit ≡ free_count sector0 + map_bit sector0 k
unfolding free_count
marked_free bit small sector0 k low long =
    let here = marked_here bit small sector0 k low long in
    rw here at (zeros_changed sector0 (marked bit sector0 k) k (marked_other bit small sector0 k) 1600 0 (omega arith) (omega arith))

-- with several, each named once, that all were `was`
pub all_free_lem : (bit was : ℕ) → bit ≤ 1 → (sector0 ks : List ℕ) → length sector0 ≡ 256 → ((k : ℕ) → count k ks ≤ 1)
    → ((k : ℕ) → 1 ≤ count k ks → (k < 1600) × (map_bit sector0 k ≡ was)) → free_count (marked_all bit sector0 ks) + bit * length ks ≡ free_count sector0 + was * length ks
unfolding marked_all
all_free_lem bit was small sector0 [] long once each = omega arith
all_free_lem bit was small sector0 (k ∷ ks) long once each =
    let first = each k (omega (arith, count_here k ks)) in
    let one = marked_free bit small sector0 k first.0 long in
    let later : (i : ℕ) → 1 ≤ count i ks → (i < 1600) × (map_bit (marked bit sector0 k) i ≡ was) =
    λ i some.
    let i-each = each i (omega (arith, count_more i k ks)) in
    let other : i ≡ k → ⊥ = λ e. omega (arith, once k, count_here k ks, rw e at some) in
    (i-each.0, marked_other bit small sector0 k i other ∙ i-each.1)
    in
    let more =
    all_free_lem bit was small (marked bit sector0 k) ks (marked-length bit sector0 k ∙ long) (λ i. omega (arith, once i, count_more i k ks)) later
    in
    omega (arith, one, more, first.1, mul-suc bit (length ks), mul-suc was (length ks))

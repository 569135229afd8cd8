-- The marks as a map, and neighbours that share a byte: tested and marked at once they are as if each were in its turn.
use mathlib.Core.Path.{◌≡◌, refl, sym, ap, ◌∙◌}
use mathlib.Core.Logic.{◌⊎◌, inl, inr}
use mathlib.Core.Bool.{Bool, true, false, ◌&&◌}
use mathlib.Core.List.{List, [], ◌∷◌, ◌++◌}
use Prim.Native.Nat.{ℕ, zero, suc, ◌+◌, ◌-◌, ◌*◌, ◌/◌, ◌%◌, ◌^◌, ◌≤◌, ◌<◌}
use native.Mathlib.Omega.{arith}
use native.Mathlib.Nat.{add-mul, mul_assoc, suc-mul, mod-lt}
use native.Mathlib.Decide.{dec_lt}
use lib.Dec.{eqb}
use lib.ListN.{length, set, replicate, length-append, length-replicate, length-set}
use lib.Seq.{get_or-append-add, get_or-set_same, set-get_or, set-set}
use lib.Bits.{bit_and, bit_or, or_disjoint, and_high}
use lib.Pow.{pow_pos, pow-add, split, high, shr-shr, shl_exact, mod-pow-add, ones_lt, ones_split, high_ones}
use borrow.Author.Tests.{eq-eqb, ne_eqb, eqb-true}
use Rattle.rules.specs.Bytes.{byte_at, bit_of, with_bit}
use Rattle.rules.specs.Chain.{run}
use Rattle.rules.specs.Map.{map_bit, marked, marked_all}
use Rattle.rules.proofs.Tests.{both, same_test}
use Rattle.judge.specs.Claim.{as_map, all_free}

-- the byte of the map that holds a mark is the marks' own
pub as_map-length : (marks : List ℕ) → length (as_map marks) ≡ 56 + length marks
unfolding as_map
as_map-length marks = length-append (replicate 56 0) marks ∙ rw (length-replicate {A = ℕ} 56 0)

pub as_map_byte : (marks : List ℕ) (i : ℕ) → byte_at (as_map marks) (56 + i) ≡ byte_at marks i
unfolding as_map
as_map_byte marks i = get_or-append-add (replicate 56 0) marks i 0

set_behind : (front back : List ℕ) (i value : ℕ) → set (front ++ back) (length front + i) value ≡ front ++ set back i value
set_behind [] back i value = let z : 0 + i ≡ i = omega arith in rw z
set_behind (b ∷ front) back i value =
    let z : suc (length front) + i ≡ suc (length front + i) = omega arith in
    rw z (ap (λ (rest : List ℕ). b ∷ rest) (set_behind front back i value))

pub as_map-set : (marks : List ℕ) (i value : ℕ) → as_map (set marks i value) ≡ set (as_map marks) (56 + i) value
unfolding as_map
as_map-set marks i value = sym (set_behind (replicate 56 0) marks i value)

-- several bits of a byte are zero where the lowest of them is and the others are
bits_zero : (byte j many : ℕ) → eqb (byte / 2 ^ j % 2 ^ suc many) 0 ≡ (eqb (bit_of byte j) 0 && eqb (byte / 2 ^ (j + 1) % 2 ^ many) 0)
bits_zero byte j many =
    let z : suc many ≡ many + 1 = omega arith in
    let parts : byte / 2 ^ j % 2 ^ suc many ≡ (byte / 2 ^ (j + 1) % 2 ^ many) * 2 + bit_of byte j =
    ap (λ (e : ℕ). byte / 2 ^ j % 2 ^ e) z ∙ mod-pow-add (byte / 2 ^ j) many 1 ∙ ap (λ (q : ℕ). (q % 2 ^ many) * 2 + byte / 2 ^ j % 2) (shr-shr byte j 1)
    in
    same_test (eqb (byte / 2 ^ j % 2 ^ suc many) 0) (eqb (bit_of byte j) 0 && eqb (byte / 2 ^ (j + 1) % 2 ^ many) 0)
    (λ e.
    let none = eqb-true (byte / 2 ^ j % 2 ^ suc many) 0 e in
    rw (eq-eqb (bit_of byte j) 0 (omega (arith, parts)), eq-eqb (byte / 2 ^ (j + 1) % 2 ^ many) 0 (omega (arith, parts))))
    (λ e.
    let both_zero = both (eqb (bit_of byte j) 0) (eqb (byte / 2 ^ (j + 1) % 2 ^ many) 0) e in
    eq-eqb (byte / 2 ^ j % 2 ^ suc many) 0 (omega (arith, parts, eqb-true (bit_of byte j) 0 both_zero.0, eqb-true (byte / 2 ^ (j + 1) % 2 ^ many) 0 both_zero.1)))

-- the next sector is the next bit of the same byte, unless this was its last
next_bit : (k many : ℕ) → k % 8 + suc many ≤ 8 → (((k + 1) / 8 ≡ k / 8) × ((k + 1) % 8 ≡ k % 8 + 1)) ⊎ (many ≡ 0)
next_bit k many within =
    elim (dec_lt (k % 8 + 1) 8) [
      | yes inside ↦ inl (omega arith, omega arith)
      | no last ↦ inr (omega arith)
    ]

-- neighbours in one byte are free where the bits from the first on are zero
pub free_together : (sector0 : List ℕ) (many k : ℕ) → k % 8 + many ≤ 8
    → all_free sector0 (run k many) ≡ eqb (byte_at sector0 (56 + k / 8) / 2 ^ (k % 8) % 2 ^ many) 0
unfolding all_free run map_bit
free_together sector0 zero k within = sym (eq-eqb (byte_at sector0 (56 + k / 8) / 2 ^ (k % 8) % 2 ^ 0) 0 (omega arith))
free_together sector0 (suc many) k within =
    rw (bits_zero (byte_at sector0 (56 + k / 8)) (k % 8) many)
    (ap (λ (t : Bool). eqb (bit_of (byte_at sector0 (56 + k / 8)) (k % 8)) 0 && t)
    (go (next_bit k many within) (free_together sector0 many (k + 1) (omega arith))))
  where
    go : (((k + 1) / 8 ≡ k / 8) × ((k + 1) % 8 ≡ k % 8 + 1)) ⊎ (many ≡ 0)
        → all_free sector0 (run (k + 1) many) ≡ eqb (byte_at sector0 (56 + (k + 1) / 8) / 2 ^ ((k + 1) % 8) % 2 ^ many) 0
        → all_free sector0 (run (k + 1) many) ≡ eqb (byte_at sector0 (56 + k / 8) / 2 ^ (k % 8 + 1) % 2 ^ many) 0
    go (inl (same, next)) more = rw (← same, ← next) more
    go (inr last) more = rw last (sym (eq-eqb (byte_at sector0 (56 + k / 8) / 2 ^ (k % 8 + 1) % 2 ^ 0) 0 (omega arith)))

-- a bit that was zero adds itself, and what stands above it stays
above : (byte j : ℕ) → bit_of byte j ≡ 0 → (byte + 2 ^ j) / 2 ^ (j + 1) ≡ byte / 2 ^ (j + 1)
above byte j none =
    let q = byte / 2 ^ j in
    let sum : byte + 2 ^ j ≡ (q + 1) * 2 ^ j + byte % 2 ^ j = omega (arith, split byte j, add-mul q 1 (2 ^ j)) in
    let more : (byte + 2 ^ j) / 2 ^ j ≡ q + 1 = ap (λ (n : ℕ). n / 2 ^ j) sum ∙ high (q + 1) j (mod-lt byte (pow_pos j)) in
    let half : (q + 1) / 2 ≡ q / 2 = omega arith in
    sym (shr-shr (byte + 2 ^ j) j 1) ∙ ap (λ (n : ℕ). n / 2) more ∙ half ∙ shr-shr byte j 1

-- a sector that was free, marked: its bit is added to the byte
marked_bit : (sector0 : List ℕ) (k : ℕ) → bit_of (byte_at sector0 (56 + k / 8)) (k % 8) ≡ 0
    → marked 1 sector0 k ≡ set sector0 (56 + k / 8) (byte_at sector0 (56 + k / 8) + 2 ^ (k % 8))
unfolding marked with_bit
marked_bit sector0 k none = ap (set sector0 (56 + k / 8)) (rw none (omega arith))

-- one bit and the bits above it are one bit more
sum_bits : (byte j many : ℕ) → byte + 2 ^ j + (2 ^ many - 1) * 2 ^ (j + 1) ≡ byte + (2 ^ suc many - 1) * 2 ^ j
sum_bits byte j many =
    let z : suc many ≡ many + 1 = omega arith in
    let ones : 2 ^ suc many - 1 ≡ (2 ^ many - 1) * 2 + 1 = ap (λ (e : ℕ). 2 ^ e - 1) z ∙ ones_split many 1 in
    let twice : 2 ^ (j + 1) ≡ 2 * 2 ^ j = pow-add 2 j 1 ∙ omega arith in
    rw (ones, twice)
    (omega (arith, add-mul ((2 ^ many - 1) * 2) 1 (2 ^ j), mul_assoc (2 ^ many - 1) 2 (2 ^ j)))

-- Free neighbours in one byte, marked each in its turn, add their bits to it: what the first of them leaves, and the others from there on.
module _ (sector0 : List ℕ) (many k : ℕ) (within : k % 8 + suc many ≤ 8) (inside : 56 + k / 8 < length sector0) where
  abbrev byte : ℕ
  byte = byte_at sector0 (56 + k / 8)

  abbrev after : List ℕ
  after = set sector0 (56 + k / 8) (byte + 2 ^ (k % 8))

  others_marked : bit_of byte (k % 8) ≡ 0 → byte / 2 ^ (k % 8 + 1) % 2 ^ many ≡ 0
      → ((k + 1) % 8 + many ≤ 8 → 56 + (k + 1) / 8 < length after → byte_at after (56 + (k + 1) / 8) / 2 ^ ((k + 1) % 8) % 2 ^ many ≡ 0
      → marked_all 1 after (run (k + 1) many) ≡ set after (56 + (k + 1) / 8) (byte_at after (56 + (k + 1) / 8) + (2 ^ many - 1) * 2 ^ ((k + 1) % 8)))
      → marked_all 1 after (run (k + 1) many) ≡ set sector0 (56 + k / 8) (byte + (2 ^ suc many - 1) * 2 ^ (k % 8))
  unfolding marked_all run
  others_marked first others more =
      elim (next_bit k many within) [
        | inl same ↦
            let here = get_or-set_same sector0 (56 + k / 8) (byte + 2 ^ (k % 8)) 0 inside in
            let rest = rw (same.0, same.1) at more in
            rest (omega arith) (rw length-set inside) (rw here (ap (λ (q : ℕ). q % 2 ^ many) (above byte (k % 8) first) ∙ others))
            ∙ ap (set after (56 + k / 8)) (ap (λ (b : ℕ). b + (2 ^ many - 1) * 2 ^ (k % 8 + 1)) here ∙ sum_bits byte (k % 8) many)
            ∙ set-set sector0 (56 + k / 8) (byte + 2 ^ (k % 8)) (byte + (2 ^ suc many - 1) * 2 ^ (k % 8))
        | inr last ↦ rw last (ap (set sector0 (56 + k / 8)) (omega arith))
      ]

pub marked_together : (sector0 : List ℕ) (many k : ℕ) → k % 8 + many ≤ 8 → 56 + k / 8 < length sector0
    → byte_at sector0 (56 + k / 8) / 2 ^ (k % 8) % 2 ^ many ≡ 0
    → marked_all 1 sector0 (run k many) ≡ set sector0 (56 + k / 8) (byte_at sector0 (56 + k / 8) + (2 ^ many - 1) * 2 ^ (k % 8))
unfolding marked_all run
marked_together sector0 zero k within inside none =
    sym (ap (set sector0 (56 + k / 8)) (omega arith) ∙ set-get_or sector0 (56 + k / 8) 0)
marked_together sector0 (suc many) k within inside none =
    let byte = byte_at sector0 (56 + k / 8) in
    let zeros =
    both (eqb (bit_of byte (k % 8)) 0) (eqb (byte / 2 ^ (k % 8 + 1) % 2 ^ many) 0)
    (sym (bits_zero byte (k % 8) many) ∙ eq-eqb (byte / 2 ^ (k % 8) % 2 ^ suc many) 0 none)
    in
    let first = eqb-true (bit_of byte (k % 8)) 0 zeros.0 in
    let others = eqb-true (byte / 2 ^ (k % 8 + 1) % 2 ^ many) 0 zeros.1 in
    ap (λ (s : List ℕ). marked_all 1 s (run (k + 1) many)) (marked_bit sector0 k first)
    ∙ others_marked sector0 many k within inside first others (marked_together (set sector0 (56 + k / 8) (byte + 2 ^ (k % 8))) many (k + 1))

no_product : (x p : ℕ) → 0 < p → x * p ≡ 0 → x ≡ 0
no_product zero p some e = refl
no_product (suc x) p some e = absurd (omega (arith, e, suc-mul x p))

-- Sector k and the `more` behind it on the marks, by the ones of as many bits: what the byte has in common with them, and the byte with them.
module _ (marks : List ℕ) (k more ones : ℕ) (low : k < 1600) (within : k % 8 + more < 8) (long : length marks ≡ 200) (is : ones ≡ 2 ^ (more + 1) - 1) where
  abbrev taken : ℕ
  taken = byte_at marks (k / 8)

  abbrev bits : ℕ
  bits = ones * 2 ^ (k % 8) % 256

  bits_are : bits ≡ (2 ^ (more + 1) - 1) * 2 ^ (k % 8)
  bits_are = rw is (shl_exact (more + 1) (k % 8) 8 (ones_lt (more + 1)) (omega arith))

  common : bit_and taken bits ≡ (taken / 2 ^ (k % 8) % 2 ^ (more + 1)) * 2 ^ (k % 8)
  common = ap (bit_and taken) (bits_are ∙ sym (high_ones (more + 1) (k % 8))) ∙ and_high taken (more + 1) (k % 8)

  free_is : all_free (as_map marks) (run k (more + 1)) ≡ eqb (taken / 2 ^ (k % 8) % 2 ^ (more + 1)) 0
  free_is = rw (← as_map_byte marks (k / 8)) (free_together (as_map marks) (more + 1) k (omega arith))

  pub some_taken : (bit_and taken bits ≡ 0 → ⊥) → false ≡ all_free (as_map marks) (run k (more + 1))
  some_taken some = sym (free_is ∙ ne_eqb (taken / 2 ^ (k % 8) % 2 ^ (more + 1)) 0 (λ none. some (common ∙ rw none (omega arith))))

  pub none_taken : bit_and taken bits ≡ 0 → (true ≡ all_free (as_map marks) (run k (more + 1))) × (as_map (set marks (k / 8) (bit_or taken bits)) ≡ marked_all 1 (as_map marks) (run k (more + 1)))
  none_taken none =
      let zeros = no_product (taken / 2 ^ (k % 8) % 2 ^ (more + 1)) (2 ^ (k % 8)) (pow_pos (k % 8)) (sym common ∙ none) in
      let marking = marked_together (as_map marks) (more + 1) k (omega arith) (omega (arith, as_map-length marks)) (rw (as_map_byte marks (k / 8)) zeros) in (
        sym (free_is ∙ eq-eqb (taken / 2 ^ (k % 8) % 2 ^ (more + 1)) 0 zeros),
        as_map-set marks (k / 8) (bit_or taken bits)
            ∙ ap (set (as_map marks) (56 + k / 8)) (or_disjoint taken bits none ∙ ap (λ (b : ℕ). taken + b) bits_are)
            ∙ sym (marking ∙ rw (as_map_byte marks (k / 8))),
      )

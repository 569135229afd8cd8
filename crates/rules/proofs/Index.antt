-- An index: its numbers, a number at a time, and its rule as a test and as facts.
use mathlib.Core.Path.{◌≡◌, refl}
use mathlib.Core.Bool.{Bool, true, false, cond, ◌&&◌}
use mathlib.Core.List.{List, [], ◌∷◌}
use Prim.Native.Nat.{ℕ, zero, suc, ◌+◌, ◌*◌, ◌≤◌, ◌<◌}
use native.Mathlib.Omega.{arith}
use lib.Dec.{eqb, leb, ltb}
use lib.ListN.{length, drop, get_or, length-drop}
use borrow.Author.Tests.{eq-eqb, ne_eqb, eqb-false, le-leb, leb-true, lt-ltb, ltb-true}
use Rattle.rules.specs.Bytes.{word_at, all_are}
use Rattle.rules.specs.Index.{numbers, range_rule, index_rule, IsIndex}
use Rattle.rules.proofs.Tests.{both}
use Rattle.rules.proofs.Bytes.{drop_two, zeros_at, at_zeros}

-- the numbers from byte i on: one and the rest, the end, and too few bytes for one
module _ (index : List ℕ) (i : ℕ) where
  pub numbers_step : i + 2 ≤ length index → (word_at index i ≡ 0 → ⊥) → numbers (drop i index) ≡ word_at index i ∷ numbers (drop (i + 2) index)
  unfolding numbers
  numbers_step h e = rw (drop_two index i h, ne_eqb (word_at index i) 0 e)

  pub numbers_end : i + 2 ≤ length index → word_at index i ≡ 0 → numbers (drop i index) ≡ []
  unfolding numbers
  numbers_end h e = rw (drop_two index i h, eq-eqb (word_at index i) 0 e)

  pub numbers_short : length index < i + 2 → numbers (drop i index) ≡ []
  unfolding numbers
  numbers_short h = short (drop i index) (rw length-drop (omega arith))
    where
      short : (rest : List ℕ) → length rest < 2 → numbers rest ≡ []
      short [] k = refl
      short (a ∷ []) k = refl
      short (a ∷ (b ∷ rest)) k = absurd (omega arith)

-- a number takes two bytes
pub numbers_inside : (index : List ℕ) → 2 * length (numbers index) ≤ length index
unfolding numbers
numbers_inside [] = omega arith
numbers_inside (high ∷ []) = omega arith
numbers_inside (high ∷ (low ∷ index)) = here (eqb (256 * high + low) 0) refl (numbers_inside index)
  where
    here : (t : Bool) → eqb (256 * high + low) 0 ≡ t → 2 * length (numbers index) ≤ length index → 2 * length (numbers (high ∷ (low ∷ index))) ≤ length (high ∷ (low ∷ index))
    here true e more = rw e (omega arith)
    here false e more = rw e (omega arith)

range_is : (n : ℕ) (ks : List ℕ) → range_rule n ks ≡ true → (p : ℕ) → p < length ks → (2 ≤ get_or ks p 0) × (get_or ks p 0 < n)
unfolding range_rule
range_is n [] e p h = absurd (omega arith)
range_is n (k ∷ ks) e p h =
    let low = both (leb 2 k) (ltb k n && range_rule n ks) e in
    let high = both (ltb k n) (range_rule n ks) low.1 in
    at p h (leb-true 2 k low.0) (ltb-true k n high.0) (range_is n ks high.1)
  where
    at : (p : ℕ) → p < length (k ∷ ks) → 2 ≤ k → k < n → ((p : ℕ) → p < length ks → (2 ≤ get_or ks p 0) × (get_or ks p 0 < n))
        → (2 ≤ get_or (k ∷ ks) p 0) × (get_or (k ∷ ks) p 0 < n)
    at zero h low high more = (low, high)
    at (suc p) h low high more = more p (omega arith)

is_range : (n : ℕ) (ks : List ℕ) → ((p : ℕ) → p < length ks → (2 ≤ get_or ks p 0) × (get_or ks p 0 < n)) → range_rule n ks ≡ true
unfolding range_rule
is_range n [] f = refl
is_range n (k ∷ ks) f =
    let first = f 0 (omega arith) in
    rw (le-leb 2 k first.0, lt-ltb k n first.1) (is_range n ks (λ p h. f (suc p) (omega arith)))

pub index_is : (n : ℕ) (index : List ℕ) → index_rule n index ≡ true → IsIndex n index
unfolding index_rule
index_is n index e =
    let few = ltb (length (numbers index)) 128 in
    let rest = all_are 0 (drop (2 * length (numbers index)) index) in
    let ranged = both (range_rule n (numbers index)) (few && rest) e in
    let ended = both few rest ranged.1 in
    record {
      range = range_is n (numbers index) ranged.0;
      few = omega (arith, ltb-true (length (numbers index)) 128 ended.0);
      rest = zeros_at index (2 * length (numbers index)) ended.1;
    }

pub is_index : (n : ℕ) (index : List ℕ) → IsIndex n index → index_rule n index ≡ true
unfolding index_rule
is_index n index is =
    rw (is_range n (numbers index) is.range, lt-ltb (length (numbers index)) 128 (omega (arith, is.few)), at_zeros index (2 * length (numbers index)) is.rest)

-- a number by its place: two bytes at twice the place, and not zero
pub number_at : (index : List ℕ) (p : ℕ) → p < length (numbers index) → (get_or (numbers index) p 0 ≡ word_at index (2 * p)) × (word_at index (2 * p) ≡ 0 → ⊥)
unfolding numbers
number_at [] p h = absurd (omega arith)
number_at (high ∷ []) p h = absurd (omega arith)
number_at (high ∷ (low ∷ index)) p h = go (eqb (256 * high + low) 0) refl p h (number_at index)
  where
    go : (t : Bool) → eqb (256 * high + low) 0 ≡ t → (p : ℕ) → p < length (cond t [] ((256 * high + low) ∷ numbers index))
        → ((p : ℕ) → p < length (numbers index) → (get_or (numbers index) p 0 ≡ word_at index (2 * p)) × (word_at index (2 * p) ≡ 0 → ⊥))
        → (get_or (cond (eqb (256 * high + low) 0) [] ((256 * high + low) ∷ numbers index)) p 0 ≡ word_at (high ∷ (low ∷ index)) (2 * p))
        × (word_at (high ∷ (low ∷ index)) (2 * p) ≡ 0 → ⊥)
    go true e p h more = absurd (omega arith)
    go false e zero h more = rw e (refl, eqb-false (256 * high + low) 0 e)
    go false e (suc p) h more =
        let z : 2 * suc p ≡ suc (suc (2 * p)) = omega arith in
        let y : suc (suc (2 * p)) + 1 ≡ suc (suc (2 * p + 1)) = omega arith in
        rw (e, z, y) (more p (omega arith))

-- past the last number the two bytes are zero
pub number_past : (n : ℕ) (index : List ℕ) → IsIndex n index → (p : ℕ) → length (numbers index) ≤ p → word_at index (2 * p) ≡ 0
number_past n index is p h = omega (arith, is.rest (2 * p) (omega arith), is.rest (2 * p + 1) (omega arith))

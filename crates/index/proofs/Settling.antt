-- A number that goes to its place by name among those in front of it, which are in order: what stands in the index while those that come after it move up, and once it is laid down.
use mathlib.Core.Path.{◌≡◌, refl, sym, ap, ◌∙◌}
use mathlib.Core.Logic.{◌⊎◌, inl, inr}
use mathlib.Core.Bool.{Bool, true, false}
use mathlib.Core.List.{List, [], ◌∷◌, ◌++◌, append_assoc}
use Prim.Native.Nat.{ℕ, zero, suc, ◌+◌, ◌-◌, ◌*◌, ◌/◌, ◌%◌, ◌≤◌, ◌<◌}
use native.Mathlib.Omega.{arith}
use native.Mathlib.Decide.{dec_lt}
use lib.ListN.{length, take, drop, get_or, length-drop, take-append-drop, drop_of_length-le}
use lib.Seq.{length-take-le, take-take, take_at, drop-cons, get_or-take}
use Rattle.rules.specs.Bytes.{byte_at, word_at, word_bytes, same, splice}
use Rattle.rules.specs.Name.{precedes, Before}
use Rattle.rules.specs.Index.{numbers_bytes}
use Rattle.rules.specs.Volume.{name_in, placed}
use Rattle.rules.specs.Calls.Repair.{named_in}
use Rattle.rules.proofs.Tests.{absurd_test}
use Rattle.rules.proofs.Bytes.{same_is, is_same}
use Rattle.rules.proofs.Splice.{splice_none, splice_below, splice_cons, splice_parts}
use Rattle.rules.proofs.Name.{precedes_is, is_precedes, not_precedes, before_trans, before_irrefl, before_total}
use Rattle.rules.proofs.Map.{counted_all, count_at}
use Rattle.rules.proofs.Indexed.{placed_last, placed_here, placed_later, numbers_bytes-length}
use Rattle.rules.proofs.Repair.{named_none, none_named}
use Rattle.index.specs.Front.{InFront}

-- numbers one behind the other: two runs of them, one of them read, and one laid before others
numbers_both : (ks js : List ℕ) → numbers_bytes (ks ++ js) ≡ numbers_bytes ks ++ numbers_bytes js
unfolding numbers_bytes
numbers_both [] js = refl
numbers_both (k ∷ ks) js = ap (λ (l : List ℕ). (k / 256) ∷ ((k % 256) ∷ l)) (numbers_both ks js)

numbers_word : (ks : List ℕ) (p : ℕ) → p < length ks → word_at (numbers_bytes ks) (2 * p) ≡ get_or ks p 0
unfolding numbers_bytes
numbers_word [] p h = absurd (omega arith)
numbers_word (k ∷ ks) zero h = omega arith
numbers_word (k ∷ ks) (suc p) h =
    let z : 2 * suc p ≡ suc (suc (2 * p)) = omega arith in
    let y : suc (suc (2 * p)) + 1 ≡ suc (suc (2 * p + 1)) = omega arith in
    rw (z, y) (numbers_word ks p (omega arith))

laid_before : (buffer : List ℕ) (at k : ℕ) (ks : List ℕ) → splice (splice buffer (at + 2) (numbers_bytes ks)) at (word_bytes k) ≡ splice buffer at (numbers_bytes (k ∷ ks))
unfolding numbers_bytes
laid_before buffer at k ks =
    let e : at + 2 ≡ suc (suc at) = omega arith in
    rw (e, ← splice_cons (splice buffer (suc (suc at)) (numbers_bytes ks)) at (k / 256) ((k % 256) ∷ []), splice_cons buffer (suc at) (k % 256) (numbers_bytes ks))
    (splice_cons buffer at (k / 256) ((k % 256) ∷ numbers_bytes ks))

-- where a number is put in: behind those that its name does not come before, and before the next
placed_at : (image name : List ℕ) (k : ℕ) (ks : List ℕ) (p : ℕ) → p ≤ length ks → ((q : ℕ) → q < p → precedes name (name_in image (get_or ks q 0)) ≡ false)
    → (p < length ks → precedes name (name_in image (get_or ks p 0)) ≡ true) → placed image name k ks ≡ take p ks ++ (k ∷ drop p ks)
placed_at image name k [] zero h low high = placed_last image name k
placed_at image name k [] (suc p) h low high = absurd (omega arith)
placed_at image name k (j ∷ js) zero h low high = placed_here image name k j js (high (omega arith))
placed_at image name k (j ∷ js) (suc p) h low high =
    placed_later image name k j js (low 0 (omega arith))
    ∙ ap (λ (l : List ℕ). j ∷ l) (placed_at image name k js p (omega arith) (λ q l. low (suc q) (omega arith)) (λ l. high (omega arith)))

-- The numbers from place p on have moved up by one place: their names come after.
pub record Shifted (image name index₀ front : List ℕ) (p : ℕ) (index : List ℕ) : Type 0 where
  pub inside : p ≤ length front
  pub after : (q : ℕ) → p ≤ q → q < length front → precedes name (name_in image (get_or front q 0)) ≡ true
  pub moved : index ≡ splice index₀ (2 * p + 2) (numbers_bytes (drop p front))

module _ (image index₀ : List ℕ) (at : ℕ) (front : List ℕ) (is : InFront image index₀ at front) (name : List ℕ) where
  pub none_shifted : (p : ℕ) → at ≡ 2 * p → Shifted image name index₀ front p index₀
  unfolding numbers_bytes
  none_shifted p e =
      let all : length front ≤ p = omega (arith, is.many, e) in
      record {
        inside = omega (arith, is.many, e);
        after = λ q l h. absurd (omega arith);
        moved = rw (drop_of_length-le front all) (sym (splice_none index₀ (2 * p + 2)));
      }

  -- all before place p have names that come before
  abbrev Behind : ℕ → Type 0
  Behind p = (q : ℕ) → q < p → Before (name_in image (get_or front q 0)) name

  pub none_behind : (p : ℕ) → p ≡ 0 → Behind p
  none_behind p e q h = absurd (omega arith)

  -- the number j stands at place p, right before them
  module _ (index : List ℕ) (upper p j : ℕ) (shifted : Shifted image name index₀ front upper index) (next : upper ≡ suc p) (read : j ≡ word_at index (2 * p)) where
    there : p < length front
    there = omega (arith, shifted.inside, next)

    front_byte : (i : ℕ) → i < at → byte_at index₀ i ≡ byte_at (numbers_bytes front) i
    front_byte i h = sym (get_or-take at index₀ i 0 h) ∙ ap (λ (l : List ℕ). byte_at l i) is.stand

    kept_byte : (i : ℕ) → i < 2 * upper → byte_at index i ≡ byte_at (numbers_bytes front) i
    kept_byte i h =
        ap (λ (l : List ℕ). byte_at l i) shifted.moved
        ∙ splice_below index₀ (2 * upper + 2) (numbers_bytes (drop upper front)) i (omega (arith, h))
        ∙ front_byte i (omega (arith, h, is.many, shifted.inside))

    standing : j ≡ get_or front p 0
    standing = read ∙ rw (kept_byte (2 * p) (omega (arith, next)), kept_byte (2 * p + 1) (omega (arith, next))) (numbers_word front p there)

    -- its name comes after
    pub one_shifted : (laid : List ℕ) → laid ≡ splice index (2 * p + 2) (word_bytes j) → precedes name (name_in image j) ≡ true → Shifted image name index₀ front p laid
    one_shifted laid e before =
        let more : 2 * upper + 2 ≡ 2 * p + 2 + 2 = omega (arith, next) in
        let moved = rw more at shifted.moved in
        record {
          inside = omega (arith, there);
          after = λ q l h.
              elim (dec_lt p q) [
                | yes behind ↦ shifted.after q (omega (arith, behind, next)) h
                | no here ↦ let same : q ≡ p = omega arith in rw (same, ← standing) before
              ];
          moved =
              e
              ∙ ap (λ (l : List ℕ). splice l (2 * p + 2) (word_bytes j)) moved
              ∙ laid_before index₀ (2 * p + 2) j (drop upper front)
              ∙ ap (λ (ks : List ℕ). splice index₀ (2 * p + 2) (numbers_bytes ks)) (rw (next, standing) (sym (drop-cons front p 0 there)));
        }

    -- it has that name
    pub named_there : same name (name_in image j) ≡ true → named_in image name front ≡ true
    named_there e = go (named_in image name front) refl
      where
        go : (t : Bool) → named_in image name front ≡ t → t ≡ true
        go true f = refl
        go false f = absurd (named_none image name front f j (rw standing (count_at front p there)) (same_is name (name_in image j) e))

    -- neither
    pub all_behind : length name ≡ 10 → precedes name (name_in image j) ≡ false → same name (name_in image j) ≡ false → Behind upper
    all_behind long unpreceded other q h =
        elim (dec_lt q p) [
          | yes earlier ↦ before_trans (name_in image (get_or front q 0)) (name_in image (get_or front p 0)) name (is.ascending q p earlier there) (rw standing at last)
          | no here ↦ let e : q ≡ p = omega (arith, here, h, next) in rw (e, ← standing) last
        ]
      where
        go : (name ≡ name_in image j) ⊎ (Before name (name_in image j) ⊎ Before (name_in image j) name) → Before (name_in image j) name
        go (inl e) = absurd_test (sym (is_same name) ∙ ap (same name) e ∙ other)
        go (inr (inl before)) = absurd_test (sym (is_precedes name (name_in image j) before) ∙ unpreceded)
        go (inr (inr before)) = before

        last : Before (name_in image j) name
        last = go (before_total name (name_in image j) (long ∙ sym (rw (← standing) at (is.ten p there))))

  module _ (p : ℕ) (index : List ℕ) (shifted : Shifted image name index₀ front p index) (behind : Behind p) where
    pub named_nowhere : length name ≡ 10 → named_in image name front ≡ false
    named_nowhere long = none_named image name front (counted_all (λ (i : ℕ). name ≡ name_in image i → ⊥) front unlike)
      where
        unlike : (q : ℕ) → q < length front → name ≡ name_in image (get_or front q 0) → ⊥
        unlike q h e =
            elim (dec_lt q p) [
              | yes low ↦ before_irrefl name (rw (← e) at (behind q low))
              | no high ↦ before_irrefl name (rw (← e) at (precedes_is name (name_in image (get_or front q 0)) (long ∙ sym (is.ten q h)) (shifted.after q (omega arith) h)))
            ]

    pub laid_down : (k to : ℕ) → to ≡ 2 * p → at + 2 ≤ length index₀ → splice index to (word_bytes k) ≡ numbers_bytes (placed image name k front) ++ drop (at + 2) index₀
    laid_down k to e room =
        let few = shifted.inside in
        let low = take p front in
        let high = k ∷ drop p front in
        let long : length (numbers_bytes high) ≡ 2 * (1 + (length front - p)) = omega (arith, numbers_bytes-length high, length-drop p front) in
        let ends : 2 * p + length (numbers_bytes high) ≡ at + 2 = omega (arith, long, is.many, few) in
        let first : take (2 * p) index₀ ≡ numbers_bytes low =
        sym (take-take (2 * p) at index₀ (omega (arith, is.many, few)))
        ∙ ap (take (2 * p)) (is.stand ∙ ap numbers_bytes (sym (take-append-drop p front)) ∙ numbers_both low (drop p front))
        ∙ take_at (numbers_bytes low) (numbers_bytes (drop p front)) (2 * p) (numbers_bytes-length low ∙ ap (λ (n : ℕ). 2 * n) (length-take-le p front few))
        in
        let put = placed_at image name k front p few (λ q h. not_precedes (name_in image (get_or front q 0)) name (behind q h)) (λ h. shifted.after p (omega arith) h) in
        ap (λ (l : List ℕ). splice l to (word_bytes k)) shifted.moved
        ∙ ap (λ (n : ℕ). splice (splice index₀ (2 * p + 2) (numbers_bytes (drop p front))) n (word_bytes k)) e
        ∙ laid_before index₀ (2 * p) k (drop p front)
        ∙ sym (splice_parts index₀ (2 * p) (numbers_bytes high) (omega (arith, ends, room)))
        ∙ rw (first, ends, ← append_assoc (numbers_bytes low) (numbers_bytes high) (drop (at + 2) index₀), ← numbers_both low high, put)

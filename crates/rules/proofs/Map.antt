-- Counts of holders, and the map: its rule as a test and as facts; the bits determine the bytes, and the bytes the bits, so that the rule is a comparison of bytes.
use mathlib.Core.Path.{◌≡◌, refl, sym, ap, ◌∙◌, fun_ext}
use mathlib.Core.Bool.{true}
use mathlib.Core.List.{List, [], ◌∷◌, ◌++◌}
use Prim.Native.Nat.{ℕ, zero, suc, ◌+◌, ◌*◌, ◌/◌, ◌%◌, ◌≤◌, ◌<◌}
use native.Mathlib.Omega.{arith}
use native.Mathlib.Nat.{mod-lt}
use native.Mathlib.Decide.{dec_lt, ℕ_discrete}
use lib.Dec.{eqb}
use lib.ListN.{length, get_or}
use lib.Seq.{ext_get_or}
use borrow.Author.Tests.{eq-eqb, ne_eqb, lt-ltb, le-ltb, eqb-true}
use Rattle.rules.specs.Bytes.{byte_at, bit_of, part, same}
use Rattle.rules.specs.Map.{map_bit, count, taken, bits_rule, map_rule, byte_of, bytes_of, map_of}
use Rattle.rules.proofs.Tests.{both, same_test}
use Rattle.rules.proofs.Bytes.{part_length, part_at, same_is, is_same}

pub count_none : (k : ℕ) → count k [] ≡ 0
unfolding count
count_none k = refl

pub count_here : (k : ℕ) (holders : List ℕ) → count k (k ∷ holders) ≡ 1 + count k holders
unfolding count
count_here k holders = rw (eq-eqb k k refl)

pub count_other : (k h : ℕ) (holders : List ℕ) → (h ≡ k → ⊥) → count k (h ∷ holders) ≡ count k holders
unfolding count
count_other k h holders ne = rw (ne_eqb h k ne) (omega arith)

-- one holder more counts no less
pub count_more : (k h : ℕ) (holders : List ℕ) → count k holders ≤ count k (h ∷ holders)
unfolding count
count_more k h holders = omega arith

-- a list of one number: that number, once
pub only_one : (k j : ℕ) → 1 ≤ count j (k ∷ []) → k ≡ j
only_one k j some =
    elim (ℕ_discrete k j) [
      | yes here ↦ here
      | no other ↦ absurd (omega (arith, some, count_other j k [] other, count_none j))
    ]

pub one_once : (k j : ℕ) → count j (k ∷ []) ≤ 1
one_once k j =
    elim (ℕ_discrete k j) [
      | yes here ↦ rw here (omega (arith, count_here j [], count_none j))
      | no other ↦ omega (arith, count_other j k [] other, count_none j)
    ]

-- what does not count in a list is none of its numbers
pub count_apart : (j k : ℕ) (ks : List ℕ) → count j (k ∷ ks) ≡ 0 → (j ≡ k → ⊥) × (count j ks ≡ 0)
count_apart j k ks none = ((λ e. omega (arith, rw e at none, count_here k ks)), omega (arith, none, count_more j k ks))

-- what stands in a list counts
pub count_at : (ks : List ℕ) (p : ℕ) → p < length ks → 1 ≤ count (get_or ks p 0) ks
count_at [] p h = absurd (omega arith)
count_at (k ∷ ks) zero h = omega (arith, count_here k ks)
count_at (k ∷ ks) (suc p) h = omega (arith, count_at ks p (omega arith), count_more (get_or ks p 0) k ks)

-- what holds at every place of a list holds of every number that it counts
pub counted_all : (P : ℕ → Type 0) (ks : List ℕ) → ((p : ℕ) → p < length ks → P (get_or ks p 0)) → (k : ℕ) → 1 ≤ count k ks → P k
counted_all P [] all k some = absurd (omega (arith, count_none k))
counted_all P (j ∷ js) all k some =
    elim (ℕ_discrete j k) [
      | yes here ↦ rw (← here) (all 0 (omega arith))
      | no there ↦ counted_all P js (λ p h. all (suc p) (omega arith)) k (omega (arith, count_other k j js there))
    ]

pub count_append : (k : ℕ) (as' bs : List ℕ) → count k (as' ++ bs) ≡ count k as' + count k bs
unfolding count
count_append k [] bs = omega arith
count_append k (h ∷ as') bs = omega (arith, count_append k as' bs)

-- what bit k is to be
pub taken_below : (n : ℕ) (holders : List ℕ) (k : ℕ) → k < n → taken n holders k ≡ count k holders
unfolding taken
taken_below n holders k h = grind (arith, lt-ltb)

pub taken_past : (n : ℕ) (holders : List ℕ) (k : ℕ) → n ≤ k → taken n holders k ≡ 1
unfolding taken
taken_past n holders k h = rw (le-ltb k n h)

-- where it marks the holders below n, and all from there on
pub bits_taken : (n : ℕ) (holders sector0 : List ℕ) → ((k : ℕ) → k < n → map_bit sector0 k ≡ count k holders) → ((k : ℕ) → n ≤ k → k < 1600 → map_bit sector0 k ≡ 1)
    → (k : ℕ) → k < 1600 → map_bit sector0 k ≡ taken n holders k
bits_taken n holders sector0 marked filled k low =
    elim (dec_lt k n) [
      | yes below ↦ marked k below ∙ sym (taken_below n holders k below)
      | no past ↦ filled k (omega arith) low ∙ sym (taken_past n holders k (omega arith))
    ]

-- holders that count the same need the same map
pub taken_same : (n : ℕ) (old new : List ℕ) → ((k : ℕ) → count k new ≡ count k old) → (k : ℕ) → taken n new k ≡ taken n old k
taken_same n old new counts k =
    elim (dec_lt k n) [
      | yes below ↦ rw (taken_below n new k below, taken_below n old k below) (counts k)
      | no past ↦ rw (taken_past n new k (omega arith), taken_past n old k (omega arith))
    ]

pub taken_once : (n : ℕ) (holders : List ℕ) → ((k : ℕ) → count k holders ≤ 1) → (k : ℕ) → taken n holders k ≤ 1
taken_once n holders once k =
    elim (dec_lt k n) [
      | yes h ↦ rw (taken_below n holders k h) (once k)
      | no h ↦ rw (taken_past n holders k (omega arith)) (omega arith)
    ]

-- the rule, bit by bit
module _ (bit : ℕ → ℕ) (sector0 : List ℕ) where
  bits_at : (many k : ℕ) → bits_rule bit sector0 many k ≡ true → (i : ℕ) → k ≤ i → i < k + many → map_bit sector0 i ≡ bit i
  unfolding bits_rule
  bits_at zero k e i low high = absurd (omega arith)
  bits_at (suc many) k e i low high =
      let parts = both (eqb (map_bit sector0 k) (bit k)) (bits_rule bit sector0 many (k + 1)) e in
      elim (ℕ_discrete k i) [
        | yes here ↦ rw (← here) (eqb-true _ _ parts.0)
        | no there ↦ bits_at many (k + 1) parts.1 i (omega (arith, there)) (omega arith)
      ]

  at_bits : (many k : ℕ) → ((i : ℕ) → k ≤ i → i < k + many → map_bit sector0 i ≡ bit i) → bits_rule bit sector0 many k ≡ true
  unfolding bits_rule
  at_bits zero k f = refl
  at_bits (suc many) k f =
      rw (eq-eqb (map_bit sector0 k) (bit k) (f k (omega arith) (omega arith))) (at_bits many (k + 1) (λ i low high. f i (omega arith) (omega arith)))

pub map_at : (n : ℕ) (holders sector0 : List ℕ) → map_rule n holders sector0 ≡ true → (k : ℕ) → k < 1600 → map_bit sector0 k ≡ taken n holders k
unfolding map_rule
map_at n holders sector0 e k h = bits_at (taken n holders) sector0 1600 0 e k (omega arith) (omega arith)

pub at_map : (n : ℕ) (holders sector0 : List ℕ) → ((k : ℕ) → k < 1600 → map_bit sector0 k ≡ taken n holders k) → map_rule n holders sector0 ≡ true
unfolding map_rule
at_map n holders sector0 f = at_bits (taken n holders) sector0 1600 0 (λ k low high. f k (omega arith))

-- a byte's bits are those that made it
pub by_eight : (P : ℕ → Type 0) → P 0 → P 1 → P 2 → P 3 → P 4 → P 5 → P 6 → P 7 → (j : ℕ) → j < 8 → P j
by_eight P p0 p1 p2 p3 p4 p5 p6 p7 zero h = p0
by_eight P p0 p1 p2 p3 p4 p5 p6 p7 (suc zero) h = p1
by_eight P p0 p1 p2 p3 p4 p5 p6 p7 (suc (suc zero)) h = p2
by_eight P p0 p1 p2 p3 p4 p5 p6 p7 (suc (suc (suc zero))) h = p3
by_eight P p0 p1 p2 p3 p4 p5 p6 p7 (suc (suc (suc (suc zero)))) h = p4
by_eight P p0 p1 p2 p3 p4 p5 p6 p7 (suc (suc (suc (suc (suc zero))))) h = p5
by_eight P p0 p1 p2 p3 p4 p5 p6 p7 (suc (suc (suc (suc (suc (suc zero)))))) h = p6
by_eight P p0 p1 p2 p3 p4 p5 p6 p7 (suc (suc (suc (suc (suc (suc (suc zero))))))) h = p7
by_eight P p0 p1 p2 p3 p4 p5 p6 p7 (suc (suc (suc (suc (suc (suc (suc (suc j)))))))) h = absurd (omega arith)

module _ (bit : ℕ → ℕ) (once : (k : ℕ) → bit k ≤ 1) (k : ℕ) where
  pub byte_bit : (j : ℕ) → j < 8 → bit_of (byte_of bit k) j ≡ bit (k + j)
  unfolding byte_of
  byte_bit =
      let b0 = once k in
      let b1 = once (k + 1) in
      let b2 = once (k + 2) in
      let b3 = once (k + 3) in
      let b4 = once (k + 4) in
      let b5 = once (k + 5) in
      let b6 = once (k + 6) in
      let b7 = once (k + 7) in
      by_eight (λ (j : ℕ). bit_of (byte_of bit k) j ≡ bit (k + j)) (let z : k + 0 ≡ k = omega arith in rw z (omega arith)) (omega arith) (omega arith) (omega arith) (omega arith) (omega arith) (omega arith) (omega arith)

-- and the bits determine the byte: halving it eight times leaves nothing
halvings : (b q1 q2 q3 q4 q5 q6 q7 r0 r1 r2 r3 r4 r5 r6 r7 : ℕ) → b ≡ r0 + 2 * q1 → q1 ≡ r1 + 2 * q2 → q2 ≡ r2 + 2 * q3 → q3 ≡ r3 + 2 * q4
    → q4 ≡ r4 + 2 * q5 → q5 ≡ r5 + 2 * q6 → q6 ≡ r6 + 2 * q7 → q7 ≡ r7
    → b ≡ r0 + 2 * r1 + 4 * r2 + 8 * r3 + 16 * r4 + 32 * r5 + 64 * r6 + 128 * r7
halvings b q1 q2 q3 q4 q5 q6 q7 r0 r1 r2 r3 r4 r5 r6 r7 e0 e1 e2 e3 e4 e5 e6 e7 = omega arith

eight_bits : (b : ℕ) → b < 256
    → b ≡ bit_of b 0 + 2 * bit_of b 1 + 4 * bit_of b 2 + 8 * bit_of b 3 + 16 * bit_of b 4 + 32 * bit_of b 5 + 64 * bit_of b 6 + 128 * bit_of b 7
eight_bits b h =
    halvings b (b / 2) (b / 4) (b / 8) (b / 16) (b / 32) (b / 64) (b / 128) _ _ _ _ _ _ _ _
    (omega arith) (omega arith) (omega arith) (omega arith) (omega arith) (omega arith) (omega arith) (omega arith)

pub byte_of_bits : (bit : ℕ → ℕ) (b k : ℕ) → b < 256 → ((j : ℕ) → j < 8 → bit_of b j ≡ bit (k + j)) → b ≡ byte_of bit k
unfolding byte_of
byte_of_bits bit b k h f =
    let z : k + 0 ≡ k = omega arith in
    eight_bits b h
    ∙ rw (f 0 (omega arith) ∙ ap bit z, f 1 (omega arith), f 2 (omega arith), f 3 (omega arith), f 4 (omega arith), f 5 (omega arith), f 6 (omega arith), f 7 (omega arith))

-- bits that are no more than one make a byte
pub byte_small : (bit : ℕ → ℕ) (k : ℕ) → ((j : ℕ) → bit j ≤ 1) → byte_of bit k < 256
unfolding byte_of
byte_small bit k once = omega (arith, once k, once (k + 1), once (k + 2), once (k + 3), once (k + 4), once (k + 5), once (k + 6), once (k + 7))

-- bit j of the map's byte i
pub map_bit_lem : (sector0 : List ℕ) (i j : ℕ) → j < 8 → map_bit sector0 (8 * i + j) ≡ bit_of (byte_at sector0 (56 + i)) j
unfolding map_bit
map_bit_lem sector0 i j h =
    let d : (8 * i + j) / 8 ≡ i = omega arith in
    let m : (8 * i + j) % 8 ≡ j = omega arith in
    rw (d, m)

pub bytes_length : (bit : ℕ → ℕ) (many k : ℕ) → length (bytes_of bit many k) ≡ many
unfolding bytes_of
bytes_length bit zero k = refl
bytes_length bit (suc many) k = ap suc (bytes_length bit many (k + 8))

pub bytes_at : (bit : ℕ → ℕ) (many k i : ℕ) → i < many → byte_at (bytes_of bit many k) i ≡ byte_of bit (k + 8 * i)
unfolding bytes_of
bytes_at bit zero k i h = absurd (omega arith)
bytes_at bit (suc many) k zero h = ap (byte_of bit) (omega arith)
bytes_at bit (suc many) k (suc i) h = bytes_at bit many (k + 8) i (omega arith) ∙ ap (byte_of bit) (omega arith)

-- the map's bytes have the holders' bits
pub map_of_bits : (n : ℕ) (holders sector0 : List ℕ) → ((k : ℕ) → count k holders ≤ 1) → part sector0 56 200 ≡ map_of n holders
    → (k : ℕ) → k < 1600 → map_bit sector0 k ≡ taken n holders k
unfolding map_bit map_of
map_of_bits n holders sector0 once e k h =
    let i : k / 8 < 200 = omega arith in
    let here : byte_at sector0 (56 + k / 8) ≡ byte_of (taken n holders) (0 + 8 * (k / 8)) =
    sym (part_at sector0 56 200 (k / 8) i) ∙ ap (λ (bytes : List ℕ). byte_at bytes (k / 8)) e ∙ bytes_at (taken n holders) 200 0 (k / 8) i
    in
    let z : 0 + 8 * (k / 8) + k % 8 ≡ k = omega arith in
    rw here (byte_bit (taken n holders) (taken_once n holders once) (0 + 8 * (k / 8)) (k % 8) (mod-lt k (omega arith)) ∙ ap (taken n holders) z)

-- holders that count the same have the same map
pub map_same : (n : ℕ) (old new : List ℕ) → ((k : ℕ) → count k new ≡ count k old) → map_of n new ≡ map_of n old
unfolding map_of
map_same n old new counts = ap (λ (bit : ℕ → ℕ). bytes_of bit 200 0) (fun_ext (taken_same n old new counts))

-- and bytes with the holders' bits are the map's
pub map_of_bytes : (n : ℕ) (holders sector0 : List ℕ) → length (part sector0 56 200) ≡ 200 → ((i : ℕ) → i < 200 → byte_at sector0 (56 + i) < 256)
    → ((k : ℕ) → k < 1600 → map_bit sector0 k ≡ taken n holders k) → part sector0 56 200 ≡ map_of n holders
unfolding map_of
map_of_bytes n holders sector0 long small f =
    ext_get_or 0 (part sector0 56 200) (bytes_of (taken n holders) 200 0) (long ∙ sym (bytes_length (taken n holders) 200 0))
    (λ i h.
    let i' : i < 200 = omega arith in
    part_at sector0 56 200 i i'
    ∙ byte_of_bits (taken n holders) (byte_at sector0 (56 + i)) (8 * i) (small i i') (λ j l. sym (map_bit_lem sector0 i j l) ∙ f (8 * i + j) (omega arith))
    ∙ sym (bytes_at (taken n holders) 200 0 i i' ∙ ap (byte_of (taken n holders)) (omega arith)))

-- the map's rule is the comparison of its 200 bytes with those of the holders
pub map_compared : (n : ℕ) (hs sector0 : List ℕ) → length sector0 ≡ 256 → ((i : ℕ) → byte_at sector0 i < 256) → ((k : ℕ) → count k hs ≤ 1)
    → same (part sector0 56 200) (map_of n hs) ≡ map_rule n hs sector0
map_compared n hs sector0 long small once =
    same_test (same (part sector0 56 200) (map_of n hs)) (map_rule n hs sector0)
    (λ e. at_map n hs sector0 (map_of_bits n hs sector0 once (same_is (part sector0 56 200) (map_of n hs) e)))
    (λ e.
    let bytes = map_of_bytes n hs sector0 (part_length sector0 56 200 (omega (arith, long))) (λ i h. small (56 + i)) (map_at n hs sector0 e) in
    rw bytes (is_same (map_of n hs)))

-- The laws of the readings.
use mathlib.Core.Path.{◌≡◌, refl, sym, ap, ◌∙◌}
use mathlib.Core.Bool.{Bool, true, false, ◌&&◌}
use mathlib.Core.List.{List, [], ◌∷◌, ◌++◌}
use Prim.Native.Nat.{ℕ, zero, suc, ◌+◌, ◌-◌, ◌≤◌, ◌<◌}
use native.Mathlib.Omega.{arith}
use native.Mathlib.Numerals.{add-one}
use native.Mathlib.Decide.{dec_lt}
use lib.Dec.{eqb}
use lib.ListN.{length, take, drop, length-take, length-drop, take-append-drop, drop_of_length-le, get_or-eq_default, replicate, length-replicate, get_or-replicate}
use lib.Seq.{take_all, take_at, drop_at, drop-drop, drop-cons, get_or-take, get_or-drop, ext_get_or}
use borrow.Author.Tests.{eq-eqb, eqb-true}
use Rattle.rules.specs.Bytes.{byte_at, part, all_are, same}
use Rattle.rules.proofs.Tests.{both, absurd_test}

-- the list from byte i on, a byte, two and three at a time
pub drop_two : (bytes : List ℕ) (i : ℕ) → i + 2 ≤ length bytes → drop i bytes ≡ byte_at bytes i ∷ (byte_at bytes (i + 1) ∷ drop (i + 2) bytes)
drop_two bytes i h =
    let h0 : i < length bytes = omega arith in
    let h1 : i + 1 < length bytes = omega arith in
    let e1 : suc i ≡ i + 1 = omega arith in
    let e2 : suc (i + 1) ≡ i + 2 = omega arith in
    rw (drop-cons bytes i 0 h0, e1, drop-cons bytes (i + 1) 0 h1, e2)

pub drop_three : (bytes : List ℕ) (i : ℕ) → i + 3 ≤ length bytes
    → drop i bytes ≡ byte_at bytes i ∷ (byte_at bytes (i + 1) ∷ (byte_at bytes (i + 2) ∷ drop (i + 3) bytes))
drop_three bytes i h =
    let h0 : i < length bytes = omega arith in
    let h1 : i + 1 + 2 ≤ length bytes = omega arith in
    let e0 : suc i ≡ i + 1 = omega arith in
    let e1 : i + 1 + 1 ≡ i + 2 = omega arith in
    let e2 : i + 1 + 2 ≡ i + 3 = omega arith in
    rw (drop-cons bytes i 0 h0, e0, drop_two bytes (i + 1) h1, e1, e2)

-- a part: its length and its bytes
pub part_length : (bytes : List ℕ) (from count : ℕ) → from + count ≤ length bytes → length (part bytes from count) ≡ count
part_length bytes from count h = simp (length-take, length-drop) (omega arith)

pub part_short : (bytes : List ℕ) (from count : ℕ) → length (part bytes from count) ≤ count
part_short bytes from count = rw length-take (omega arith)

pub part_at : (bytes : List ℕ) (from count i : ℕ) → i < count → byte_at (part bytes from count) i ≡ byte_at bytes (from + i)
part_at bytes from count i h = rw (get_or-take count (drop from bytes) i 0 h, get_or-drop from bytes i 0)

-- a part of two lists that are equally long and agree there
pub part_same : (first second : List ℕ) (from count : ℕ) → length first ≡ length second → ((i : ℕ) → from ≤ i → i < from + count → byte_at first i ≡ byte_at second i)
    → part first from count ≡ part second from count
part_same first second from count long same =
    let size : length (part first from count) ≡ length (part second from count) = simp (length-take, length-drop) (rw long) in
    ext_get_or 0 (part first from count) (part second from count) size
    (λ i h.
    let low : i < count = omega (arith, h, part_short first from count) in
    part_at first from count i low ∙ same (from + i) (omega arith) (omega arith) ∙ sym (part_at second from count i low))

pub part_below : (bytes : List ℕ) (from count limit : ℕ) → 0 < limit → ((i : ℕ) → byte_at bytes i < limit) → (i : ℕ) → byte_at (part bytes from count) i < limit
part_below bytes from count limit some below i =
    elim (dec_lt i count) [
      | yes h ↦ rw (part_at bytes from count i h) (below (from + i))
      | no h ↦
          let none = get_or-eq_default (part bytes from count) 0 {n = i} (omega (arith, part_short bytes from count)) in
          omega arith
    ]

-- a list is its two halves, so two lists whose halves are equal are equal
both_halves : (m n : ℕ) (bytes : List ℕ) → length bytes ≡ m + n → part bytes 0 m ++ part bytes m n ≡ bytes
both_halves m n bytes long =
    ap (λ (l : List ℕ). take m bytes ++ l) (take_all n (drop m bytes) (omega (arith, long, length-drop m bytes))) ∙ take-append-drop m bytes

pub halves : (m n : ℕ) (a b : List ℕ) → length a ≡ m + n → length b ≡ m + n → part a 0 m ≡ part b 0 m → part a m n ≡ part b m n → a ≡ b
halves m n a b long long' first second = sym (both_halves m n a long) ∙ rw (first, second) (both_halves m n b long')

-- a part behind the front of a list, and lists that agree in a part and behind it
pub part_behind : (front back : List ℕ) (m i many : ℕ) → length front ≡ m → part (front ++ back) (m + i) many ≡ part back i many
part_behind front back m i many long = ap (take many) (sym (drop-drop i m (front ++ back)) ∙ ap (drop i) (drop_at front back m long))

pub part_and_rest : (a b : List ℕ) (i many : ℕ) → part a i many ≡ part b i many → drop (i + many) a ≡ drop (i + many) b → drop i a ≡ drop i b
part_and_rest a b i many here behind =
    sym (take-append-drop many (drop i a)) ∙ rw (here, drop-drop many i a, behind, ← drop-drop many i b) (take-append-drop many (drop i b))

-- two lists that are equal and begin with parts of one length: so are the parts
pub append_parts : {A : Type 0} (a b c d : List A) → length a ≡ length c → a ++ b ≡ c ++ d → (a ≡ c) × (b ≡ d)
append_parts a b c d long e = (
  sym (take_at a b (length c) long) ∙ ap (take (length c)) e ∙ take_at c d (length c) refl,
  sym (drop_at a b (length c) long) ∙ ap (drop (length c)) e ∙ drop_at c d (length c) refl,
)

-- all are one value: the next byte and the rest, the end, and every place
pub all_step : (value : ℕ) (bytes : List ℕ) (i : ℕ) → i < length bytes
    → all_are value (drop i bytes) ≡ (eqb (byte_at bytes i) value && all_are value (drop (i + 1) bytes))
unfolding all_are
all_step value bytes i h = rw (add-one, drop-cons bytes i 0)

pub all_end : (value : ℕ) (bytes : List ℕ) (i : ℕ) → length bytes ≤ i → all_are value (drop i bytes) ≡ true
unfolding all_are
all_end value bytes i h = rw drop_of_length-le

pub all_at : (value : ℕ) (bytes : List ℕ) → all_are value bytes ≡ true → (i : ℕ) → i < length bytes → byte_at bytes i ≡ value
unfolding all_are
all_at value [] e i h = absurd (omega arith)
all_at value (b ∷ bytes) e zero h = eqb-true b value (both (eqb b value) (all_are value bytes) e).0
all_at value (b ∷ bytes) e (suc i) h = all_at value bytes (both (eqb b value) (all_are value bytes) e).1 i (omega arith)

pub at_all : (value : ℕ) (bytes : List ℕ) → ((i : ℕ) → i < length bytes → byte_at bytes i ≡ value) → all_are value bytes ≡ true
unfolding all_are
at_all value [] f = refl
at_all value (b ∷ bytes) f = rw (eq-eqb b value (f zero (omega arith))) (at_all value bytes (λ i h. f (suc i) (omega arith)))

pub at_replicate : (value : ℕ) (bytes : List ℕ) → ((i : ℕ) → i < length bytes → byte_at bytes i ≡ value) → bytes ≡ replicate (length bytes) value
at_replicate value bytes f =
    ext_get_or 0 bytes (replicate (length bytes) value) (sym (length-replicate (length bytes) value)) (λ i h. f i h ∙ sym (get_or-replicate (length bytes) i value 0 h))

-- zeros from a place on, said of every place from there, past the end too
all_zero_at : (bytes : List ℕ) → all_are 0 bytes ≡ true → (i : ℕ) → byte_at bytes i ≡ 0
unfolding all_are
all_zero_at [] e i = refl
all_zero_at (b ∷ bytes) e zero = eqb-true b 0 (both (eqb b 0) (all_are 0 bytes) e).0
all_zero_at (b ∷ bytes) e (suc i) = all_zero_at bytes (both (eqb b 0) (all_are 0 bytes) e).1 i

pub zeros_at : (bytes : List ℕ) (from : ℕ) → all_are 0 (drop from bytes) ≡ true → (i : ℕ) → from ≤ i → byte_at bytes i ≡ 0
zeros_at bytes from e i h =
    let w : from + (i - from) ≡ i = omega arith in
    let z = all_zero_at (drop from bytes) e (i - from) in
    let y = rw (get_or-drop from bytes (i - from) 0, w) at z in
    y

pub at_zeros : (bytes : List ℕ) (from : ℕ) → ((i : ℕ) → from ≤ i → byte_at bytes i ≡ 0) → all_are 0 (drop from bytes) ≡ true
at_zeros bytes from f = at_all 0 (drop from bytes) (λ i h. rw (get_or-drop from bytes i 0) (f (from + i) (omega arith)))

-- equal bytes: the next byte and the rest, the end, and different lengths
pub same_step : (first second : List ℕ) (i : ℕ) → i < length first → i < length second
    → same (drop i first) (drop i second) ≡ (eqb (byte_at first i) (byte_at second i) && same (drop (i + 1) first) (drop (i + 1) second))
unfolding same
same_step first second i h k = rw (add-one, drop-cons first i 0 h, drop-cons second i 0 k)

pub same_end : (first second : List ℕ) (i : ℕ) → length first ≤ i → length second ≤ i → same (drop i first) (drop i second) ≡ true
unfolding same
same_end first second i h k = rw (drop_of_length-le first h, drop_of_length-le second k)

pub same_long : (first second : List ℕ) → (length first ≡ length second → ⊥) → same first second ≡ false
unfolding same
same_long [] [] e = absurd (e refl)
same_long [] (b ∷ second) e = refl
same_long (a ∷ first) [] e = refl
same_long (a ∷ first) (b ∷ second) e = go (eqb a b) (same_long first second (λ f. e (omega arith)))
  where
    go : (t : Bool) → same first second ≡ false → (t && same first second) ≡ false
    go true f = f
    go false f = refl

-- the test and the equality
pub same_is : (first second : List ℕ) → same first second ≡ true → first ≡ second
unfolding same
same_is [] [] e = refl
same_is [] (b ∷ second) e = absurd_test (sym e)
same_is (a ∷ first) [] e = absurd_test (sym e)
same_is (a ∷ first) (b ∷ second) e =
    let parts = both (eqb a b) (same first second) e in
    rw (eqb-true a b parts.0, same_is first second parts.1)

pub is_same : (bytes : List ℕ) → same bytes bytes ≡ true
unfolding same
is_same [] = refl
is_same (b ∷ bytes) = rw (eq-eqb b b refl) (is_same bytes)

pub not_same : (first second : List ℕ) → (first ≡ second → ⊥) → same first second ≡ false
not_same first second other = go (same first second) refl
  where
    go : (t : Bool) → same first second ≡ t → t ≡ false
    go true e = absurd (other (same_is first second e))
    go false e = refl

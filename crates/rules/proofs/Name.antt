-- Names: the rule as a test and as facts, and the order: a test and facts, transitive, of two different names one is before the other and never both.
use mathlib.Core.Path.{◌≡◌, refl, sym, ◌∙◌}
use mathlib.Core.Logic.{◌⊎◌, inl, inr}
use mathlib.Core.Bool.{Bool, true, false, ◌&&◌, not, cond}
use mathlib.Core.List.{List, [], ◌∷◌}
use Prim.Native.Nat.{ℕ, zero, suc, ◌+◌, ◌-◌, ◌≤◌, ◌<◌}
use native.Mathlib.Omega.{arith}
use native.Mathlib.Numerals.{add-one}
use native.Mathlib.Decide.{dec_lt}
use lib.Dec.{eqb, leb, ltb}
use lib.ListN.{length, drop, drop_of_length-le, length-drop}
use lib.Seq.{drop-cons}
use borrow.Author.Tests.{eq-eqb, ne_eqb, eqb-true, eqb-false, leb-true, le-leb, lt-ltb, le-ltb, ltb-true, not-true}
use Rattle.rules.specs.Bytes.{byte_at, all_are}
use Rattle.rules.specs.Name.{name_byte, padded, name_rule, precedes, IsNameByte, IsName, Before}
use Rattle.rules.proofs.Tests.{both, absurd_test}
use Rattle.rules.proofs.Bytes.{all_at, at_all}

-- the rule of a byte
pub name_byte_is : (b : ℕ) → name_byte b ≡ true → IsNameByte b
unfolding name_byte
name_byte_is b e =
    let low = both (leb 33 b) (leb b 126 && not (eqb b 46)) e in
    let high = both (leb b 126) (not (eqb b 46)) low.1 in
    record { printable = (leb-true 33 b low.0, leb-true b 126 high.0); undotted = eqb-false b 46 (not-true (eqb b 46) high.1) }

pub is_name_byte : (b : ℕ) → IsNameByte b → name_byte b ≡ true
unfolding name_byte
is_name_byte b is = rw (le-leb 33 b is.printable.0, le-leb b 126 is.printable.1, ne_eqb b 46 is.undotted)

-- a byte of a name, then the rest; or a space, and spaces to the end
pub padded_step : (name : List ℕ) (i : ℕ) → i < length name
    → padded (drop i name) ≡ cond (eqb (byte_at name i) 32) (all_are 32 (drop (i + 1) name)) (name_byte (byte_at name i) && padded (drop (i + 1) name))
unfolding padded
padded_step name i h = rw (add-one, drop-cons name i 0)

pub padded_end : (name : List ℕ) (i : ℕ) → length name ≤ i → padded (drop i name) ≡ true
unfolding padded
padded_end name i h = rw drop_of_length-le

-- the facts of a padded list: how many bytes of a name there are, and spaces after them
record IsPadded (bytes : List ℕ) : Type 0 where
  used : ℕ
  inside : used ≤ length bytes
  named : (i : ℕ) → i < used → IsNameByte (byte_at bytes i)
  spaces : (i : ℕ) → used ≤ i → i < length bytes → byte_at bytes i ≡ 32

padded_is : (bytes : List ℕ) → padded bytes ≡ true → IsPadded bytes
unfolding padded
padded_is [] e = record { used = 0; inside = omega arith; named = λ i h. absurd (omega arith); spaces = λ i h k. absurd (omega arith) }
padded_is (b ∷ bytes) e = go (eqb b 32) refl e (padded_is bytes)
  where
    go : (t : Bool) → eqb b 32 ≡ t → cond t (all_are 32 bytes) (name_byte b && padded bytes) ≡ true → (padded bytes ≡ true → IsPadded bytes) → IsPadded (b ∷ bytes)
    go true space e more = record { used = 0; inside = omega arith; named = λ i h. absurd (omega arith); spaces = all_spaces }
      where
        all_spaces : (i : ℕ) → 0 ≤ i → i < length (b ∷ bytes) → byte_at (b ∷ bytes) i ≡ 32
        all_spaces zero h k = eqb-true b 32 space
        all_spaces (suc i) h k = all_at 32 bytes e i (omega arith)
    go false space e more =
        let parts = both (name_byte b) (padded bytes) e in
        let is = more parts.1 in
        record { used = suc is.used; inside = omega (arith, is.inside); named = named_here parts.0 is; spaces = spaces_after is }
      where
        named_here : name_byte b ≡ true → (is : IsPadded bytes) → (i : ℕ) → i < suc is.used → IsNameByte (byte_at (b ∷ bytes) i)
        named_here first is zero h = name_byte_is b first
        named_here first is (suc i) h = is.named i (omega arith)

        spaces_after : (is : IsPadded bytes) → (i : ℕ) → suc is.used ≤ i → i < length (b ∷ bytes) → byte_at (b ∷ bytes) i ≡ 32
        spaces_after is zero h k = absurd (omega arith)
        spaces_after is (suc i) h k = is.spaces i (omega arith) (omega arith)

is_padded : (bytes : List ℕ) (used : ℕ) → ((i : ℕ) → i < used → IsNameByte (byte_at bytes i)) → ((i : ℕ) → used ≤ i → i < length bytes → byte_at bytes i ≡ 32) → padded bytes ≡ true
unfolding padded
is_padded [] used named spaces = refl
is_padded (b ∷ bytes) zero named spaces =
    rw (eq-eqb b 32 (spaces zero (omega arith) (omega arith))) (at_all 32 bytes (λ i h. spaces (suc i) (omega arith) (omega arith)))
is_padded (b ∷ bytes) (suc used) named spaces =
    let first = named zero (omega arith) in
    rw (ne_eqb b 32 (λ e. omega (arith, first.printable.0, e)), is_name_byte b first)
    (is_padded bytes used (λ i h. named (suc i) (omega arith)) (λ i h k. spaces (suc i) (omega arith) (omega arith)))

some_used : (name : List ℕ) (is : IsPadded name) → 1 ≤ length name → IsNameByte (byte_at name 0) → 1 ≤ is.used
some_used name is long first =
    elim (dec_lt 0 is.used) [
      | yes h ↦ omega arith
      | no h ↦ absurd (omega (arith, is.spaces 0 (omega arith) (omega arith), first.printable.0))
    ]

pub name_is : (name : List ℕ) → name_rule name ≡ true → IsName name
unfolding name_rule
name_is name e =
    let long = both (eqb (length name) 10) (name_byte (byte_at name 0) && padded name) e in
    let first = both (name_byte (byte_at name 0)) (padded name) long.1 in
    let ten = eqb-true (length name) 10 long.0 in
    let is = padded_is name first.1 in
    record {
      ten = ten;
      used = is.used;
      some = (some_used name is (omega arith) (name_byte_is (byte_at name 0) first.0), omega (arith, is.inside));
      bytes = is.named;
      spaces = λ i h k. is.spaces i h (omega arith);
    }

pub is_name : (name : List ℕ) → IsName name → name_rule name ≡ true
unfolding name_rule
is_name name is =
    rw (eq-eqb (length name) 10 is.ten, is_name_byte (byte_at name 0) (is.bytes 0 is.some.0))
    (is_padded name is.used is.bytes (λ i h k. is.spaces i h (omega (arith, is.ten))))

-- the order, byte by byte
pub precedes_step : (first second : List ℕ) (i : ℕ) → i < length first → i < length second
    → precedes (drop i first) (drop i second)
    ≡ cond (eqb (byte_at first i) (byte_at second i)) (precedes (drop (i + 1) first) (drop (i + 1) second)) (ltb (byte_at first i) (byte_at second i))
unfolding precedes
precedes_step first second i h k = rw (add-one, drop-cons first i 0 h, drop-cons second i 0 k)

pub precedes_short : (first second : List ℕ) (i : ℕ) → i < length first → length second ≤ i → precedes (drop i first) (drop i second) ≡ false
unfolding precedes
precedes_short first second i h k = rw (drop-cons first i 0 h, drop_of_length-le second k)

pub precedes_end : (first second : List ℕ) (i : ℕ) → length first ≤ i → precedes (drop i first) (drop i second) ≡ ltb i (length second)
unfolding precedes
precedes_end first second i h = rw (drop_of_length-le first h) (go (drop i second) (length-drop i second))
  where
    go : (rest : List ℕ) → length rest ≡ length second - i → precedes [] rest ≡ ltb i (length second)
    go [] e = sym (le-ltb i (length second) (omega arith))
    go (b ∷ rest) e = sym (lt-ltb i (length second) (omega arith))

-- one byte more in front
before_here : (a b : ℕ) (first second : List ℕ) → a < b → Before (a ∷ first) (b ∷ second)
before_here a b first second h = record { place = 0; inside = (omega arith, omega arith); equal = λ i k. absurd (omega arith); lower = h }

before_later : (a b : ℕ) (first second : List ℕ) → a ≡ b → Before first second → Before (a ∷ first) (b ∷ second)
before_later a b first second e is =
    record { place = suc is.place; inside = (omega (arith, is.inside), omega (arith, is.inside)); equal = equal; lower = is.lower }
  where
    equal : (i : ℕ) → i < suc is.place → byte_at (a ∷ first) i ≡ byte_at (b ∷ second) i
    equal zero h = e
    equal (suc i) h = is.equal i (omega arith)

pub precedes_is : (first second : List ℕ) → length first ≡ length second → precedes first second ≡ true → Before first second
unfolding precedes
precedes_is [] [] long e = absurd_test (sym e)
precedes_is [] (b ∷ second) long e = absurd (omega arith)
precedes_is (a ∷ first) [] long e = absurd (omega arith)
precedes_is (a ∷ first) (b ∷ second) long e = go (eqb a b) refl e (precedes_is first second (omega arith))
  where
    go : (t : Bool) → eqb a b ≡ t → cond t (precedes first second) (ltb a b) ≡ true → (precedes first second ≡ true → Before first second) → Before (a ∷ first) (b ∷ second)
    go true q e more = before_later a b first second (eqb-true a b q) (more e)
    go false q e more = before_here a b first second (ltb-true a b e)

precedes_at : (first second : List ℕ) (place : ℕ) → place < length first → place < length second → ((i : ℕ) → i < place → byte_at first i ≡ byte_at second i)
    → byte_at first place < byte_at second place → (precedes first second ≡ true) × (precedes second first ≡ false)
unfolding precedes
precedes_at [] second place h k equal lower = absurd (omega arith)
precedes_at (a ∷ first) [] place h k equal lower = absurd (omega arith)
precedes_at (a ∷ first) (b ∷ second) zero h k equal lower =
    (rw (ne_eqb a b (λ e. omega (arith, e)), lt-ltb a b lower), rw (ne_eqb b a (λ e. omega (arith, e)), le-ltb b a (omega arith)))
precedes_at (a ∷ first) (b ∷ second) (suc place) h k equal lower =
    let more = precedes_at first second place (omega arith) (omega arith) (λ i j. equal (suc i) (omega arith)) lower in
    (rw (eq-eqb a b (equal 0 (omega arith))) more.0, rw (eq-eqb b a (sym (equal 0 (omega arith)))) more.1)

pub is_precedes : (first second : List ℕ) → Before first second → precedes first second ≡ true
is_precedes first second is = (precedes_at first second is.place is.inside.0 is.inside.1 is.equal is.lower).0

pub not_precedes : (first second : List ℕ) → Before first second → precedes second first ≡ false
not_precedes first second is = (precedes_at first second is.place is.inside.0 is.inside.1 is.equal is.lower).1

pub before_trans : (a b c : List ℕ) → Before a b → Before b c → Before a c
before_trans a b c p q =
    elim (dec_lt p.place q.place) [
      | yes h ↦
          record {
            place = p.place;
            inside = (p.inside.0, omega (arith, q.inside));
            equal = λ i k. p.equal i k ∙ q.equal i (omega arith);
            lower = omega (arith, p.lower, q.equal p.place h);
          }
      | no h ↦
          record {
            place = q.place;
            inside = (omega (arith, p.inside), q.inside.1);
            equal = λ i k. p.equal i (omega arith) ∙ q.equal i k;
            lower = at_second h;
          }
    ]
  where
    at_second : (p.place < q.place → ⊥) → byte_at a q.place < byte_at c q.place
    at_second h =
        elim (dec_lt q.place p.place) [
          | yes k ↦ omega (arith, p.equal q.place k, q.lower)
          | no k ↦ let e : p.place ≡ q.place = omega arith in omega (arith, rw e at p.lower, q.lower)
        ]

pub before_irrefl : (a : List ℕ) → Before a a → ⊥
before_irrefl a p = omega (arith, p.lower)

pub before_total : (a b : List ℕ) → length a ≡ length b → (a ≡ b) ⊎ (Before a b ⊎ Before b a)
before_total [] [] long = inl refl
before_total [] (y ∷ b) long = absurd (omega arith)
before_total (x ∷ a) [] long = absurd (omega arith)
before_total (x ∷ a) (y ∷ b) long = go (dec_lt x y) (dec_lt y x) (before_total a b (omega arith))
  where
    later : x ≡ y → (a ≡ b) ⊎ (Before a b ⊎ Before b a) → (x ∷ a ≡ y ∷ b) ⊎ (Before (x ∷ a) (y ∷ b) ⊎ Before (y ∷ b) (x ∷ a))
    later e (inl same) = inl (cc)
    later e (inr (inl less)) = inr (inl (before_later x y a b e less))
    later e (inr (inr more)) = inr (inr (before_later y x b a (sym e) more))

    go : Dec (x < y) → Dec (y < x) → (a ≡ b) ⊎ (Before a b ⊎ Before b a) → (x ∷ a ≡ y ∷ b) ⊎ (Before (x ∷ a) (y ∷ b) ⊎ Before (y ∷ b) (x ∷ a))
    go (yes h) k rest = inr (inl (before_here x y a b h))
    go (no h) (yes k) rest = inr (inr (before_here y x b a k))
    go (no h) (no k) rest = later (omega arith) rest

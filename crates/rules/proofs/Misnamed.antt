-- Where a name is wrong: what the place says, that it is the first and the only one, and that there is none exactly for a name that keeps the rule.
use mathlib.Core.Path.{◌≡◌, refl, sym, ap, ◌∙◌}
use mathlib.Core.Logic.{◌⊎◌, inl, inr}
use mathlib.Core.Bool.{Bool, true, false, ◌&&◌, not, cond}
use mathlib.Core.List.{List, [], ◌∷◌}
use Prim.Native.Nat.{ℕ, zero, suc, ◌+◌, ◌≤◌, ◌<◌}
use native.Mathlib.Omega.{arith}
use native.Mathlib.Numerals.{add-one}
use native.Mathlib.Decide.{dec_lt}
use lib.Dec.{eqb}
use lib.ListN.{length, drop, drop_of_length-le}
use lib.Seq.{drop-cons}
use borrow.Author.Tests.{eq-eqb, ne_eqb, eqb-true, eqb-false}
use Rattle.rules.specs.Bytes.{byte_at, all_are}
use Rattle.rules.specs.Name.{name_byte, padded, name_rule, wrong_from, wrong_place, IsNameByte, IsName, SpaceBefore, WrongByte, WrongAt, first, blank, unlent}
use Rattle.rules.specs.Outcome.{if_wrong}
use Rattle.std.specs.Prelude.{Option, None, Some}
use Rattle.rules.proofs.Tests.{both, absurd_test}
use Rattle.rules.proofs.Bytes.{all_at}
use Rattle.rules.proofs.Name.{name_byte_is, is_name_byte, name_is}
use Rattle.rules.proofs.Outcome.{wrong_nowhere, wrong_cases}

none_at : {A : Type 0} {place : ℕ} → None ≡ Some place → A
none_at e = absurd (let z : ◌≡◌ {A = ℕ} 0 1 = cc in omega arith)

-- a byte at a time
pub wrong_step : (spaced : Bool) (name : List ℕ) (i : ℕ) → i < length name
    → wrong_from spaced i (drop i name)
    ≡ cond (eqb (byte_at name i) 32) (wrong_from true (i + 1) (drop (i + 1) name))
    (cond (not spaced && name_byte (byte_at name i)) (wrong_from false (i + 1) (drop (i + 1) name)) (Some i))
unfolding wrong_from
wrong_step spaced name i h = rw (drop-cons name i 0, add-one)

pub wrong_end : (spaced : Bool) (name : List ℕ) (i : ℕ) → length name ≤ i → wrong_from spaced i (drop i name) ≡ None
unfolding wrong_from
wrong_end spaced name i h = rw drop_of_length-le

-- at a space it is the same whether one came before
pub wrong_space : (name : List ℕ) (i : ℕ) → i < length name → byte_at name i ≡ 32 → wrong_from false i (drop i name) ≡ wrong_from true i (drop i name)
wrong_space name i h space = step false ∙ sym (step true)
  where
    step : (spaced : Bool) → wrong_from spaced i (drop i name) ≡ wrong_from true (i + 1) (drop (i + 1) name)
    step spaced = wrong_step spaced name i h ∙ rw (eq-eqb (byte_at name i) 32 space)

-- none is found in spaces, in bytes that keep the rule of names, and nowhere else
spaces_none : (spaced : Bool) (i : ℕ) (bytes : List ℕ) → all_are 32 bytes ≡ true → wrong_from spaced i bytes ≡ None
unfolding wrong_from all_are
spaces_none spaced i [] e = refl
spaces_none spaced i (b ∷ bytes) e = let parts = both (eqb b 32) (all_are 32 bytes) e in rw parts.0 (spaces_none true (i + 1) bytes parts.1)

padded_none : (i : ℕ) (bytes : List ℕ) → padded bytes ≡ true → wrong_from false i bytes ≡ None
unfolding wrong_from padded
padded_none i [] e = refl
padded_none i (b ∷ bytes) e = go (eqb b 32) refl e (padded_none (i + 1) bytes)
  where
    go : (t : Bool) → eqb b 32 ≡ t → cond t (all_are 32 bytes) (name_byte b && padded bytes) ≡ true → (padded bytes ≡ true → wrong_from false (i + 1) bytes ≡ None)
        → cond t (wrong_from true (i + 1) bytes) (cond (name_byte b) (wrong_from false (i + 1) bytes) (Some i)) ≡ None
    go true space e more = spaces_none true (i + 1) bytes e
    go false space e more = let parts = both (name_byte b) (padded bytes) e in rw parts.0 (more parts.1)

none_spaces : (i : ℕ) (bytes : List ℕ) → wrong_from true i bytes ≡ None → all_are 32 bytes ≡ true
unfolding wrong_from all_are
none_spaces i [] e = refl
none_spaces i (b ∷ bytes) e = go (eqb b 32) e (none_spaces (i + 1) bytes)
  where
    go : (t : Bool) → cond t (wrong_from true (i + 1) bytes) (Some i) ≡ None → (wrong_from true (i + 1) bytes ≡ None → all_are 32 bytes ≡ true) → (t && all_are 32 bytes) ≡ true
    go true e more = more e
    go false e more = none_at (sym e)

none_padded : (i : ℕ) (bytes : List ℕ) → wrong_from false i bytes ≡ None → padded bytes ≡ true
unfolding wrong_from padded
none_padded i [] e = refl
none_padded i (b ∷ bytes) e = go (eqb b 32) (name_byte b) e (none_padded (i + 1) bytes)
  where
    go : (t u : Bool) → cond t (wrong_from true (i + 1) bytes) (cond u (wrong_from false (i + 1) bytes) (Some i)) ≡ None → (wrong_from false (i + 1) bytes ≡ None → padded bytes ≡ true)
        → cond t (all_are 32 bytes) (u && padded bytes) ≡ true
    go true u e more = none_spaces (i + 1) bytes e
    go false true e more = more e
    go false false e more = none_at (sym e)

-- a blank name begins with a space, and a padded one that does not is no blank one
first_byte : (name : List ℕ) → 1 ≤ length name → padded name ≡ true → all_are 32 name ≡ false → name_byte (byte_at name 0) ≡ true
unfolding padded all_are
first_byte [] long e some = absurd (omega arith)
first_byte (b ∷ bytes) long e some = go (eqb b 32) e some
  where
    go : (t : Bool) → cond t (all_are 32 bytes) (name_byte b && padded bytes) ≡ true → (t && all_are 32 bytes) ≡ false → name_byte b ≡ true
    go true e some = absurd_test (sym e ∙ some)
    go false e some = (both (name_byte b) (padded bytes) e).0

solid_name : (name : List ℕ) → name_byte (byte_at name 0) ≡ true → 1 ≤ length name → all_are 32 name ≡ false
unfolding all_are
solid_name [] start long = absurd (omega arith)
solid_name (b ∷ bytes) start long = rw (ne_eqb b 32 (λ e. omega (arith, (name_byte_is b start).printable.0, e)))

-- there is none exactly for a name that keeps the rule
pub rule_none : (name : List ℕ) → name_rule name ≡ true → wrong_place name ≡ None
unfolding name_rule wrong_place
rule_none name e =
    let long = both (eqb (length name) 10) (name_byte (byte_at name 0) && padded name) e in
    let start = both (name_byte (byte_at name 0)) (padded name) long.1 in
    let ten = eqb-true (length name) 10 long.0 in
    rw (long.0, solid_name name start.0 (omega (arith, ten))) (padded_none 0 name start.1)

pub none_rule : (name : List ℕ) → wrong_place name ≡ None → name_rule name ≡ true
unfolding name_rule wrong_place
none_rule name e = go (eqb (length name) 10) (all_are 32 name) refl refl e
  where
    go : (t u : Bool) → eqb (length name) 10 ≡ t → all_are 32 name ≡ u → cond t (cond u (Some 0) (wrong_from false 0 name)) (Some 10) ≡ None
        → (t && (name_byte (byte_at name 0) && padded name)) ≡ true
    go true true ten spaces e = none_at (sym e)
    go true false ten spaces e =
        let rest = none_padded 0 name e in
        rw (first_byte name (omega (arith, eqb-true (length name) 10 ten)) rest spaces) rest
    go false u ten spaces e = none_at (sym e)

-- a byte that is no space says that a name is not blank
pub not_blank : (name : List ℕ) (i : ℕ) → i < length name → (byte_at name i ≡ 32 → ⊥) → all_are 32 name ≡ false
not_blank name i inside solid = go (all_are 32 name) refl
  where
    go : (t : Bool) → all_are 32 name ≡ t → t ≡ false
    go true e = absurd (solid (all_at 32 name e i inside))
    go false e = refl

-- a name by its bytes in front and what is behind them: the first that is no space there or, where nothing is in front, 0
pub wrong_behind : (name : List ℕ) (used : ℕ) → length name ≡ 10 → wrong_from false 0 name ≡ wrong_from true used (drop used name) → (1 ≤ used → all_are 32 name ≡ false)
    → wrong_place name ≡ if_wrong (wrong_from true used (drop used name)) Some (cond (eqb used 0) (Some 0) None)
unfolding wrong_place
wrong_behind name used ten same front = rw (eq-eqb (length name) 10 ten) (go (all_are 32 name) refl)
  where
    blank_front : all_are 32 name ≡ true → eqb used 0 ≡ true
    blank_front spaces =
        elim (dec_lt 0 used) [
          | yes some ↦ absurd_test (sym spaces ∙ front some)
          | no none ↦ eq-eqb used 0 (omega arith)
        ]

    some_front : all_are 32 name ≡ false → wrong_from true used (drop used name) ≡ None → eqb used 0 ≡ false
    some_front other none =
        ne_eqb used 0 (λ e. absurd_test (sym (none_spaces 0 name (rw e at none)) ∙ other))

    go : (t : Bool) → all_are 32 name ≡ t → cond t (Some 0) (wrong_from false 0 name) ≡ if_wrong (wrong_from true used (drop used name)) Some (cond (eqb used 0) (Some 0) None)
    go true spaces = sym (wrong_nowhere _ Some _ (sym same ∙ spaces_none false 0 name spaces) ∙ rw (blank_front spaces))
    go false other =
        same
        ∙ wrong_cases (λ w. wrong_from true used (drop used name) ≡ w) (wrong_from true used (drop used name)) Some _ (λ place there. there)
        (λ none. none ∙ rw (some_front other none))

-- the search: what is wrong among bytes that stand behind a space, or behind none
record Wrongly (spaced : Bool) (bytes : List ℕ) (q : ℕ) : Type 0 where
  solid : byte_at bytes q ≡ 32 → ⊥
  wrong : (IsNameByte (byte_at bytes q) → ⊥) ⊎ ((spaced ≡ true) ⊎ SpaceBefore bytes q)

record FirstFound (spaced : Bool) (i : ℕ) (bytes : List ℕ) (place : ℕ) : Type 0 where
  behind : ℕ
  is : place ≡ i + behind
  inside : behind < length bytes
  here : Wrongly spaced bytes behind
  sooner : (j : ℕ) → j < behind → Wrongly spaced bytes j → ⊥

-- a byte more in front: a space, or a byte of a name behind none
module _ (spaced : Bool) (b : ℕ) (bytes : List ℕ) where
  later_space : (q : ℕ) → b ≡ 32 → Wrongly true bytes q → Wrongly spaced (b ∷ bytes) (suc q)
  later_space q space is = record { solid = is.solid; wrong = go is.wrong }
    where
      here : SpaceBefore (b ∷ bytes) (suc q)
      here = record { earlier = 0; before = omega arith; space = space }

      go : (IsNameByte (byte_at bytes q) → ⊥) ⊎ ((true ≡ true) ⊎ SpaceBefore bytes q) → (IsNameByte (byte_at bytes q) → ⊥) ⊎ ((spaced ≡ true) ⊎ SpaceBefore (b ∷ bytes) (suc q))
      go (inl out) = inl out
      go (inr some) = inr (inr here)

  sooner_space : (q : ℕ) → Wrongly spaced (b ∷ bytes) (suc q) → Wrongly true bytes q
  sooner_space q is = record { solid = is.solid; wrong = go is.wrong }
    where
      go : (IsNameByte (byte_at bytes q) → ⊥) ⊎ ((spaced ≡ true) ⊎ SpaceBefore (b ∷ bytes) (suc q)) → (IsNameByte (byte_at bytes q) → ⊥) ⊎ ((true ≡ true) ⊎ SpaceBefore bytes q)
      go (inl out) = inl out
      go (inr some) = inr (inl refl)

module _ (b : ℕ) (bytes : List ℕ) where
  later_name : (q : ℕ) → Wrongly false bytes q → Wrongly false (b ∷ bytes) (suc q)
  later_name q is = record { solid = is.solid; wrong = go is.wrong }
    where
      go : (IsNameByte (byte_at bytes q) → ⊥) ⊎ ((false ≡ true) ⊎ SpaceBefore bytes q) → (IsNameByte (byte_at bytes q) → ⊥) ⊎ ((false ≡ true) ⊎ SpaceBefore (b ∷ bytes) (suc q))
      go (inl out) = inl out
      go (inr (inl e)) = inr (inl e)
      go (inr (inr s)) = inr (inr (record { earlier = suc s.earlier; before = omega (arith, s.before); space = s.space }))

  sooner_name : (q : ℕ) → (b ≡ 32 → ⊥) → Wrongly false (b ∷ bytes) (suc q) → Wrongly false bytes q
  sooner_name q solid is = record { solid = is.solid; wrong = go is.wrong }
    where
      shift : (e : ℕ) → e < suc q → byte_at (b ∷ bytes) e ≡ 32 → SpaceBefore bytes q
      shift zero low space = absurd (solid space)
      shift (suc e) low space = record { earlier = e; before = omega arith; space = space }

      go : (IsNameByte (byte_at bytes q) → ⊥) ⊎ ((false ≡ true) ⊎ SpaceBefore (b ∷ bytes) (suc q)) → (IsNameByte (byte_at bytes q) → ⊥) ⊎ ((false ≡ true) ⊎ SpaceBefore bytes q)
      go (inl out) = inl out
      go (inr (inl e)) = inr (inl e)
      go (inr (inr s)) = inr (inr (shift s.earlier s.before s.space))

-- what the search finds is wrong, and nothing before it is
found_wrong : (spaced : Bool) (i : ℕ) (bytes : List ℕ) (place : ℕ) → wrong_from spaced i bytes ≡ Some place → FirstFound spaced i bytes place
unfolding wrong_from
found_wrong spaced i [] place e = none_at e
found_wrong spaced i (b ∷ bytes) place e =
    go spaced (eqb b 32) (name_byte b) refl refl e (found_wrong true (i + 1) bytes place) (found_wrong false (i + 1) bytes place)
  where
    go : (s t u : Bool) → eqb b 32 ≡ t → name_byte b ≡ u → cond t (wrong_from true (i + 1) bytes) (cond (not s && u) (wrong_from false (i + 1) bytes) (Some i)) ≡ Some place
        → (wrong_from true (i + 1) bytes ≡ Some place → FirstFound true (i + 1) bytes place) → (wrong_from false (i + 1) bytes ≡ Some place → FirstFound false (i + 1) bytes place)
        → FirstFound s i (b ∷ bytes) place
    go s true u space named e after-space after-name =
        let f = after-space e in
        record {
          behind = suc f.behind;
          is = omega (arith, f.is);
          inside = omega (arith, f.inside);
          here = later_space s b bytes f.behind (eqb-true b 32 space) f.here;
          sooner = none_before f;
        }
      where
        none_before : (f : FirstFound true (i + 1) bytes place) → (j : ℕ) → j < suc f.behind → Wrongly s (b ∷ bytes) j → ⊥
        none_before f zero low is = is.solid (eqb-true b 32 space)
        none_before f (suc j) low is = f.sooner j (omega arith) (sooner_space s b bytes j is)
    go false false true space named e after-space after-name =
        let f = after-name e in
        record {
          behind = suc f.behind;
          is = omega (arith, f.is);
          inside = omega (arith, f.inside);
          here = later_name b bytes f.behind f.here;
          sooner = none_before f;
        }
      where
        kept : (IsNameByte b → ⊥) ⊎ ((false ≡ true) ⊎ SpaceBefore (b ∷ bytes) 0) → ⊥
        kept (inl out) = out (name_byte_is b named)
        kept (inr (inl e)) = absurd_test (sym e)
        kept (inr (inr s)) = omega (arith, s.before)

        none_before : (f : FirstFound false (i + 1) bytes place) → (j : ℕ) → j < suc f.behind → Wrongly false (b ∷ bytes) j → ⊥
        none_before f zero low is = kept is.wrong
        none_before f (suc j) low is = f.sooner j (omega arith) (sooner_name b bytes j (eqb-false b 32 space) is)
    go false false false space named e after-space after-name =
        let same : i ≡ place = cc in
        record {
          behind = 0;
          is = omega (arith, same);
          inside = omega arith;
          here = record { solid = eqb-false b 32 space; wrong = inl (λ is. absurd_test (sym (is_name_byte b is) ∙ named)) };
          sooner = λ j low. absurd (omega arith);
        }
    go true false u space named e after-space after-name =
        let same : i ≡ place = cc in
        record { behind = 0; is = omega (arith, same); inside = omega arith; here = record { solid = eqb-false b 32 space; wrong = inr (inl refl) }; sooner = λ j low. absurd (omega arith) }

-- of a whole name
wrongly_is : (name : List ℕ) (i : ℕ) → Wrongly false name i → WrongByte name i
wrongly_is name i is = record { solid = is.solid; wrong = go is.wrong }
  where
    go : (IsNameByte (byte_at name i) → ⊥) ⊎ ((false ≡ true) ⊎ SpaceBefore name i) → (IsNameByte (byte_at name i) → ⊥) ⊎ SpaceBefore name i
    go (inl out) = inl out
    go (inr (inl e)) = absurd_test (sym e)
    go (inr (inr s)) = inr s

is_wrongly : (name : List ℕ) (i : ℕ) → WrongByte name i → Wrongly false name i
is_wrongly name i is = record { solid = is.solid; wrong = go is.wrong }
  where
    go : (IsNameByte (byte_at name i) → ⊥) ⊎ SpaceBefore name i → (IsNameByte (byte_at name i) → ⊥) ⊎ ((false ≡ true) ⊎ SpaceBefore name i)
    go (inl out) = inl out
    go (inr s) = inr (inr s)

-- what the place says
pub place_wrong : (name : List ℕ) (place : ℕ) → wrong_place name ≡ Some place → WrongAt name place
unfolding wrong_place
place_wrong name place e = go (eqb (length name) 10) (all_are 32 name) refl refl e
  where
    go : (t u : Bool) → eqb (length name) 10 ≡ t → all_are 32 name ≡ u → cond t (cond u (Some 0) (wrong_from false 0 name)) (Some 10) ≡ Some place → WrongAt name place
    go true true ten spaces e =
        let long = eqb-true (length name) 10 ten in
        let same : 0 ≡ place = cc in
        blank long (λ i low. all_at 32 name spaces i (omega (arith, long))) (sym same)
    go true false ten spaces e =
        let long = eqb-true (length name) 10 ten in
        let f = found_wrong false 0 name place e in
        let same : f.behind ≡ place = omega (arith, f.is) in
        first long (omega (arith, f.inside, long)) (rw (← same) (wrongly_is name f.behind f.here)) (λ i low is. f.sooner i (omega arith) (is_wrongly name i is))
    go false u ten spaces e = let same : 10 ≡ place = cc in unlent (eqb-false (length name) 10 ten) (sym same)

-- a name has one such place at most
pub wrong_one : (name : List ℕ) (p q : ℕ) → WrongAt name p → WrongAt name q → p ≡ q
wrong_one name p q (first ten low here before) (first ten' low' here' before') =
    elim (dec_lt p q) [
      | yes h ↦ absurd (before' p h here)
      | no h ↦
          elim (dec_lt q p) [
            | yes k ↦ absurd (before q k here')
            | no k ↦ omega arith
          ]
    ]
wrong_one name p q (first ten low here before) (blank ten' all is) = absurd (here.solid (all p low))
wrong_one name p q (first ten low here before) (unlent long is) = absurd (long ten)
wrong_one name p q (blank ten all is) (first ten' low here before) = absurd (here.solid (all q low))
wrong_one name p q (blank ten all is) (blank ten' all' is') = is ∙ sym is'
wrong_one name p q (blank ten all is) (unlent long is') = absurd (long ten)
wrong_one name p q (unlent long is) (first ten low here before) = absurd (long ten)
wrong_one name p q (unlent long is) (blank ten all is') = absurd (long ten)
wrong_one name p q (unlent long is) (unlent long' is') = is ∙ sym is'

-- and one that keeps the rule has none
pub wrong_unnamed : (name : List ℕ) (place : ℕ) → WrongAt name place → IsName name → ⊥
wrong_unnamed name place (first ten low here before) is =
    elim (dec_lt place is.used) [
      | yes h ↦ go h here.wrong
      | no h ↦ here.solid (is.spaces place (omega arith) low)
    ]
  where
    go : place < is.used → (IsNameByte (byte_at name place) → ⊥) ⊎ SpaceBefore name place → ⊥
    go h (inl out) = out (is.bytes place h)
    go h (inr s) = omega (arith, s.before, s.space, (is.bytes s.earlier (omega (arith, s.before))).printable.0)
wrong_unnamed name place (blank ten all e) is = omega (arith, all 0 (omega arith), (is.bytes 0 is.some.0).printable.0)
wrong_unnamed name place (unlent long e) is = long is.ten

-- so the place is the one that the facts name
pub wrong_place_lem : (name : List ℕ) (place : ℕ) → WrongAt name place → wrong_place name ≡ Some place
wrong_place_lem name place is = go (wrong_place name) refl
  where
    go : (w : Option ℕ) → wrong_place name ≡ w → w ≡ Some place
    go None e = absurd (wrong_unnamed name place is (name_is name (none_rule name e)))
    go (Some q) e = ap Some (wrong_one name q place (place_wrong name q e) is)

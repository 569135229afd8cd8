-- The entries of directories: their rule as a test and as facts; and that they stand where the label stands.
use mathlib.Core.Path.{◌≡◌, refl, sym, ap, ◌∙◌}
use mathlib.Core.Logic.{◌⊎◌, inl, inr}
use mathlib.Core.Bool.{Bool, true, false, not, ◌&&◌, ◌||◌}
use mathlib.Core.List.{List, [], ◌∷◌}
use Prim.Native.Nat.{ℕ, zero, suc, ◌<◌}
use native.Mathlib.Omega.{arith}
use lib.Dec.{leb, ltb}
use lib.ListN.{length, get_or}
use borrow.Author.Tests.{le-leb, leb-true, lt-ltb, ltb-true}
use Rattle.rules.specs.Bytes.{byte_at, same}
use Rattle.rules.specs.Name.{name_rule}
use Rattle.rules.specs.Directory.{entries, entry_name, entry_index, is_absent, is_named, entry_rule, entries_rule, IsEntry, IsAbsent, AreEntries}
use Rattle.rules.specs.declared.Layout.{Layout}
use Rattle.rules.proofs.Tests.{absurd_test, both, neither}
use Rattle.rules.proofs.Bytes.{same_is, is_same, part_same, zeros_at, at_zeros}
use Rattle.rules.proofs.Name.{name_is, is_name}

-- entries stand where bytes 20 to 55 stand
pub entries_kept : (layout : Layout) (before after : List ℕ) → length after ≡ length before → ((i : ℕ) → i < 56 → byte_at after i ≡ byte_at before i) → entries layout after ≡ entries layout before
unfolding entries
entries_kept layout before after long same =
    rw (
      part_same after before 20 12 long (λ i low high. same i (omega arith)),
      part_same after before 32 12 long (λ i low high. same i (omega arith)),
      part_same after before 44 12 long (λ i low high. same i (omega arith)),
    )

-- a name that none of the entries has
unnamed_differs : (name : List ℕ) (es : List (List ℕ)) → is_named name es ≡ false → (d : ℕ) → d < length es → name ≡ entry_name (get_or es d []) → ⊥
unfolding is_named
unnamed_differs name [] e d h same_name = omega arith
unnamed_differs name (entry ∷ more) e zero h same_name =
    absurd_test (sym (is_same name) ∙ ap (same name) same_name ∙ (neither (same name (entry_name entry)) (is_named name more) e).0)
unnamed_differs name (entry ∷ more) e (suc d) h same_name = unnamed_differs name more (neither (same name (entry_name entry)) (is_named name more) e).1 d (omega arith) same_name

differs_unnamed : (name : List ℕ) (es : List (List ℕ)) → ((d : ℕ) → d < length es → name ≡ entry_name (get_or es d []) → ⊥) → is_named name es ≡ false
unfolding is_named
differs_unnamed name [] differ = refl
differs_unnamed name (entry ∷ more) differ = go (same name (entry_name entry)) refl (differs_unnamed name more (λ d h. differ (suc d) (omega arith)))
  where
    go : (t : Bool) → same name (entry_name entry) ≡ t → is_named name more ≡ false → t || is_named name more ≡ false
    go true e later = absurd (differ 0 (omega arith) (same_is name (entry_name entry) e))
    go false e later = later

-- an absent entry, and one that is there
absent_is : (entry : List ℕ) → is_absent entry ≡ true → IsAbsent entry
unfolding is_absent
absent_is entry e i = zeros_at entry 0 e i (omega arith)

pub is_absent_lem : (entry : List ℕ) → IsAbsent entry → is_absent entry ≡ true
unfolding is_absent
is_absent_lem entry zeros = at_zeros entry 0 (λ i h. zeros i)

entry_is : (n : ℕ) (entry : List ℕ) (more : List (List ℕ)) → entry_rule n entry more ≡ true → IsEntry n entry × (is_named (entry_name entry) more ≡ false)
unfolding entry_rule
entry_is n entry more e =
    let high = ltb (entry_index entry) n in
    let alone = not (is_named (entry_name entry) more) in
    let named = both (name_rule (entry_name entry)) (leb 2 (entry_index entry) && (high && alone)) e in
    let from = both (leb 2 (entry_index entry)) (high && alone) named.1 in
    let below = both high alone from.1 in
    (record { name = name_is (entry_name entry) named.0; range = (leb-true 2 (entry_index entry) from.0, ltb-true (entry_index entry) n below.0) }, not_true (is_named (entry_name entry) more) below.1)
  where
    not_true : (t : Bool) → not t ≡ true → t ≡ false
    not_true true e = absurd_test (sym e)
    not_true false e = refl

is_entry : (n : ℕ) (entry : List ℕ) (more : List (List ℕ)) → IsEntry n entry → is_named (entry_name entry) more ≡ false → entry_rule n entry more ≡ true
unfolding entry_rule
is_entry n entry more is alone =
    rw (is_name (entry_name entry) is.name, le-leb 2 (entry_index entry) is.range.0, lt-ltb (entry_index entry) n is.range.1, alone)

-- a name of ten zeros breaks the rule, so an absent entry is none that is there
pub absent_no_entry : (n : ℕ) (entry : List ℕ) → IsAbsent entry → IsEntry n entry → ⊥
absent_no_entry n entry zeros is = omega (arith, zeros 10, zeros 11, is.range)

pub entries_are : (n : ℕ) (es : List (List ℕ)) → entries_rule n es ≡ true → AreEntries n es
unfolding entries_rule
entries_are n [] e = record { each = λ d h. absurd (omega arith); differ = λ d f l h. absurd (omega arith) }
entries_are n (entry ∷ more) e =
    let parts = both (is_absent entry || entry_rule n entry more) (entries_rule n more) e in
    let later = entries_are n more parts.1 in
    record { each = each later (first (is_absent entry) refl parts.0); differ = differ later (first (is_absent entry) refl parts.0) }
  where
    first : (t : Bool) → is_absent entry ≡ t → t || entry_rule n entry more ≡ true → IsAbsent entry ⊎ (IsEntry n entry × (is_named (entry_name entry) more ≡ false))
    first true absent either = inl (absent_is entry absent)
    first false absent either = inr (entry_is n entry more either)

    each : AreEntries n more → IsAbsent entry ⊎ (IsEntry n entry × (is_named (entry_name entry) more ≡ false)) → (d : ℕ) → d < length (entry ∷ more) → IsAbsent (get_or (entry ∷ more) d []) ⊎ IsEntry n (get_or (entry ∷ more) d [])
    each later (inl absent) zero h = inl absent
    each later (inr there) zero h = inr there.0
    each later either (suc d) h = later.each d (omega arith)

    differ : AreEntries n more → IsAbsent entry ⊎ (IsEntry n entry × (is_named (entry_name entry) more ≡ false))
        → (d f : ℕ) → d < f → f < length (entry ∷ more) → IsEntry n (get_or (entry ∷ more) d []) → entry_name (get_or (entry ∷ more) d []) ≡ entry_name (get_or (entry ∷ more) f []) → ⊥
    differ later either d zero l h is same = omega arith
    differ later (inl absent) zero (suc f) l h is same = absent_no_entry n entry absent is
    differ later (inr there) zero (suc f) l h is same = unnamed_differs (entry_name entry) more there.1 f (omega arith) same
    differ later either (suc d) (suc f) l h is same = later.differ d f (omega arith) (omega arith) is same

pub are_entries : (n : ℕ) (es : List (List ℕ)) → AreEntries n es → entries_rule n es ≡ true
unfolding entries_rule
are_entries n [] are = refl
are_entries n (entry ∷ more) are =
    rw (first (is_absent entry) refl (are.each 0 (omega arith)), are_entries n more (record { each = λ d h. are.each (suc d) (omega arith); differ = λ d f l h. are.differ (suc d) (suc f) (omega arith) (omega arith) }))
  where
    first : (t : Bool) → is_absent entry ≡ t → IsAbsent entry ⊎ IsEntry n entry → is_absent entry || entry_rule n entry more ≡ true
    first true absent either = rw absent
    first false absent (inl zeros) = absurd_test (sym (is_absent_lem entry zeros) ∙ absent)
    first false absent (inr is) = rw absent (is_entry n entry more is (differs_unnamed (entry_name entry) more (λ d h. are.differ 0 (suc d) (omega arith) (omega arith) is)))

-- What a test that comes out true says, and that true is not false; what holds of every call's list of tests: with number 0 none is met, and a refusal gives nothing; and what holds by either rule.
use mathlib.Core.Path.{◌≡◌, refl, sym, ◌∙◌}
use mathlib.Core.Bool.{Bool, true, false, cond, ◌&&◌, ◌||◌}
use mathlib.Core.List.{List, [], ◌∷◌, ◌++◌}
use Prim.Native.Nat.{ℕ, suc, ◌≤◌, ◌<◌}
use native.Mathlib.Omega.{arith}
use lib.Dec.{eqb}
use borrow.Author.Tests.{eq-eqb, ne_eqb}
use Rattle.rules.specs.Tests.{Test, first_of, unless_met, Passed}
use Rattle.rules.specs.declared.Layout.{Layout}

pub absurd_test : {A : Type 0} → ◌≡◌ {A = Bool} true false → A
absurd_test e = absurd (let z : ◌≡◌ {A = ℕ} 0 1 = cc in omega arith)

pub both : (a b : Bool) → (a && b) ≡ true → (a ≡ true) × (b ≡ true)
both true b e = (refl, e)
both false b e = absurd_test (sym e)

pub neither : (a b : Bool) → (a || b) ≡ false → (a ≡ false) × (b ≡ false)
neither true b e = absurd_test e
neither false b e = (refl, e)

-- two tests that come out true together are equal
pub same_test : (a b : Bool) → (a ≡ true → b ≡ true) → (b ≡ true → a ≡ true) → a ≡ b
same_test true b to from = sym (to refl)
same_test false true to from = from refl
same_test false false to from = refl

-- a test of what a call gave, said of what its contract says that it is
pub equal_by : {a b v : ℕ} → a ≡ b → a ≡ v → eqb b v ≡ true
equal_by {a} {b} {v} is e = eq-eqb b v (sym is ∙ e)

pub unequal_by : {a b v : ℕ} → a ≡ b → (a ≡ v → ⊥) → eqb b v ≡ false
unequal_by {a} {b} {v} is e = ne_eqb b v (λ q. e (is ∙ q))

-- a list of tests: with number 0 none is met
pub all_passed : (tests : List Test) → first_of tests ≡ 0 → Passed tests
unfolding first_of Passed
all_passed [] e = tt
all_passed (test ∷ tests) e = go test.met refl e (all_passed tests)
  where
    go : (t : Bool) → test.met ≡ t → cond t (suc test.less) (first_of tests) ≡ 0 → (first_of tests ≡ 0 → Passed tests) → (test.met ≡ false) × Passed tests
    go true is e more = absurd (omega (arith, e))
    go false is e more = (is, more e)

pub none_met : (tests : List Test) → Passed tests → first_of tests ≡ 0
unfolding first_of Passed
none_met [] passed = refl
none_met (test ∷ tests) passed = rw passed.0 (none_met tests passed.1)

-- where no test has a larger number, neither has the first one met
unfoldable pub AtMost : ℕ → List Test → Type 0
AtMost most [] = Unit {0}
AtMost most (test ∷ tests) = (test.less < most) × AtMost most tests

pub first_most : (most : ℕ) (tests : List Test) → AtMost most tests → first_of tests ≤ most
unfolding first_of AtMost
first_most most [] few = omega arith
first_most most (test ∷ tests) few = go test.met (first_most most tests few.1)
  where
    go : (t : Bool) → first_of tests ≤ most → cond t (suc test.less) (first_of tests) ≤ most
    go true more = omega (arith, few.0)
    go false more = more

-- one list behind another
pub first_passed : (first second : List Test) → first_of first ≡ 0 → first_of (first ++ second) ≡ first_of second
unfolding first_of
first_passed [] second e = refl
first_passed (test ∷ tests) second e = go test.met e (first_passed tests second)
  where
    go : (t : Bool) → cond t (suc test.less) (first_of tests) ≡ 0 → (first_of tests ≡ 0 → first_of (tests ++ second) ≡ first_of second)
        → cond t (suc test.less) (first_of (tests ++ second)) ≡ first_of second
    go true e more = absurd (omega (arith, e))
    go false e more = more e

pub first_met : (first second : List Test) → (first_of first ≡ 0 → ⊥) → first_of (first ++ second) ≡ first_of first
unfolding first_of
first_met [] second some = absurd (some refl)
first_met (test ∷ tests) second some = go test.met some (first_met tests second)
  where
    go : (t : Bool) → (cond t (suc test.less) (first_of tests) ≡ 0 → ⊥) → ((first_of tests ≡ 0 → ⊥) → first_of (tests ++ second) ≡ first_of tests)
        → cond t (suc test.less) (first_of (tests ++ second)) ≡ cond t (suc test.less) (first_of tests)
    go true some more = refl
    go false some more = more some

pub passed_both : (first second : List Test) → Passed (first ++ second) → Passed first × Passed second
unfolding Passed
passed_both [] second passed = (tt, passed)
passed_both (test ∷ tests) second passed = let more = passed_both tests second passed.1 in ((passed.0, more.0), more.1)

-- what is there where no test is met, and where one is
pub unless_passed : {A : Type 0} (tests : List Test) (there otherwise : A) → first_of tests ≡ 0 → unless_met tests there otherwise ≡ there
unfolding unless_met
unless_passed tests there otherwise e = rw (eq-eqb (first_of tests) 0 e)

pub unless_met_lem : {A : Type 0} (tests : List Test) (there otherwise : A) → (first_of tests ≡ 0 → ⊥) → unless_met tests there otherwise ≡ otherwise
unfolding unless_met
unless_met_lem tests there otherwise some = rw (ne_eqb (first_of tests) 0 some)

-- what holds of either rule holds of a layout
pub by_rule : (P : Layout → Type 0) → ((edition : Bool) → P (record { marks = true; directories = edition })) → ((edition : Bool) → P (record { marks = false; directories = edition })) → (layout : Layout) → P layout
by_rule P with without layout = go layout.marks
  where
    go : (marks : Bool) → P (record { marks = marks; directories = layout.directories })
    go true = with layout.directories
    go false = without layout.directories

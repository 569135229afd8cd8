-- The number of a list of tests is that of the first ground that is there, and 0 where none is, if each test decides the ground in its place: the one law behind the progress of every call.
use mathlib.Core.Path.{◌≡◌, refl, sym, ◌∙◌}
use mathlib.Core.Bool.{Bool, true, false, cond, not}
use mathlib.Core.List.{List, [], ◌∷◌, ◌++◌, append-nil}
use mathlib.Core.Logic.{◌⊎◌, inl, inr}
use Prim.Native.Nat.{ℕ, suc, ◌≤◌, ◌<◌}
use native.Mathlib.Omega.{arith}
use lib.Dec.{eqb, leb, ltb}
use borrow.Author.Tests.{not-true, not-false, eq-eqb, eqb-true, eqb-false, leb-true, leb-false, ltb-true, ltb-false}
use Rattle.rules.specs.Tests.{Test, first_of}
use Rattle.rules.proofs.Tests.{absurd_test}
use Rattle.demands.specs.Grounds.{Ground, First}

-- the test comes out true where the ground is there, and only there
pub record Decides (met : Bool) (there : Type 0) : Type 0 where
  pub yes_there : met ≡ true → there
  pub not_there : met ≡ false → there → ⊥

-- each test the ground in its place, where none before it was met
unfoldable pub Decide : List Test → List {1} Ground → Type 0
Decide [] [] = Unit {0}
Decide [] (g ∷ gs) = ⊥
Decide (test ∷ tests) [] = ⊥
Decide (test ∷ tests) (g ∷ gs) = (suc test.less ≡ g.number) × Decides test.met g.there × (test.met ≡ false → Decide tests gs)

-- the number is that of the tests, where one is met; and where none is, it is that of the first ground behind them
pub first_after : (tests : List Test) (gs more : List {1} Ground) (number : ℕ) → Decide tests gs → ((first_of tests ≡ 0 → ⊥) → number ≡ first_of tests)
    → (first_of tests ≡ 0 → First number more) → First number (gs ++ more)
unfolding first_of Decide First
first_after [] [] more number decide refused passed = passed refl
first_after [] (g ∷ gs) more number decide refused passed = elim decide [ ]
first_after (test ∷ tests) [] more number decide refused passed = elim decide [ ]
first_after (test ∷ tests) (g ∷ gs) more number decide refused passed =
    go test.met refl refused passed (λ is. first_after tests gs more number (decide.2 is))
  where
    go : (t : Bool) → test.met ≡ t → ((cond t (suc test.less) (first_of tests) ≡ 0 → ⊥) → number ≡ cond t (suc test.less) (first_of tests))
        → (cond t (suc test.less) (first_of tests) ≡ 0 → First number more)
        → (test.met ≡ false → ((first_of tests ≡ 0 → ⊥) → number ≡ first_of tests) → (first_of tests ≡ 0 → First number more) → First number (gs ++ more))
        → (g.there × (number ≡ g.number)) ⊎ ((g.there → ⊥) × First number (gs ++ more))
    go true is refused passed later = inl (decide.1.yes_there is, refused (λ z. omega (arith, z)) ∙ decide.0)
    go false is refused passed later = inr (decide.1.not_there is, later is refused passed)

pub first_ground : (tests : List Test) (gs : List {1} Ground) → Decide tests gs → First (first_of tests) gs
unfolding First
first_ground tests gs decide = rw (append-nil gs) at (first_after tests gs [] (first_of tests) decide (λ some. refl) (λ zero. zero))

-- one list behind another
pub decide_both : (first second : List Test) (gs more : List {1} Ground) → Decide first gs → (first_of first ≡ 0 → Decide second more) → Decide (first ++ second) (gs ++ more)
unfolding first_of Decide
decide_both [] second [] more decide behind = behind refl
decide_both [] second (g ∷ gs) more decide behind = elim decide [ ]
decide_both (test ∷ first) second [] more decide behind = elim decide [ ]
decide_both (test ∷ first) second (g ∷ gs) more decide behind = (decide.0, decide.1, λ is. decide_both first second gs more (decide.2 is) (λ zero. behind (rw is zero)))

-- tests that decide: a rule is broken, numbers are equal or not, below or at most
pub broken : {Rule : Type 0} {t : Bool} → (t ≡ true → Rule) → (Rule → t ≡ true) → Decides (not t) (Rule → ⊥)
broken {Rule} {t} is back = record { yes_there = λ e rule. absurd_test (sym (back rule) ∙ not-true t e); not_there = λ e broke. broke (is (not-false t e)) }

pub equal : {a b : ℕ} → Decides (eqb a b) (a ≡ b)
equal {a} {b} = record { yes_there = eqb-true a b; not_there = eqb-false a b }

pub unequal : {a b : ℕ} → Decides (not (eqb a b)) (a ≡ b → ⊥)
unequal {a} {b} = broken (eqb-true a b) (eq-eqb a b)

pub below : {a b : ℕ} → Decides (ltb a b) (a < b)
below {a} {b} = record { yes_there = ltb-true a b; not_there = λ e low. omega (arith, ltb-false a b e, low) }

pub at_most : {a b : ℕ} → Decides (leb a b) (a ≤ b)
at_most {a} {b} = record { yes_there = leb-true a b; not_there = λ e low. omega (arith, leb-false a b e, low) }

-- The tests of a call, in the table's order: its number is that of the first one met, and 0 where none is.
use Rattle.std.specs.Prelude.{◌≡◌, Bool, false, cond, List, [], ◌∷◌, ℕ, suc, ◌-◌, eqb}

-- `less` is the number less one, so that no test gives 0
pub record Test : Type 0 where
  pub less : ℕ
  pub met : Bool

-- the call is refused with that number where the test is met
abbrev pub refuse : ℕ → Bool → Test
refuse number met = record { less = number - 1; met = met }

unfoldable pub first_of : List Test → ℕ
first_of [] = 0
first_of (test ∷ tests) = cond test.met (suc test.less) (first_of tests)

-- the first where no test is met, and the second where one is
unfoldable pub unless_met : {A : Type 0} → List Test → A → A → A
unless_met tests passed refused = cond (eqb (first_of tests) 0) passed refused

-- no test is met
unfoldable pub Passed : List Test → Type 0
Passed [] = Unit {0}
Passed (test ∷ tests) = (test.met ≡ false) × Passed tests

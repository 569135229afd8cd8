-- Where a name is wrong: that the rule computes what the facts say, and the places that are easily mistaken.
use Rattle.std.specs.Prelude.{◌≡◌, List, [], ◌∷◌, ℕ, replicate, None, Some}
use Rattle.rules.specs.Name.{wrong_place, IsName, WrongAt}

pub record WrongPlaces : Type 0 where
  -- what the place says, and that what says so is the place
  pub says : (name : List ℕ) (place : ℕ) → wrong_place name ≡ Some place → WrongAt name place
  pub given : (name : List ℕ) (place : ℕ) → WrongAt name place → wrong_place name ≡ Some place
  -- a name has one at most: the first
  pub one : (name : List ℕ) (p q : ℕ) → WrongAt name p → WrongAt name q → p ≡ q
  -- there is none exactly for a name that keeps the rule
  pub kept : (name : List ℕ) → IsName name → wrong_place name ≡ None
  pub none : (name : List ℕ) → wrong_place name ≡ None → IsName name

-- a space and A: at A, not at the space; A, a space and a dot: at the dot; a dot behind A: at the dot; A, a space and B: at B; ten spaces: at 0; no byte, and eleven: at 10
pub record Places : Type 0 where
  pub leading : wrong_place (32 ∷ (0x41 ∷ replicate 8 32)) ≡ Some 1
  pub dotted_late : wrong_place (0x41 ∷ (32 ∷ (0x2E ∷ replicate 7 32))) ≡ Some 2
  pub dotted : wrong_place (0x41 ∷ (0x2E ∷ replicate 8 32)) ≡ Some 1
  pub parted : wrong_place (0x41 ∷ (32 ∷ (0x42 ∷ replicate 7 32))) ≡ Some 2
  pub blank : wrong_place (replicate 10 32) ≡ Some 0
  pub empty : wrong_place [] ≡ Some 10
  pub long : wrong_place (replicate 11 0x41) ≡ Some 10

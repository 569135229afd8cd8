-- The same of a call that takes a name: number 7 comes with the place where the name is wrong.
use Rattle.std.specs.Prelude.{ℕ}

pub data NamedAnswer : Type 0 where
  Done : NamedAnswer
  Refused : (number : ℕ) → NamedAnswer
  Misnamed : (place : ℕ) → NamedAnswer

-- The same of a call that takes a name.
use Rattle.std.specs.Prelude.{ℕ}

pub data NamedAmount : Type 0 where
  Given : (value : ℕ) → NamedAmount
  Refused : (number : ℕ) → NamedAmount
  Misnamed : (place : ℕ) → NamedAmount

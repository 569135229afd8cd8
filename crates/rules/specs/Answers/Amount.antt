-- What a call answers that gives a number: a count of sectors or of bytes.
use Rattle.std.specs.Prelude.{ℕ}

pub data Amount : Type 0 where
  Given : (value : ℕ) → Amount
  Refused : (number : ℕ) → Amount

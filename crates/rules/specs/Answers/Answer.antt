-- What a call answers that gives nothing back but its number.
use Rattle.std.specs.Prelude.{ℕ}

pub data Answer : Type 0 where
  Done : Answer
  Refused : (number : ℕ) → Answer

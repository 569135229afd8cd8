-- What the summary of a volume answers; the disk name goes into a lent array beside it.
use Rattle.std.specs.Prelude.{ℕ}

pub data Summary : Type 0 where
  Given : (sectors files free : ℕ) → Summary
  Refused : (number : ℕ) → Summary

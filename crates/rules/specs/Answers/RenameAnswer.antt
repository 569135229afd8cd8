-- And of a rename, which takes two: number 7 says which of them it means besides.
use Rattle.std.specs.Prelude.{ℕ}

pub data RenameAnswer : Type 0 where
  Done : RenameAnswer
  Refused : (number : ℕ) → RenameAnswer
  OldMisnamed : (place : ℕ) → RenameAnswer
  NewMisnamed : (place : ℕ) → RenameAnswer

-- A file that a call names: the sector of the index that lists it, its place there and its descriptor's sector; absent from the index
-- in that sector; or not looked for, with the number of the refusal or, for 7, with the place where the name is wrong.
use Rattle.std.specs.Prelude.{ℕ}

pub data Opened : Type 0 where
  At : (i place k : ℕ) → Opened
  Absent : (i : ℕ) → Opened
  Refused : (number : ℕ) → Opened
  Misnamed : (place : ℕ) → Opened

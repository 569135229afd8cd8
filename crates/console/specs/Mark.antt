-- What is said of an image: by its first byte in a line.
use Rattle.std.specs.Prelude.{cond, ℕ, ◌+◌, nat_lt, Option, Some, None, Result, Ok, Err}
use Rattle.rules.specs.Refusal.{judged, refusal_number}
use Rattle.rules.specs.declared.refusal.Fault.{Fault}
use Rattle.rules.specs.declared.refusal.Refusal.{Refusal}

-- the judge's number as a digit, or `-` for an image that was not read
unfoldable pub digit_of : Option (Result (Unit {0}) Fault) → ℕ
digit_of (Some said) = 48 + judged said
digit_of None = 0x2D

-- a call's number as a digit, or `-` for one that is no fault of the image
unfoldable pub number_digit : ℕ → ℕ
number_digit number = cond (nat_lt 6 number) 0x2D (48 + number)

unfoldable pub answer_digit : {A : Type 0} → Result A Refusal → ℕ
answer_digit (Ok value) = 48
answer_digit (Err refusal) = number_digit (refusal_number refusal)

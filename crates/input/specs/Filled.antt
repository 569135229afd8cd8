-- What the contracts of `read_image`, `read_or_tell` and `read_file` cite. Assumes nothing.
use Rattle.std.specs.Prelude.{◌≡◌, ℕ, ◌≤◌, List, length, take, Option, Some, None, Result, Ok, Err}

-- a reading that did not fail counts bytes at the start of the buffer, so no more than the buffer has; of one that failed nothing is said
abbrev pub Filled : Option ℕ → List ℕ → Type 0
Filled (Some count) buffer = (count ≤ length buffer) × (count ≡ length (take count buffer))
Filled None buffer = Unit {0}

-- what a reading gave, without the reason of one that failed
abbrev pub received_of : {E : Type 0} → Result ℕ E → Option ℕ
received_of (Ok count) = Some count
received_of (Err error) = None

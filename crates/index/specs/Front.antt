-- The front of an index whose numbers are put in order one after another.
use Rattle.std.specs.Prelude.{◌≡◌, List, ℕ, ◌*◌, ◌<◌, length, take, get_or}
use Rattle.rules.specs.Name.{Before}
use Rattle.rules.specs.Index.{numbers_bytes}
use Rattle.rules.specs.Volume.{name_in}

-- in the first `at` bytes stand the numbers ks, in the order of the names that they lead to
pub record InFront (image index : List ℕ) (at : ℕ) (ks : List ℕ) : Type 0 where
  pub many : at ≡ 2 * length ks
  pub stand : take at index ≡ numbers_bytes ks
  pub ascending : (p q : ℕ) → p < q → q < length ks → Before (name_in image (get_or ks p 0)) (name_in image (get_or ks q 0))
  pub ten : (p : ℕ) → p < length ks → length (name_in image (get_or ks p 0)) ≡ 10

-- What a piece of text leaves behind: its bytes laid over the buffer from `at` on, the place after them, and that they are few.
use Rattle.std.specs.Prelude.{◌≡◌, List, ℕ, ◌+◌, ◌≤◌, length}
use Rattle.rules.specs.Bytes.{splice}

pub record Laid (limit : ℕ) (before after : List ℕ) (at next : ℕ) (bytes : List ℕ) : Type 0 where
  pub left : after ≡ splice before at bytes
  pub ends : next ≡ at + length bytes
  pub short : length bytes ≤ limit

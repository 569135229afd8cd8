-- Two bytes of the front of an index as a number.
use mathlib.Core.Path.{◌≡◌, ◌∙◌}
use mathlib.Core.List.{List, [], ◌∷◌}
use Prim.Native.Nat.{ℕ, ◌+◌, ◌*◌, ◌≤◌}
use native.Mathlib.Omega.{arith}
use lib.ListN.{length, take, get_or}
use Rattle.rules.specs.Bytes.{word_at}

pub front_word : (index number : List ℕ) (k : ℕ) → 2 ≤ length index → number ≡ take 2 index → k ≡ get_or number 0 0 * 256 + get_or number 1 0 → k ≡ word_at index 0
front_word [] number k long e is = absurd (omega arith)
front_word (a ∷ []) number k long e is = absurd (omega arith)
front_word (a ∷ (b ∷ index)) number k long e is = is ∙ rw e (omega arith)

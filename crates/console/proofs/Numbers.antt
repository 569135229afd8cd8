-- The counts of the numbers 1 to 6, one behind the other. Assumes nothing.
use mathlib.Core.Path.{◌≡◌}
use mathlib.Core.List.{List, [], ◌∷◌, ◌++◌, append_assoc}
use Prim.Native.Nat.{ℕ, zero, suc, ◌+◌}
use Rattle.rules.specs.Bytes.{byte_at}
use Rattle.line.specs.Letters.{letters}
use Rattle.console.specs.Tally.{count_text, numbers_text}

-- "of number 6"
abbrev pub called : ℕ → List ℕ
called digit = 111 ∷ (102 ∷ (32 ∷ (110 ∷ (117 ∷ (109 ∷ (98 ∷ (101 ∷ (114 ∷ (32 ∷ (digit ∷ []))))))))))

-- the first of them
abbrev pub told : List ℕ → ℕ → List ℕ
told tally zero = []
told tally (suc k) = told tally k ++ count_text (byte_at tally (suc k)) (called (48 + suc k))

pub told_all : (tally : List ℕ) → told tally 6 ≡ numbers_text tally
unfolding numbers_text letters
told_all tally = simp append_assoc

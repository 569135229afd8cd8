-- The name of an image as a line shows it.
use Rattle.std.specs.Prelude.{cond, List, [], ◌∷◌, ℕ, eqb}

-- a question mark for a newline
unfoldable pub in_line : ℕ → ℕ
in_line byte = cond (eqb byte 10) 0x3F byte

unfoldable pub one_line : List ℕ → List ℕ
one_line [] = []
one_line (byte ∷ name) = in_line byte ∷ one_line name

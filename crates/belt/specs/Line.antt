-- What the belt writes for an image.
use Rattle.std.specs.Prelude.{Bool, cond, List, [], ◌∷◌, ◌++◌, ℕ}
use Rattle.line.specs.Letters.{letters}
use Rattle.console.specs.Ground.{ground_of}

-- the ground in words, where it is asked for
unfoldable pub reason_of : Bool → ℕ → List ℕ
reason_of verbose mark = cond verbose (letters ": " ++ ground_of mark) []

-- the line of an argument: the mark, a space, the argument, the reason, a newline
unfoldable pub line_of : Bool → ℕ → List ℕ → List ℕ
line_of verbose mark path = (mark ∷ (32 ∷ [])) ++ (path ++ (reason_of verbose mark ++ (10 ∷ [])))

-- that of standard input, which has no name
unfoldable pub bare_line : Bool → ℕ → List ℕ
bare_line verbose mark = (mark ∷ []) ++ (reason_of verbose mark ++ (10 ∷ []))

-- What is written for an argument: a line that names it, as head has it, then its text. Pages are parted by an empty line.
use Rattle.std.specs.Prelude.{Bool, cond, List, [], ◌∷◌, ◌++◌, ℕ, Option, Some, None}
use Rattle.rules.specs.Bytes.{part}
use Rattle.rules.specs.Calls.Listing.{listed}
use Rattle.rules.specs.declared.Layout.{Layout}
use Rattle.line.specs.Letters.{letters}

-- the text of what was put into the buffer, or the line of an image that was not read
unfoldable pub text_of : Layout → Option ℕ → List ℕ → List ℕ
text_of layout (Some count) buffer = listed layout (part buffer 0 count)
text_of layout None buffer = letters "-\n"

-- an empty line in front of all pages but the first
unfoldable pub parting_of : Bool → List ℕ
parting_of first = cond first [] (10 ∷ [])

unfoldable pub page_of : Bool → List ℕ → List ℕ → List ℕ
page_of first path text = parting_of first ++ (letters "==> " ++ (path ++ (letters " <==\n" ++ text)))

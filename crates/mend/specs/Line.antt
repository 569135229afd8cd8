-- What is written for an image, and the path of the file beside it.
use Rattle.std.specs.Prelude.{List, [], ◌∷◌, ◌++◌, ℕ}
use Rattle.line.specs.Letters.{letters}
use Rattle.mend.specs.declared.Fate.{Fate}
use Rattle.mend.specs.declared.Fate.TheVariants.{Sound, Mended, Refused, Unread, Unwritten}

-- what became of it, in words
unfoldable pub words_of : Fate → List ℕ
words_of Sound = letters "sound"
words_of (Mended count) = letters "mended"
words_of Refused = letters "not mended"
words_of Unread = letters "not read"
words_of Unwritten = letters "not written"

-- the line of an image: the mark, a space, the path, what became of it, a newline
unfoldable pub line_of : ℕ → Fate → List ℕ → List ℕ
line_of mark fate path = (mark ∷ (32 ∷ [])) ++ (path ++ (letters ": " ++ (words_of fate ++ (10 ∷ []))))

-- where a mended image is written before it takes the place of the image
unfoldable pub beside_of : List ℕ → List ℕ
beside_of path = path ++ letters ".mending"

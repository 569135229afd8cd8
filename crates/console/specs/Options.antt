-- What an argument in front of the images asks for.
use Rattle.std.specs.Prelude.{cond, List, ℕ, eqb, ltb, length}
use Rattle.rules.specs.Bytes.{byte_at, same}
use Rattle.line.specs.Letters.{letters}
use Rattle.console.specs.declared.options.Word.{Word}
use Rattle.console.specs.declared.options.Word.TheVariants.{Help, Verbose, Sums, Marks, Directories, End, Unknown, Image}

-- an image is what does not begin with a hyphen, and the hyphen alone
unfoldable pub image_or : List ℕ → Word
image_or argument = cond (eqb (byte_at argument 0) 0x2D) (cond (ltb 1 (length argument)) Unknown Image) Image

unfoldable pub word_of : List ℕ → Word
word_of argument =
    cond (same argument (letters "-h")) Help
    (cond (same argument (letters "--help")) Help
    (cond (same argument (letters "-v")) Verbose
    (cond (same argument (letters "--sums")) Sums
    (cond (same argument (letters "--marks")) Marks
    (cond (same argument (letters "--directories")) Directories
    (cond (same argument (letters "--")) End
    (image_or argument)))))))

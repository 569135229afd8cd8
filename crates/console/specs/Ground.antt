-- Why an image is marked as it is, in words.
use Rattle.std.specs.Prelude.{cond, List, ℕ, eqb}
use Rattle.line.specs.Letters.{letters}

-- the judge's number as a digit; any other mark is that of an image that was not read
unfoldable pub ground_of : ℕ → List ℕ
ground_of mark =
    cond (eqb mark 0x30) (letters "a sound volume")
    (cond (eqb mark 0x31) (letters "the image's length is not that of a volume")
    (cond (eqb mark 0x32) (letters "sector 0 is no label")
    (cond (eqb mark 0x33) (letters "a directory is no list of files")
    (cond (eqb mark 0x34) (letters "a file's descriptor breaks a rule")
    (cond (eqb mark 0x35) (letters "a sector has two holders")
    (cond (eqb mark 0x36) (letters "the map is not that of the files")
    (letters "not read")))))))

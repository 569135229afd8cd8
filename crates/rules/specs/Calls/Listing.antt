-- The catalogue program's text. First line: disk name, n, free count. Then one line a file in name order: name, kind, length in bytes for a program or else record length, sectors, P or U for protected or not; by the rule with marks a last field, M for marked or a hyphen. Fields are parted by one space, names without their padding; every line ends in one newline.
use Rattle.std.specs.Prelude.{cond, List, [], ◌∷◌, ◌++◌, ℕ, zero, suc, ◌+◌, ◌/◌, ◌%◌, eqb, ltb, length}
use Rattle.rules.specs.Bytes.{part}
use Rattle.rules.specs.Sectors.{sector_of, sector_count}
use Rattle.rules.specs.Map.{free_count}
use Rattle.rules.specs.Descriptor.{name_of, status_of, sectors_of, file_kind}
use Rattle.rules.specs.Volume.{index_at, files_in}
use Rattle.rules.specs.Kind.{is_protected, is_marked}
use Rattle.rules.specs.Tests.{Test, refuse}
use Rattle.rules.specs.Verdict.{volume_tests, verdict}
use Rattle.rules.specs.Outcome.{Report, reported}
use Rattle.rules.specs.declared.Layout.{Layout}
use Rattle.rules.specs.declared.Kind.{Kind}
use Rattle.rules.specs.declared.Kind.TheVariants.{Program, Fixed, Variable}

-- a number in decimal digits, by a fuel of digits; for x, x + 1 are always enough
unfoldable pub digits : ℕ → ℕ → List ℕ
digits zero x = []
digits (suc fuel) x = cond (ltb x 10) ((48 + x) ∷ []) (digits fuel (x / 10) ++ ((48 + x % 10) ∷ []))

unfoldable pub decimal : ℕ → List ℕ
decimal x = digits (suc x) x

-- a name up to its padding
unfoldable pub unpadded : List ℕ → List ℕ
unpadded [] = []
unpadded (b ∷ name) = cond (eqb b 32) [] (b ∷ unpadded name)

abbrev space : List ℕ
space = 32 ∷ []

-- PROGRAM, DIS/FIX, INT/FIX, DIS/VAR, INT/VAR
unfoldable pub kind_word : Kind → List ℕ
kind_word (Program bytes) = 0x50 ∷ (0x52 ∷ (0x4F ∷ (0x47 ∷ (0x52 ∷ (0x41 ∷ (0x4D ∷ []))))))
kind_word (Fixed record_length internal) =
    cond internal (0x49 ∷ (0x4E ∷ (0x54 ∷ []))) (0x44 ∷ (0x49 ∷ (0x53 ∷ []))) ++ (0x2F ∷ (0x46 ∷ (0x49 ∷ (0x58 ∷ []))))
kind_word (Variable record_length internal) =
    cond internal (0x49 ∷ (0x4E ∷ (0x54 ∷ []))) (0x44 ∷ (0x49 ∷ (0x53 ∷ []))) ++ (0x2F ∷ (0x56 ∷ (0x41 ∷ (0x52 ∷ []))))

unfoldable pub kind_length : Kind → ℕ
kind_length (Program bytes) = bytes
kind_length (Fixed record_length internal) = record_length
kind_length (Variable record_length internal) = record_length

unfoldable pub disk_line : List ℕ → List ℕ
disk_line image = unpadded (part (sector_of image 0) 0 10) ++ (space ++ (decimal (sector_count image) ++ (space ++ (decimal (free_count (sector_of image 0)) ++ (10 ∷ [])))))

-- by the rule with marks: M for marked, or a hyphen
unfoldable pub mark_field : Layout → ℕ → List ℕ
mark_field layout status = cond layout.marks (32 ∷ (cond (is_marked status) 0x4D 0x2D ∷ [])) []

unfoldable pub file_line : Layout → List ℕ → List ℕ
file_line layout descriptor =
    unpadded (name_of descriptor)
    ++ (space
    ++ (kind_word (file_kind descriptor)
    ++ (space
    ++ (decimal (kind_length (file_kind descriptor))
    ++ (space ++ (decimal (sectors_of descriptor) ++ (space ++ (cond (is_protected (status_of descriptor)) 0x50 0x55 ∷ (mark_field layout (status_of descriptor) ++ (10 ∷ []))))))))))

unfoldable pub file_lines : Layout → List ℕ → List ℕ → List ℕ
file_lines layout image [] = []
file_lines layout image (k ∷ ks) = file_line layout (sector_of image k) ++ file_lines layout image ks

-- of the files of index i
unfoldable pub listing_text : Layout → List ℕ → ℕ → List ℕ
listing_text layout image i = disk_line image ++ file_lines layout image (files_in image i)

-- of a directory, for a buffer of `room` bytes
unfoldable pub listing_tests : Layout → List ℕ → ℕ → ℕ → List Test
listing_tests layout image directory room =
    let i = index_at layout image directory in
    volume_tests layout image ++ (refuse 8 (eqb i 0) ∷ (refuse 15 (ltb room (length (listing_text layout image i))) ∷ []))

unfoldable pub listing_of : Layout → List ℕ → ℕ → ℕ → Report
listing_of layout image directory room =
    let text = listing_text layout image (index_at layout image directory) in
    reported (listing_tests layout image directory room) (length text) text

-- an unsound image gives only `REFUSED` and its number
unfoldable pub refused_line : ℕ → List ℕ
refused_line number = 0x52 ∷ (0x45 ∷ (0x46 ∷ (0x55 ∷ (0x53 ∷ (0x45 ∷ (0x44 ∷ (32 ∷ (decimal number ++ (10 ∷ [])))))))))

-- the text of an image, sound or not: that of the root, whose index is sector 1
unfoldable pub listed : Layout → List ℕ → List ℕ
listed layout image = cond (eqb (verdict layout image) 0) (listing_text layout image 1) (refused_line (verdict layout image))

-- what the call leaves a program to show of the root, for a buffer of `room` bytes: the listing, or the line of the refusal
unfoldable pub shown : Layout → List ℕ → ℕ → List ℕ
shown layout image room = cond (eqb (listing_of layout image 0 room).number 0) (listing_text layout image 1) (refused_line (listing_of layout image 0 room).number)

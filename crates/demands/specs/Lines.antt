-- The catalogue program's lines, as facts about a volume and a text. First line: disk name, n, free count. Then one line a file in name order: name, kind (PROGRAM, DIS/FIX, DIS/VAR, INT/FIX, INT/VAR), length in bytes for a program or else record length, sectors, P or U for protected or not; by the rule with marks a last field, M for marked or a hyphen. Fields are parted by one space, names without their padding; every line ends in one newline.
use Rattle.std.specs.Prelude.{◌≡◌, true, false, List, [], ◌∷◌, ◌++◌, ℕ, ◌+◌, ◌-◌, ◌*◌, ◌≤◌, ◌<◌, length, get_or, replicate}
use Rattle.rules.specs.Bytes.{byte_at, bit_of, part}
use Rattle.rules.specs.Sectors.{sector_of, sector_count, joined}
use Rattle.rules.specs.Volume.{File, catalogue, holders}
use Rattle.rules.specs.declared.Layout.{Layout}
use Rattle.rules.specs.declared.Kind.{Kind}
use Rattle.rules.specs.declared.Kind.TheVariants.{Program, Fixed, Variable}
use Rattle.demands.specs.Catalogue.{file_name, file_of, kind_is}

-- the number that digits make, read from the left behind a number read before
unfoldable pub read_from : ℕ → List ℕ → ℕ
read_from before [] = before
read_from before (digit ∷ digits) = read_from (10 * before + (digit - 48)) digits

abbrev pub AreDigits : List ℕ → Type 0
AreDigits word = (i : ℕ) → i < length word → (48 ≤ byte_at word i) × (byte_at word i ≤ 57)

-- a word is a number in decimal: one digit or more, which make the number; the first is 0 only in the word 0
pub record IsDecimal (number : ℕ) (word : List ℕ) : Type 0 where
  pub some : 1 ≤ length word
  pub digits : AreDigits word
  pub value : read_from 0 word ≡ number
  pub leading : byte_at word 0 ≡ 48 → word ≡ 48 ∷ []

-- a word is a name without its padding: spaces behind it make the name, and no byte of it is a space
pub record IsUnpadded (name word : List ℕ) : Type 0 where
  pub padding : ℕ
  pub is : name ≡ word ++ replicate padding 32
  pub solid : (i : ℕ) → i < length word → byte_at word i ≡ 32 → ⊥

-- a word is P or U, by the 08 bit of a status
pub record IsProtection (status : ℕ) (word : List ℕ) : Type 0 where
  pub protected : bit_of status 3 ≡ 1 → word ≡ 0x50 ∷ []
  pub unprotected : bit_of status 3 ≡ 0 → word ≡ 0x55 ∷ []

-- by the rule with marks there is one word more, M or a hyphen, by the 10 bit of a status
pub record AreMarks (layout : Layout) (status : ℕ) (words : List (List ℕ)) : Type 0 where
  pub marked : layout.marks ≡ true → bit_of status 4 ≡ 1 → words ≡ (0x4D ∷ []) ∷ []
  pub unmarked : layout.marks ≡ true → bit_of status 4 ≡ 0 → words ≡ (0x2D ∷ []) ∷ []
  pub without : layout.marks ≡ false → words ≡ []

-- PROGRAM, DIS/FIX, DIS/VAR, INT/FIX, INT/VAR
unfoldable pub word_of : Kind → List ℕ
word_of (Program bytes) = 0x50 ∷ (0x52 ∷ (0x4F ∷ (0x47 ∷ (0x52 ∷ (0x41 ∷ (0x4D ∷ []))))))
word_of (Fixed record_length false) = 0x44 ∷ (0x49 ∷ (0x53 ∷ (0x2F ∷ (0x46 ∷ (0x49 ∷ (0x58 ∷ []))))))
word_of (Variable record_length false) = 0x44 ∷ (0x49 ∷ (0x53 ∷ (0x2F ∷ (0x56 ∷ (0x41 ∷ (0x52 ∷ []))))))
word_of (Fixed record_length true) = 0x49 ∷ (0x4E ∷ (0x54 ∷ (0x2F ∷ (0x46 ∷ (0x49 ∷ (0x58 ∷ []))))))
word_of (Variable record_length true) = 0x49 ∷ (0x4E ∷ (0x54 ∷ (0x2F ∷ (0x56 ∷ (0x41 ∷ (0x52 ∷ []))))))

-- length in bytes for a program or else record length
unfoldable pub length_of : Kind → ℕ
length_of (Program bytes) = bytes
length_of (Fixed record_length internal) = record_length
length_of (Variable record_length internal) = record_length

-- the line of these fields: parted by one space, and a newline at the end
unfoldable pub parted : List (List ℕ) → List ℕ
parted [] = 10 ∷ []
parted (last ∷ []) = last ++ (10 ∷ [])
parted (field ∷ (next ∷ fields)) = field ++ (32 ∷ parted (next ∷ fields))

-- the first line; the free count is n less the holders
pub record IsDiskLine (layout : Layout) (image line : List ℕ) : Type 0 where
  pub name : List ℕ
  pub name_is : IsUnpadded (part (sector_of image 0) 0 10) name
  pub size : List ℕ
  pub size_is : IsDecimal (sector_count image) size
  pub count : ℕ
  pub count_is : count + length (holders layout image) ≡ sector_count image
  pub free : List ℕ
  pub free_is : IsDecimal count free
  pub is : line ≡ parted (name ∷ (size ∷ (free ∷ [])))

pub record IsFileLine (layout : Layout) (file : File) (line : List ℕ) : Type 0 where
  pub name : List ℕ
  pub name_is : IsUnpadded (file_name file) name
  pub size : List ℕ
  pub size_is : IsDecimal (length_of (kind_is file)) size
  pub sectors : List ℕ
  pub sectors_are : IsDecimal (length file.contents) sectors
  pub protection : List ℕ
  pub protection_is : IsProtection (byte_at file.header 12) protection
  pub marks : List (List ℕ)
  pub marks_are : AreMarks layout (byte_at file.header 12) marks
  pub is : line ≡ parted (name ∷ (word_of (kind_is file) ∷ (size ∷ (sectors ∷ (protection ∷ marks)))))

-- the text: the first line, and then a line for each file of the catalogue of index i, in its order
pub record Lists (layout : Layout) (image : List ℕ) (i : ℕ) (text : List ℕ) : Type 0 where
  pub first : List ℕ
  pub first_is : IsDiskLine layout image first
  pub lines : List (List ℕ)
  pub many : length lines ≡ length (catalogue image i)
  pub each : (p : ℕ) → p < length lines → IsFileLine layout (file_of image i p) (get_or lines p [])
  pub is : text ≡ first ++ joined lines

-- The catalogue as a list of files in name order: what is read of a file; one put in, one taken out, one changed.
use Rattle.std.specs.Prelude.{cond, List, [], ◌∷◌, ℕ, ◌+◌, length, get_or}
use Rattle.rules.specs.Bytes.{byte_at, part, same}
use Rattle.rules.specs.Name.{precedes}
use Rattle.rules.specs.Kind.{is_protected, program_length, kind_of}
use Rattle.rules.specs.Volume.{File, catalogue}
use Rattle.rules.specs.declared.Kind.{Kind}
use Rattle.rules.specs.declared.Row.{Row}

-- what is read of a file: its name; its kind and length, where it is a program; its row: name, kind, sectors, protection
abbrev pub file_name : File → List ℕ
file_name file = part file.header 0 10

unfoldable pub kind_is : File → Kind
kind_is file = kind_of (byte_at file.header 12) (length file.contents) (byte_at file.header 16) (byte_at file.header 17)

abbrev pub length_is : File → ℕ
length_is file = program_length (length file.contents) (byte_at file.header 16)

abbrev pub row_is : File → Row
row_is file = record { name = file_name file; kind = kind_is file; sectors = length file.contents; protected = is_protected (byte_at file.header 12) }

-- the file at a place of index i
abbrev pub no_file : File
no_file = record { header = []; contents = [] }

abbrev pub file_of : List ℕ → ℕ → ℕ → File
file_of image i p = get_or (catalogue image i) p no_file

-- before the first file whose name comes after
unfoldable pub put_in : File → List File → List File
put_in file [] = file ∷ []
put_in file (first ∷ more) = cond (precedes (file_name file) (file_name first)) (file ∷ (first ∷ more)) (first ∷ put_in file more)

unfoldable pub taken_out : List ℕ → List File → List File
taken_out name [] = []
taken_out name (first ∷ more) = cond (same name (file_name first)) more (first ∷ taken_out name more)

unfoldable pub changed : List ℕ → (File → File) → List File → List File
changed name change [] = []
changed name change (first ∷ more) = cond (same name (file_name first)) (change first ∷ more) (first ∷ changed name change more)

-- the file of that name
unfoldable pub named : List ℕ → List File → File
named name [] = no_file
named name (first ∷ more) = cond (same name (file_name first)) first (named name more)

-- how many sectors a file holds: its descriptor's and those of its contents
unfoldable pub held : File → ℕ
held file = 1 + length file.contents

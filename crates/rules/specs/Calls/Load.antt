-- A load gives the program's bytes and their number: the contents of its sectors one after another, cut at its length.
use Rattle.std.specs.Prelude.{not, List, [], ◌∷◌, ℕ, ltb, take}
use Rattle.rules.specs.Bytes.{byte_at}
use Rattle.rules.specs.Sectors.{sector_of, joined}
use Rattle.rules.specs.Kind.{is_program, program_length}
use Rattle.rules.specs.Descriptor.{status_of, sectors_of}
use Rattle.rules.specs.Volume.{contents_in}
use Rattle.rules.specs.Tests.{Test, refuse}
use Rattle.rules.specs.Outcome.{Report, reported}
use Rattle.rules.specs.Opening.{open_of, on_file}
use Rattle.rules.specs.declared.Layout.{Layout}

unfoldable pub length_in : List ℕ → ℕ → ℕ
length_in image k = program_length (sectors_of (sector_of image k)) (byte_at (sector_of image k) 16)

unfoldable pub program_in : List ℕ → ℕ → List ℕ
program_in image k = take (length_in image k) (joined (contents_in image k))

-- of the file at k, for a buffer of `room` bytes
unfoldable pub load_tests : List ℕ → ℕ → ℕ → List Test
load_tests image room k = refuse 14 (not (is_program (status_of (sector_of image k)))) ∷ (refuse 15 (ltb room (length_in image k)) ∷ [])

unfoldable pub loading : List ℕ → ℕ → ℕ → Report
loading image room k = reported (load_tests image room k) (length_in image k) (program_in image k)

unfoldable pub load_of : Layout → List ℕ → ℕ → List ℕ → ℕ → Report
load_of layout image directory name room = on_file (open_of layout image directory name) (loading image room)

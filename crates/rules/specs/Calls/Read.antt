-- A sector read gives the 256 bytes. It is allowed on programs and on protected files.
use Rattle.std.specs.Prelude.{List, [], ◌∷◌, ℕ, leb, ltb, get_or}
use Rattle.rules.specs.Sectors.{sector_of}
use Rattle.rules.specs.Descriptor.{sectors_of}
use Rattle.rules.specs.Volume.{places_in}
use Rattle.rules.specs.Tests.{Test, refuse}
use Rattle.rules.specs.Outcome.{Report, reported}
use Rattle.rules.specs.Opening.{open_of, on_file}
use Rattle.rules.specs.declared.Layout.{Layout}

-- of the file at k, its sector `offset`, for a buffer of `room` bytes
unfoldable pub read_tests : List ℕ → ℕ → ℕ → ℕ → List Test
read_tests image offset room k = refuse 15 (leb (sectors_of (sector_of image k)) offset) ∷ (refuse 15 (ltb room 256) ∷ [])

unfoldable pub reading : List ℕ → ℕ → ℕ → ℕ → Report
reading image offset room k = reported (read_tests image offset room k) 0 (sector_of image (get_or (places_in image k) offset 0))

unfoldable pub read_of : Layout → List ℕ → ℕ → List ℕ → ℕ → ℕ → Report
read_of layout image directory name offset room = on_file (open_of layout image directory name) (reading image offset room)

-- Deleting takes the number out of its index, moves later ones down by one place, fills in a zero, and clears the map bits of descriptor and data. Those sectors keep their bytes.
use Rattle.std.specs.Prelude.{List, [], ◌∷◌, ℕ}
use Rattle.rules.specs.Sectors.{sector_of}
use Rattle.rules.specs.Map.{marked_all}
use Rattle.rules.specs.Kind.{is_protected}
use Rattle.rules.specs.Descriptor.{status_of}
use Rattle.rules.specs.Index.{index_of, without}
use Rattle.rules.specs.Volume.{files_in, places_in}
use Rattle.rules.specs.Tests.{Test, refuse}
use Rattle.rules.specs.Outcome.{Outcome, write, tested}
use Rattle.rules.specs.Opening.{open_of, changing}
use Rattle.rules.specs.declared.Layout.{Layout}

-- of the file at k, which index i lists
unfoldable pub delete_tests : List ℕ → ℕ → List Test
delete_tests image k = refuse 10 (is_protected (status_of (sector_of image k))) ∷ []

unfoldable pub deleting : List ℕ → ℕ → ℕ → Outcome
deleting image i k =
    tested (delete_tests image k) (write i (index_of (without k (files_in image i))) ∷ (write 0 (marked_all 0 (sector_of image 0) (k ∷ places_in image k)) ∷ []))

unfoldable pub delete_of : Layout → List ℕ → ℕ → List ℕ → Outcome
delete_of layout image directory name = changing (open_of layout image directory name) (deleting image)

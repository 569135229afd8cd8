-- Creating takes a name, status 00, 02, 80 or 82 hex, record length and records per sector; the descriptor's other bytes are zero. By the rule with marks the new file is marked.
use Rattle.std.specs.Prelude.{Bool, not, ◌||◌, List, [], ◌∷◌, ℕ, eqb, leb, ltb, length}
use Rattle.rules.specs.Sectors.{Write, sector_of}
use Rattle.rules.specs.Map.{free_count, marked}
use Rattle.rules.specs.Kind.{marking}
use Rattle.rules.specs.Descriptor.{new_descriptor}
use Rattle.rules.specs.Index.{index_of}
use Rattle.rules.specs.Volume.{files_in, placed}
use Rattle.rules.specs.Choice.{descriptor_choice}
use Rattle.rules.specs.Tests.{Test, refuse}
use Rattle.rules.specs.Outcome.{Outcome, write, tested}
use Rattle.rules.specs.Opening.{open_of, adding}
use Rattle.rules.specs.declared.Layout.{Layout}

unfoldable pub create_status : ℕ → Bool
create_status status = eqb status 0 || (eqb status 0x02 || (eqb status 0x80 || eqb status 0x82))

-- a new file's last three writes: its descriptor in sector k, sector 0, and index i with k in its place
unfoldable pub entered : List ℕ → ℕ → List ℕ → ℕ → List ℕ → List ℕ → List Write
entered image i name k descriptor sector0 = write k descriptor ∷ (write 0 sector0 ∷ (write i (index_of (placed image name k (files_in image i))) ∷ []))

-- in index i
unfoldable pub create_tests : List ℕ → ℕ → ℕ → List Test
create_tests image status i =
    refuse 15 (not (create_status status)) ∷ (refuse 11 (leb 127 (length (files_in image i))) ∷ (refuse 12 (ltb (free_count (sector_of image 0)) 1) ∷ []))

unfoldable pub creating : Layout → List ℕ → List ℕ → ℕ → ℕ → ℕ → ℕ → Outcome
creating layout image name status record_length records_per_sector i =
    let sector0 = sector_of image 0 in
    let k = descriptor_choice sector0 in
    tested (create_tests image status i) (entered image i name k (new_descriptor name (marking layout status) records_per_sector 0 record_length) (marked 1 sector0 k))

unfoldable pub create_of : Layout → List ℕ → ℕ → List ℕ → ℕ → ℕ → ℕ → Outcome
create_of layout image directory name status record_length records_per_sector = adding (open_of layout image directory name) (creating layout image name status record_length records_per_sector)

-- Overwriting changes one data sector, to the 256 bytes lent. By the rule with marks it writes the descriptor first, marked, also where it has the mark already.
use Rattle.std.specs.Prelude.{cond, not, List, [], ◌∷◌, ℕ, eqb, leb, length, get_or}
use Rattle.rules.specs.Sectors.{Write, sector_of}
use Rattle.rules.specs.Kind.{is_program, is_protected}
use Rattle.rules.specs.Descriptor.{status_of, sectors_of, marked_by}
use Rattle.rules.specs.Volume.{places_in}
use Rattle.rules.specs.Tests.{Test, refuse}
use Rattle.rules.specs.Outcome.{Outcome, write, tested}
use Rattle.rules.specs.Opening.{open_of, changing}
use Rattle.rules.specs.declared.Layout.{Layout}

-- of the file at k, its sector `offset`
unfoldable pub overwrite_tests : List ℕ → ℕ → List ℕ → ℕ → List Test
overwrite_tests image offset bytes k =
    let descriptor = sector_of image k in
    refuse 10 (is_protected (status_of descriptor))
    ∷ (refuse 14 (is_program (status_of descriptor)) ∷ (refuse 15 (leb (sectors_of descriptor) offset) ∷ (refuse 15 (not (eqb (length bytes) 256)) ∷ [])))

unfoldable pub overwrite_writes : Layout → List ℕ → ℕ → List ℕ → ℕ → List Write
overwrite_writes layout image offset bytes k =
    let last = write (get_or (places_in image k) offset 0) bytes ∷ [] in
    cond layout.marks (write k (marked_by layout (sector_of image k)) ∷ last) last

unfoldable pub overwriting : Layout → List ℕ → ℕ → List ℕ → ℕ → Outcome
overwriting layout image offset bytes k = tested (overwrite_tests image offset bytes k) (overwrite_writes layout image offset bytes k)

unfoldable pub overwrite_of : Layout → List ℕ → ℕ → List ℕ → ℕ → List ℕ → Outcome
overwrite_of layout image directory name offset bytes = changing (open_of layout image directory name) (λ i k. overwriting layout image offset bytes k)

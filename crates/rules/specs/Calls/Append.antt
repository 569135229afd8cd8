-- Appending adds one sector. It changes the descriptor's c and chain, the map bit and the data sector; that sector then holds the 256 bytes lent. By the rule with marks the file is marked.
use Rattle.std.specs.Prelude.{not, List, [], ◌∷◌, ℕ, ◌+◌, eqb, ltb, length}
use Rattle.rules.specs.Sectors.{Write, sector_of}
use Rattle.rules.specs.Map.{free_count, marked}
use Rattle.rules.specs.Chain.{blocks, extended}
use Rattle.rules.specs.Kind.{is_program, is_protected}
use Rattle.rules.specs.Descriptor.{status_of, sectors_of, chain_of, with_chain, marked_by}
use Rattle.rules.specs.Choice.{data_choice}
use Rattle.rules.specs.Tests.{Test, refuse}
use Rattle.rules.specs.Outcome.{Outcome, write, tested}
use Rattle.rules.specs.Opening.{open_of, changing}
use Rattle.rules.specs.declared.Layout.{Layout}
use Rattle.rules.specs.declared.Block.{Block}

-- of the file at k: the sector taken, and the blocks with it
unfoldable pub longer_blocks : List ℕ → ℕ → List Block
longer_blocks image k = extended 0 (blocks (chain_of (sector_of image k))) (data_choice (sector_of image 0))

unfoldable pub append_tests : List ℕ → List ℕ → ℕ → List Test
append_tests image bytes k =
    refuse 10 (is_protected (status_of (sector_of image k)))
    ∷ (refuse 14 (is_program (status_of (sector_of image k)))
    ∷ (refuse 15 (not (eqb (length bytes) 256))
    ∷ (refuse 12 (ltb (free_count (sector_of image 0)) 1) ∷ (refuse 13 (ltb 76 (length (longer_blocks image k))) ∷ []))))

unfoldable pub append_writes : Layout → List ℕ → List ℕ → ℕ → List Write
append_writes layout image bytes k =
    let sector0 = sector_of image 0 in
    let descriptor = sector_of image k in
    let new = data_choice sector0 in
    write new bytes ∷ (write 0 (marked 1 sector0 new) ∷ (write k (with_chain (marked_by layout descriptor) (sectors_of descriptor + 1) (longer_blocks image k)) ∷ []))

unfoldable pub appending : Layout → List ℕ → List ℕ → ℕ → Outcome
appending layout image bytes k = tested (append_tests image bytes k) (append_writes layout image bytes k)

unfoldable pub append_of : Layout → List ℕ → ℕ → List ℕ → List ℕ → Outcome
append_of layout image directory name bytes = changing (open_of layout image directory name) (λ i k. appending layout image bytes k)

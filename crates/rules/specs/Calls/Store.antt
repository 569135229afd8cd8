-- Storing takes a name and the program's bytes, and writes status 01, c, byte 16 and the chain; the descriptor's other bytes are zero. L bytes take L/256 sectors rounded up, and byte 16 is L mod 256; the rest of the last sector is zero. By the rule with marks the new file is marked.
use Rattle.std.specs.Prelude.{List, [], ◌∷◌, ◌++◌, ℕ, ◌+◌, ◌%◌, leb, ltb, length, drop, replicate}
use Rattle.rules.specs.Bytes.{over}
use Rattle.rules.specs.Sectors.{Write, sector_of}
use Rattle.rules.specs.Kind.{sectors_for, marking}
use Rattle.rules.specs.Map.{free_count, marked, marked_all}
use Rattle.rules.specs.Chain.{extended_all}
use Rattle.rules.specs.Descriptor.{new_descriptor, with_chain}
use Rattle.rules.specs.Volume.{files_in}
use Rattle.rules.specs.Choice.{descriptor_choice, data_choices}
use Rattle.rules.specs.Tests.{Test, refuse}
use Rattle.rules.specs.Outcome.{Outcome, write, tested}
use Rattle.rules.specs.Opening.{open_of, adding}
use Rattle.rules.specs.Calls.Create.{entered}
use Rattle.rules.specs.declared.Layout.{Layout}
use Rattle.rules.specs.declared.Block.{Block}

-- the bytes go to the sectors ks, in file order, 256 to each; where there are no more, zeros
unfoldable pub data_writes : List ℕ → List ℕ → List Write
data_writes bytes [] = []
data_writes bytes (k ∷ ks) = write k (over (replicate 256 0) bytes) ∷ data_writes (drop 256 bytes) ks

-- the sectors of the data, chosen after the descriptor's, and their blocks
unfoldable pub new_sectors : List ℕ → ℕ → List ℕ
new_sectors image many = data_choices many (marked 1 (sector_of image 0) (descriptor_choice (sector_of image 0)))

unfoldable pub new_blocks : List ℕ → ℕ → List Block
new_blocks image many = extended_all [] (new_sectors image many)

-- in index i
unfoldable pub store_tests : List ℕ → List ℕ → ℕ → List Test
store_tests image bytes i =
    let many = sectors_for (length bytes) in
    refuse 15 (ltb 32768 (length bytes))
    ∷ (refuse 11 (leb 127 (length (files_in image i)))
    ∷ (refuse 12 (ltb (free_count (sector_of image 0)) (1 + many)) ∷ (refuse 13 (ltb 76 (length (new_blocks image many))) ∷ [])))

unfoldable pub storing : Layout → List ℕ → List ℕ → List ℕ → ℕ → Outcome
storing layout image name bytes i =
    let many = sectors_for (length bytes) in
    let k = descriptor_choice (sector_of image 0) in
    let ks = new_sectors image many in
    tested (store_tests image bytes i)
    (data_writes bytes ks
    ++ entered image i name k (with_chain (new_descriptor name (marking layout 0x01) 0 (length bytes % 256) 0) many (new_blocks image many)) (marked_all 1 (sector_of image 0) (k ∷ ks)))

unfoldable pub store_of : Layout → List ℕ → ℕ → List ℕ → List ℕ → Outcome
store_of layout image directory name bytes = adding (open_of layout image directory name) (storing layout image name bytes)

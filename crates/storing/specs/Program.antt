-- What is written of a program before it is entered: its data, its descriptor, and sector 0 with all of its sectors taken.
use Rattle.std.specs.Prelude.{List, [], ◌∷◌, ◌++◌, ℕ, ◌%◌, length}
use Rattle.rules.specs.Sectors.{Write, sector_of}
use Rattle.rules.specs.Map.{marked_all}
use Rattle.rules.specs.Kind.{sectors_for, marking}
use Rattle.rules.specs.Descriptor.{new_descriptor, with_chain}
use Rattle.rules.specs.Choice.{descriptor_choice}
use Rattle.rules.specs.Outcome.{write}
use Rattle.rules.specs.Calls.Store.{data_writes, new_sectors, new_blocks}
use Rattle.rules.specs.declared.Layout.{Layout}

-- the descriptor of a program, marked by the rule, its blocks those of the sectors chosen
unfoldable pub program_descriptor : Layout → List ℕ → List ℕ → List ℕ → List ℕ
program_descriptor layout image name bytes =
    let many = sectors_for (length bytes) in
    with_chain (new_descriptor name (marking layout 0x01) 0 (length bytes % 256) 0) many (new_blocks image many)

-- sector 0 with the descriptor's sector and those of the data taken
unfoldable pub program_map : List ℕ → List ℕ → List ℕ
program_map image bytes = marked_all 1 (sector_of image 0) (descriptor_choice (sector_of image 0) ∷ new_sectors image (sectors_for (length bytes)))

unfoldable pub program_writes : Layout → List ℕ → List ℕ → List ℕ → List Write
program_writes layout image name bytes =
    data_writes bytes (new_sectors image (sectors_for (length bytes)))
    ++ (write (descriptor_choice (sector_of image 0)) (program_descriptor layout image name bytes) ∷ (write 0 (program_map image bytes) ∷ []))

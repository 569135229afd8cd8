-- Storing: which test gives which number, each where those before it have passed; and the writes where all have.
use mathlib.Core.Path.{◌≡◌, sym}
use mathlib.Core.Bool.{true, false}
use mathlib.Core.List.{List, ◌++◌}
use Prim.Native.Nat.{ℕ, ◌+◌, ◌≤◌, ◌<◌}
use native.Mathlib.Omega.{arith}
use lib.Dec.{leb}
use lib.ListN.{length}
use borrow.Author.Tests.{lt-ltb, le-ltb, le-leb, lt-leb, leb-true, leb-false}
use Rattle.rules.specs.Sectors.{sector_of}
use Rattle.rules.specs.Map.{free_count}
use Rattle.rules.specs.Choice.{descriptor_choice}
use Rattle.rules.specs.Volume.{files_in}
use Rattle.rules.specs.Tests.{first_of, unless_met}
use Rattle.rules.specs.Outcome.{done, refusal}
use Rattle.rules.specs.Calls.Create.{entered}
use Rattle.rules.specs.Kind.{sectors_for}
use Rattle.rules.specs.Calls.Store.{data_writes, new_sectors, new_blocks, store_tests, storing}
use Rattle.rules.specs.declared.Layout.{Layout}
use Rattle.storing.specs.Program.{program_descriptor, program_map}

-- in index i
module _ (layout : Layout) (image name bytes : List ℕ) (i : ℕ) where
  pub too_long : 32768 < length bytes → storing layout image name bytes i ≡ refusal 15
  unfolding storing store_tests first_of unless_met
  too_long long = rw (lt-ltb 32768 (length bytes) long)

  module _ (short : length bytes ≤ 32768) where
    pub no_place : 126 < length (files_in image i) → storing layout image name bytes i ≡ refusal 11
    unfolding storing store_tests first_of unless_met
    no_place full = rw (le-ltb 32768 (length bytes) short, le-leb 127 (length (files_in image i)) (omega arith))

    module _ (place : length (files_in image i) ≤ 126) where
      pub too_few_free : free_count (sector_of image 0) < 1 + sectors_for (length bytes) → storing layout image name bytes i ≡ refusal 12
      unfolding storing store_tests first_of unless_met
      too_few_free few =
          rw (le-ltb 32768 (length bytes) short, lt-leb 127 (length (files_in image i)) (omega arith), lt-ltb (free_count (sector_of image 0)) (1 + sectors_for (length bytes)) few)

      -- with the blocks of the sectors chosen
      module _ (free : 1 + sectors_for (length bytes) ≤ free_count (sector_of image 0)) where
        pub too_scattered : false ≡ leb (length (new_blocks image (sectors_for (length bytes)))) 76 → storing layout image name bytes i ≡ refusal 13
        unfolding storing store_tests first_of unless_met
        too_scattered is =
            rw (le-ltb 32768 (length bytes) short, lt-leb 127 (length (files_in image i)) (omega arith), le-ltb (free_count (sector_of image 0)) (1 + sectors_for (length bytes)) free, lt-ltb 76 _ (leb-false _ _ (sym is)))

        pub stored : true ≡ leb (length (new_blocks image (sectors_for (length bytes)))) 76
            → storing layout image name bytes i
            ≡ done (data_writes bytes (new_sectors image (sectors_for (length bytes))) ++ entered image i name (descriptor_choice (sector_of image 0)) (program_descriptor layout image name bytes) (program_map image bytes))
        unfolding storing store_tests first_of unless_met program_descriptor program_map
        stored is =
            rw (le-ltb 32768 (length bytes) short, lt-leb 127 (length (files_in image i)) (omega arith), le-ltb (free_count (sector_of image 0)) (1 + sectors_for (length bytes)) free, le-ltb 76 _ (leb-true _ _ (sym is)))

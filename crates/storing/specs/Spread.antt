-- Sectors for data, taken in the map and put into a chain that was empty.
use Rattle.std.specs.Prelude.{◌≡◌, Bool, true, List, [], ℕ, leb, length, replicate}
use Rattle.rules.specs.Bytes.{splice}
use Rattle.rules.specs.Map.{marked_all}
use Rattle.rules.specs.Chain.{blocks, extended_all, places, blocks_bytes}
use Rattle.rules.specs.Choice.{data_choices}

-- a chain's 228 bytes are its blocks and zeros
pub record IsSpread (chain : List ℕ) : Type 0 where
  pub size : length chain ≡ 228
  pub laid : chain ≡ splice (replicate 228 0) 0 (blocks_bytes (blocks chain))

-- the chain of the sectors chosen, and the map with them
pub record Taken (many : ℕ) (sector0 after chain : List ℕ) : Type 0 where
  pub map : after ≡ marked_all 1 sector0 (data_choices many sector0)
  pub blocks_are : blocks chain ≡ extended_all [] (data_choices many sector0)
  pub places_are : places chain ≡ data_choices many sector0
  pub spread : IsSpread chain

-- whether 76 blocks were enough, and what is left then
pub record Spread (many : ℕ) (sector0 : List ℕ) (enough : Bool) (after chain : List ℕ) : Type 0 where
  pub enough_is : enough ≡ leb (length (extended_all [] (data_choices many sector0))) 76
  pub taken : enough ≡ true → Taken many sector0 after chain

-- A chain that is built a sector at a time, in its 228 bytes.
use Rattle.std.specs.Prelude.{◌≡◌, List, ℕ, ◌+◌, ◌≤◌, ◌<◌, length}
use Rattle.rules.specs.Bytes.{splice}
use Rattle.rules.specs.Chain.{blocks, blocks_bytes, extended, IsChain}
use Rattle.extension.specs.declared.Tip.{Tip}
use Rattle.extension.specs.Tip.{tip_with, IsTip}

-- It keeps the rules of a chain. Three bytes hold places and offsets up to 4,095: that is all that is asked of n here.
pub record Built (chain : List ℕ) (tip : Tip) : Type 0 where
  pub size : length chain ≡ 228
  pub tip_is : IsTip chain tip
  pub chain_is : IsChain 4096 tip.next chain

-- sector k can be added: it is no system sector, and a 77th block is not needed
pub record Extendable (chain : List ℕ) (tip : Tip) (k : ℕ) : Type 0 where
  pub built : Built chain tip
  pub low : 2 ≤ k
  pub high : k < 4096
  pub next : tip.next < 4096
  pub room : (tip_with tip k).used ≤ 76

-- what adding it leaves
pub record Extends (chain : List ℕ) (tip : Tip) (k : ℕ) (after : List ℕ) (longer : Tip) : Type 0 where
  pub built : Built after longer
  pub next : longer.next ≡ tip.next + 1
  pub blocks_are : blocks after ≡ extended 0 (blocks chain) k
  pub laid : after ≡ splice chain 0 (blocks_bytes (extended 0 (blocks chain) k))

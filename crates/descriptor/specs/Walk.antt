-- What the iterator over the blocks of a chain has still to give, and a step of it.
use Rattle.std.specs.Prelude.{Option, List, ◌<◌, IfSome}
use Rattle.std.specs.Iterator.{YieldsFirst}
use Rattle.rules.specs.Chain.{blocks}
use Rattle.rules.specs.declared.Block.{Block}
use Rattle.descriptor.specs.declared.chain.Blocks.{Blocks}

abbrev pub blocks_left : Blocks → List Block
blocks_left left = blocks left.chain.now

-- its numbers are small
pub record Small (block : Block) : Type 0 where
  pub start : block.start < 4096
  pub last : block.last < 4096

-- the first of those that are left, or none where none is left
pub record NextBlock (left : Blocks) (block : Option Block) (behind : Blocks) : Type 0 where
  pub is : YieldsFirst blocks_left left block behind
  pub small : IfSome block Small

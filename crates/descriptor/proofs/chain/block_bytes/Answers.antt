-- `descriptor::chain::block_bytes` meets its contract: the three bytes are the definition's, and small numbers keep each in its byte. Assumes nothing.
use mathlib.Core.Path.{refl}
use Rattle.rules.specs.Chain.{block_bytes}
use Rattle.descriptor.proofs.chain.block_bytes.Goals as goal

pub returns : goal.returns
unfolding block_bytes
returns c = refl

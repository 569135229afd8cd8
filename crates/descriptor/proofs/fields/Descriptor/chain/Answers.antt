-- `descriptor::fields::Descriptor::chain` meets its contract: the part where the field stands. Assumes nothing.
use Rattle.rules.specs.Descriptor.{chain_of}
use Rattle.descriptor.proofs.fields.Descriptor.chain.Goals as goal

pub returns : goal.returns
unfolding chain_of
returns c = c.part.ensures

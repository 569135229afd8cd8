-- `descriptor::fields::Descriptor::name` meets its contract: the part where the field stands. Assumes nothing.
use Rattle.rules.specs.Descriptor.{name_of}
use Rattle.descriptor.proofs.fields.Descriptor.name.Goals as goal

pub returns : goal.returns
unfolding name_of
returns c = c.part.ensures

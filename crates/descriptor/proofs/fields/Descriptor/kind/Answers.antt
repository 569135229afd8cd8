-- `descriptor::fields::Descriptor::kind` meets its contract: the kind of what the fields say. Assumes nothing.
use Rattle.rules.specs.Descriptor.{file_kind}
use Rattle.descriptor.proofs.fields.Descriptor.kind.Goals as goal

pub returns : goal.returns
unfolding file_kind
returns c = rw (← c.status.ensures, ← c.sectors.ensures, ← c.end_offset.ensures, ← c.byte.ensures, ← c.from.ensures, ← c.from-2.ensures) c.kind_of.ensures

-- `map::choice::descriptor_choice` meets its contract: the definition is the lowest free sector from 2 up, which `lowest_free` gives. Assumes nothing.
use Rattle.rules.specs.Choice.{descriptor_choice}
use Rattle.map.proofs.choice.descriptor_choice.Goals as goal

pub returns : goal.returns
unfolding descriptor_choice
returns c = (c.lowest_free.ensures.0, c.lowest_free.ensures.1)

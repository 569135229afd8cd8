-- `console::tally::put_sound` meets its contract: four pieces laid one behind the other. Assumes nothing.
use Rattle.line.specs.Letters.{letters}
use Rattle.line.proofs.LaidLaws.{laid_as, laid_then}
use Rattle.console.specs.Tally.{sound_text}
use Rattle.console.proofs.tally.put_sound.Goals as goal

pub returns : goal.returns
unfolding sound_text letters
returns c = laid_then c.put_number-counted.ensures (laid_then (laid_as c.images_text.ensures.0 c.images_text.ensures.1 c.put-named.ensures) (laid_then c.put_number-next.ensures c.put.ensures))

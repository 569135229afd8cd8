-- `console::tally::put_tally` meets its contract: four pieces laid one behind the other. Assumes nothing.
use Rattle.line.specs.Letters.{letters}
use Rattle.line.proofs.LaidLaws.{laid_then}
use Rattle.console.specs.Tally.{tally_text}
use Rattle.console.proofs.tally.Tally.put_tally.Goals as goal

pub returns : goal.returns
unfolding tally_text letters
returns c =
    laid_then c.put_sound-sound.ensures
    (laid_then c.put_numbers-numbered.ensures (laid_then c.put_count-unread.ensures c.put.ensures))

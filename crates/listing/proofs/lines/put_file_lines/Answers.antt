-- `listing::lines::put_file_lines` meets its contract. The loop's invariant: the lines of the numbers that are still to come are left, and go to `next` (`Ahead`). Assumes nothing.
use mathlib.Core.Path.{ap, ◌∙◌}
use Rattle.rules.specs.Index.{numbers}
use Rattle.rules.specs.Volume.{files_in}
use Rattle.sector.specs.Numbers.{numbers_left}
use Rattle.listing.proofs.LineSteps.{ahead_start, ahead_step, ahead_end}
use Rattle.listing.proofs.lines.put_file_lines.Goals as goal

pub loop-k-init : goal.loop-k-init
unfolding files_in
loop-k-init c = ahead_start _ _ _ _ _ _ (ap numbers_left c.into_iter-k-iterator.ensures.into_iter_gives ∙ c.numbers_of-k-items.ensures ∙ ap numbers c.sector_of.ensures)

pub loop-k-preserved : goal.loop-k-preserved
loop-k-preserved c = ahead_step c.loop-k.invariant c.in-Some.ensures.steps c.descriptor_of.ensures c.put_file_line-next.ensures

pub returns : goal.returns
returns c = ahead_end c.loop-k.invariant c.in-None.ensures.steps.0

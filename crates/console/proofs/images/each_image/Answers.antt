-- `console::images::each_image` meets its contract: a turn counts one image. Assumes nothing.
use Rattle.std.proofs.Common.{arith}
use Rattle.console.proofs.Counts.{one_more, counts_stay}
use Rattle.console.proofs.images.each_image.Goals as goal

pub loop-position-preserved : goal.loop-position-preserved
loop-position-preserved g c =
    let l = c.loop-position in
    let steps = c.in-Some.ensures.steps in
    let more = one_more l.tally.counts c.digit_of.result l.invariant.1 (omega (arith, l.invariant.0, l.invariant.2, steps)) in
    rw c.count.ensures (omega (arith, more, l.invariant.0, steps), counts_stay _ _ l.invariant.1, l.invariant.2)

-- `sums::table::enter` meets its contract: the three lists are those of the place entered. Assumes nothing.
use Rattle.std.proofs.Common.{arith}
use Rattle.sums.proofs.Entering.{entered}
use Rattle.sums.proofs.table.enter.Goals as goal

pub returns : goal.returns
returns c =
    let kept = c.in-Ok-Some.ensures in
    let bucket = c.in-Ok-Some.ensures' in
    entered _ _ _ _ _ c.requires bucket.1 kept.1 (omega arith) (omega arith) bucket.0 kept.0

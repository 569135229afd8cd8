-- `masters::put_line` meets its contract: four pieces laid one behind the other. Assumes nothing.
use Rattle.std.proofs.Common.{arith, refl, ◌∙◌}
use Rattle.line.proofs.LaidLaws.{laid_then}
use Rattle.masters.specs.Line.{line_of}
use Rattle.masters.proofs.put_line.Goals as goal

pub returns : goal.returns
unfolding line_of
returns c =
    let line = laid_then c.put-next.ensures (laid_then c.put_middle-told.ensures (laid_then c.put-named.ensures c.put.ensures)) in
    (omega (arith, line.ends), line.left ∙ rw c.digit_of.ensures refl)

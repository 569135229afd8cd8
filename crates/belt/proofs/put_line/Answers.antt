-- `belt::put_line` meets its contract: four pieces laid one behind the other. Assumes nothing.
use mathlib.Core.Path.{refl, ◌∙◌}
use native.Mathlib.Omega.{arith}
use Rattle.line.proofs.LaidLaws.{laid_then}
use Rattle.belt.specs.Line.{line_of}
use Rattle.belt.proofs.put_line.Goals as goal

pub returns : goal.returns
unfolding line_of
returns c =
    let line = laid_then c.put-next.ensures (laid_then c.put-named.ensures (laid_then c.put_reason-told.ensures c.put.ensures)) in
    (omega (arith, line.ends), line.left ∙ rw c.digit_of.ensures refl)

-- `belt::put_bare_line` meets its contract: three pieces laid one behind the other. Assumes nothing.
use mathlib.Core.Path.{refl, ◌∙◌}
use native.Mathlib.Omega.{arith}
use Rattle.line.proofs.LaidLaws.{laid_then}
use Rattle.belt.specs.Line.{bare_line}
use Rattle.belt.proofs.put_bare_line.Goals as goal

pub returns : goal.returns
unfolding bare_line
returns c =
    let line = laid_then c.put-next.ensures (laid_then c.put_reason-told.ensures c.put.ensures) in
    (omega (arith, line.ends), line.left ∙ rw c.digit_of.ensures refl)

-- `mend::Mending::put_line` meets its contract: five pieces laid one behind the other. Assumes nothing.
use mathlib.Core.Path.{refl, ◌∙◌}
use native.Mathlib.Omega.{arith}
use Rattle.line.specs.Letters.{letters}
use Rattle.line.proofs.LaidLaws.{laid_as, laid_then}
use Rattle.mend.specs.Line.{line_of}
use Rattle.mend.proofs.Mending.put_line.Goals as goal

pub returns : goal.returns
unfolding line_of letters
returns c =
    let words = laid_as c.words_of.ensures.0 c.words_of.ensures.1 c.put-told.ensures in
    let told = laid_then c.put-parted.ensures (laid_then words c.put.ensures) in
    let line = laid_then c.put-next.ensures (laid_then c.put-named.ensures told) in
    (omega (arith, line.ends), line.left ∙ rw c.digit_of.ensures refl)

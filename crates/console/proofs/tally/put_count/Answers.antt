-- `console::tally::put_count` meets its contract: nothing, or three pieces laid one behind the other. Assumes nothing.
use mathlib.Core.Path.{sym}
use native.Mathlib.Omega.{arith}
use borrow.Author.Tests.{eq-eqb, ne_eqb}
use Rattle.rules.proofs.Splice.{splice_none}
use Rattle.line.specs.Letters.{letters}
use Rattle.line.proofs.LaidLaws.{laid_as, laid_then}
use Rattle.console.specs.Tally.{count_text}
use Rattle.console.proofs.tally.put_count.Goals as goal

pub returns-then-count-eq0 : goal.returns-then-count-eq0
unfolding count_text
returns-then-count-eq0 c = rw (eq-eqb _ _ c.if-count-eq0.true) (record { left = sym (splice_none _ _); ends = omega arith; short = omega arith })

pub returns : goal.returns
unfolding count_text letters
returns c =
    let laid = laid_then c.put-next.ensures (laid_then c.put_number-counted.ensures c.put.ensures) in
    laid_as (rw (ne_eqb _ _ c.if-count-eq0.false)) (omega (arith, laid.short, c.requires.1)) laid

-- `belt::put_reason` meets its contract: two pieces laid one behind the other, or nothing. Assumes nothing.
use mathlib.Core.Path.{sym}
use native.Mathlib.Omega.{arith}
use Rattle.rules.proofs.Splice.{splice_none}
use Rattle.line.specs.Letters.{letters}
use Rattle.line.proofs.LaidLaws.{laid_as, laid_then}
use Rattle.belt.specs.Line.{reason_of}
use Rattle.belt.proofs.put_reason.Goals as goal

pub returns-then-verbose : goal.returns-then-verbose
unfolding reason_of letters
returns-then-verbose c =
    let laid = laid_then c.put-next.ensures c.put_ground.ensures in
    laid_as (rw (c.if-verbose.true, c.digit_of.ensures)) laid.short laid

pub returns : goal.returns
unfolding reason_of
returns c = rw c.if-verbose.false (record { left = sym (splice_none _ _); ends = omega arith; short = omega arith })

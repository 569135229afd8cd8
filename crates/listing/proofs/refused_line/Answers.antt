-- `listing::refused_line` meets its contract: the word and the number, laid one behind the other. Assumes nothing.
use native.Mathlib.Omega.{arith}
use Rattle.rules.specs.Calls.Listing.{refused_line}
use Rattle.line.proofs.LaidLaws.{laid_then}
use Rattle.listing.proofs.refused_line.Goals as goal

pub returns : goal.returns
unfolding refused_line
returns c =
    let line = laid_then c.put-next.ensures c.put_number.ensures in
    (omega (arith, line.ends), line.left)

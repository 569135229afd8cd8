-- `mend::put_beside` meets its contract: two pieces laid one behind the other. Assumes nothing.
use native.Mathlib.Omega.{arith}
use Rattle.line.specs.Letters.{letters}
use Rattle.line.proofs.LaidLaws.{laid_then}
use Rattle.mend.specs.Line.{beside_of}
use Rattle.mend.proofs.put_beside.Goals as goal

pub returns : goal.returns
unfolding beside_of letters
returns c = let beside = laid_then c.put-named.ensures c.put.ensures in (omega (arith, beside.ends), beside.left)

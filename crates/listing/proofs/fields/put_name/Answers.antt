-- `listing::fields::put_name` meets its contract: two pieces laid one behind the other, of which the first has at most ten bytes. Assumes nothing.
use Prim.Native.Nat.{◌≤◌}
use native.Mathlib.Omega.{arith}
use lib.ListN.{length}
use Rattle.rules.proofs.Listing.{unpadded_short}
use Rattle.line.proofs.LaidLaws.{laid_as, laid_then}
use Rattle.listing.proofs.fields.put_name.Goals as goal
use Rattle.listing.proofs.fields.put_name.Goals.{After-unpadded}

few : (c : After-unpadded) → length c.unpadded.result.now ≤ 10
few c = rw c.unpadded.ensures (omega (arith, unpadded_short c.args.name.now, c.requires.1))

pub returns : goal.returns
returns c =
    laid_then (laid_as {k = 10} c.unpadded.ensures (few (goal.at.returns c).After-unpadded) c.put-next.ensures) c.put.ensures

-- `listings::put_page` meets its contract: five pieces laid one behind the other. Assumes nothing.
use native.Mathlib.Omega.{arith}
use Rattle.line.specs.Letters.{letters}
use Rattle.line.proofs.LaidLaws.{laid_then}
use Rattle.listings.specs.Page.{page_of}
use Rattle.listings.proofs.put_page.Goals as goal

pub returns : goal.returns
unfolding page_of letters
returns c =
    let page = laid_then c.put_parting-parted.ensures (laid_then c.put-begun.ensures (laid_then c.put-named.ensures (laid_then c.put-headed.ensures c.put.ensures))) in
    (omega (arith, page.ends), page.left)

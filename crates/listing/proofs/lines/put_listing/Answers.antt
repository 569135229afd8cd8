-- `listing::lines::put_listing` meets its contract: the disk's line and the files' lines, laid one behind the other. Assumes nothing.
use Rattle.rules.specs.Calls.Listing.{listing_text}
use Rattle.line.proofs.LaidLaws.{laid_then}
use Rattle.listing.proofs.lines.put_listing.Goals as goal

pub returns : goal.returns
unfolding listing_text
returns c =
    laid_then c.put_disk_line-next.ensures c.put_file_lines.ensures

-- `sector::directories::indexes_of` meets its contract: from the root on, all that are there. Assumes nothing.
use Rattle.sector.proofs.DirectoryLaws.{from_root}
use Rattle.sector.proofs.directories.indexes_of.Goals as goal

pub returns : goal.returns
returns c = from_root c.args.layout c.args.image.now

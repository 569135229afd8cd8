-- `sector::directories::directory_count` meets its contract: the root alone, or the root and three entries. Assumes nothing.
use mathlib.Core.Path.{sym}
use native.Mathlib.Omega.{arith}
use Rattle.sector.proofs.DirectoryLaws.{directories_two, directories_one}
use Rattle.sector.proofs.directories.directory_count.Goals as goal

pub returns-then-layout : goal.returns-then-layout
returns-then-layout c = (λ image. sym (directories_two c.args.layout image c.if-layout.true), omega arith)

pub returns : goal.returns
returns c = (λ image. sym (directories_one c.args.layout image c.if-layout.false), omega arith)

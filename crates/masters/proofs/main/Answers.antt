-- `masters::main`: nothing is entered into a table of zeros. Assumes nothing.
use Rattle.sums.proofs.TableLaws.{table_empty}
use Rattle.masters.proofs.main.Goals as goal

pub run-requires : goal.run-requires
run-requires c = table_empty 131072

-- `summarizing::number_count` meets its contract: the numbers are at most as many as the bytes. Assumes nothing.
use native.Mathlib.Omega.{arith}
use mathlib.Core.Logic.{inl}
use mathlib.Core.Path.{ap}
use lib.ListN.{length}
use Rattle.rules.proofs.Index.{numbers_inside}
use Rattle.summarizing.proofs.number_count.Goals as goal

pub count-requires-clause-fits : goal.count-requires-clause-fits
count-requires-clause-fits c = inl (omega (arith, ap length c.numbers_of.ensures, numbers_inside c.args.index.now))

-- `masters::put_middle` meets its contract: in each case the piece laid is its text. Assumes nothing.
use Rattle.std.proofs.Common.{arith}
use Rattle.line.specs.Letters.{letters}
use Rattle.line.proofs.LaidLaws.{laid_as}
use Rattle.masters.specs.Line.{middle_of}
use Rattle.masters.proofs.put_middle.Goals as goal

pub returns-in-Nothing : goal.returns-in-Nothing
unfolding middle_of letters
returns-in-Nothing c = laid_as (rw c.in-Nothing.is) (omega arith) c.put.ensures

pub returns-in-Place : goal.returns-in-Place
unfolding middle_of
returns-in-Place c = let laid = c.put_number.ensures in laid_as (rw c.in-Place.is) laid.short laid

pub returns-in-Sum : goal.returns-in-Sum
unfolding middle_of
returns-in-Sum c = let laid = c.put_sum.ensures in laid_as (rw c.in-Sum.is) (omega (arith, laid.short)) laid

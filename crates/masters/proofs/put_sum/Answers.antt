-- `masters::put_sum` meets its contract: one piece of seventeen bytes. Assumes nothing.
use Rattle.std.proofs.Common.{refl, arith}
use Rattle.line.proofs.LaidLaws.{laid_as}
use Rattle.masters.specs.Line.{sum_text}
use Rattle.masters.proofs.put_sum.Goals as goal

pub returns : goal.returns
unfolding sum_text
returns c = laid_as (rw (c.hex_digit.ensures, c.hex_digit-2.ensures, c.hex_digit-3.ensures, c.hex_digit-4.ensures, c.hex_digit-5.ensures, c.hex_digit-6.ensures, c.hex_digit-7.ensures, c.hex_digit-8.ensures, c.hex_digit-9.ensures, c.hex_digit-10.ensures, c.hex_digit-11.ensures, c.hex_digit-12.ensures, c.hex_digit-13.ensures, c.hex_digit-14.ensures, c.hex_digit-15.ensures, c.hex_digit-16.ensures) refl) (omega arith) c.put.ensures

-- `console::mark::mark_by` meets its contract: a fault of the image has one digit, and every other refusal has none. Assumes nothing.
use Rattle.console.specs.Mark.{digit_of, answer_digit}
use Rattle.console.proofs.Marks.{fault_digit, other_digit}
use Rattle.console.proofs.mark.mark_by.Goals as goal

pub returns-in-Unsound : goal.returns-in-Unsound
unfolding digit_of answer_digit
returns-in-Unsound g c = rw (c.in-Err.is, c.in-Unsound.is) (fault_digit c.in-Unsound.fault)

pub returns-in_default : goal.returns-in_default
unfolding digit_of answer_digit
returns-in_default g c = rw c.in-Err.is (other_digit c.in-Err.refusal c.in_default.not-Unsound)

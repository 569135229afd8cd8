-- `pnoelithe::pno_judge` meets its contract: the judge's number, by the layout that its bits say. Assumes nothing.
use mathlib.Core.Path.{◌∙◌}
use Rattle.pnoelithe.proofs.pno_judge.Goals as goal

pub returns : goal.returns
returns c = rw (← c.layout_of.ensures) (c.judged_number.ensures ∙ c.judge.ensures)

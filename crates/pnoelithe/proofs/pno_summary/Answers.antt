-- `pnoelithe::pno_summary` meets its contract: each case of the answer says its number, and its values go behind their pointers. Assumes nothing.
use mathlib.Core.Path.{refl, sym, ◌∙◌}
use Rattle.rules.specs.Calls.Summary.{SummarySays}
use Rattle.rules.proofs.Outcome.{behind_given}
use Rattle.rules.proofs.Refusals.{bare_said}
use Rattle.pnoelithe.proofs.Crossings.{refused_kept}
use Rattle.pnoelithe.proofs.pno_summary.Goals as goal

pub returns-in-Err : goal.returns-in-Err
unfolding SummarySays
returns-in-Err c =
    let gives = c.summary.ensures in
    let said = bare_said _ _ (rw c.in-Err.is at gives.said) in
    let number = c.from.ensures in
    record {
      name = rw (← c.layout_of.ensures, number) (record { returned = said.0; left = gives.left });
      sectors = rw number (refused_kept _ _ _ _ said);
      count = rw (← c.layout_of.ensures, number) (refused_kept _ _ _ _ said);
      free = rw number (refused_kept _ _ _ _ said);
    }

pub returns-in-Ok : goal.returns-in-Ok
unfolding SummarySays
returns-in-Ok c =
    let gives = c.summary.ensures in
    let said = rw c.in-Ok.is at gives.said in
    record {
      name = rw (← c.layout_of.ensures) (record { returned = sym said.0; left = gives.left });
      sectors = said.1 ∙ sym (behind_given 0 _ _ refl);
      count = rw (← c.layout_of.ensures) (said.2 ∙ sym (behind_given 0 _ _ refl));
      free = said.3 ∙ sym (behind_given 0 _ _ refl);
    }

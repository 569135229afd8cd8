-- `pnoelithe::pno_entry` meets its contract: each case of the answer says its number, and the row's values go behind their pointers. Assumes nothing.
use mathlib.Core.Path.{refl, sym, ap, ◌∙◌}
use Rattle.rules.specs.Outcome.{AnswerSays}
use Rattle.rules.specs.Calls.Entry.{row_of, no_row, entry_row, entry_of}
use Rattle.rules.specs.Calls.Listing.{kind_length}
use Rattle.rules.specs.declared.Row.{Row}
use Rattle.rules.proofs.Tests.{unless_passed}
use Rattle.rules.proofs.Outcome.{behind_given}
use Rattle.rules.proofs.Refusals.{bare_said}
use Rattle.pnoelithe.specs.Crossing.{kind_number, flag}
use Rattle.pnoelithe.proofs.Crossings.{refused_kept, flag_is}
use Rattle.pnoelithe.proofs.pno_entry.Goals as goal

pub returns-in-Err : goal.returns-in-Err
unfolding AnswerSays
returns-in-Err c =
    let gives = c.entry.ensures in
    let said = bare_said _ _ (rw c.in-Err.is at gives.said.said) in
    let number = c.from-in-Err.ensures in
    record {
      header = rw (← c.layout_of.ensures, number) (record { returned = said.0; left = gives.left });
      kind = rw (← c.layout_of.ensures, number) (refused_kept _ _ _ _ said);
      size = rw (← c.layout_of.ensures, number) (refused_kept _ _ _ _ said);
      sectors = rw (← c.layout_of.ensures, number) (refused_kept _ _ _ _ said);
      protection = rw (← c.layout_of.ensures, number) (refused_kept _ _ _ _ said);
    }

pub returns-in-Ok : goal.returns-in-Ok
unfolding AnswerSays row_of entry_row entry_of
returns-in-Ok c =
    let gives = c.entry.ensures in
    let said = rw c.in-Ok.is at gives.said.said in
    let row = (rw c.in-Ok.is at gives.said.row_is) ∙ unless_passed _ _ no_row said in
    record {
      header = rw (← c.layout_of.ensures) (record { returned = sym said; left = gives.left });
      kind = rw (← c.layout_of.ensures) (c.kind_number.ensures ∙ ap (λ (r : Row). kind_number r.kind) row ∙ sym (behind_given 0 _ _ refl));
      size = rw (← c.layout_of.ensures) (c.kind_length.ensures ∙ ap (λ (r : Row). kind_length r.kind) row ∙ sym (behind_given 0 _ _ refl));
      sectors = rw (← c.layout_of.ensures) (ap (λ (r : Row). r.sectors) row ∙ sym (behind_given 0 _ _ refl));
      protection = rw (← c.layout_of.ensures) (c.from.ensures ∙ flag_is _ ∙ ap (λ (r : Row). flag r.protected) row ∙ sym (behind_given 0 _ _ refl));
    }

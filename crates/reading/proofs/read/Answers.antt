-- `reading::read` meets its contract: a refusal of the opening is passed on, and a file that is there is read. Assumes nothing.
use Rattle.rules.specs.Outcome.{ReadSays}
use Rattle.rules.specs.Calls.Read.{read_of}
use Rattle.rules.proofs.Opening.{file_passed, file_absent, on_found, looked_found, looked_none}
use Rattle.rules.proofs.Refusals.{err_is, ok_there, err_absent}
use Rattle.reading.proofs.read.Goals as goal

pub returns-in_err-looked : goal.returns-in_err-looked
unfolding read_of
returns-in_err-looked c =
    rw (err_is c.from_residual.result _ c.from_residual.ensures.1) (file_passed _ _ _ _ c.args.out.now _ _ c.in_err-looked.ensures)

pub returns-in_err-file : goal.returns-in_err-file
unfolding read_of
returns-in_err-file c =
    let absent = err_absent _ _ _ c.in_err-file.ensures.value in
    rw (err_is c.from_residual-in_err-file.result _ c.from_residual-in_err-file.ensures.1, absent.1) (file_absent _ _ _ _ c.args.out.now _ _ (looked_none c.in_ok-looked.ensures absent.0))

pub returns : goal.returns
unfolding read_of
returns c =
    on_found _ _ _ _ _ _ ReadSays _ _ _ (looked_found c.in_ok-looked.ensures (ok_there _ _ _ c.in_ok-file.ensures.value)) _ _ c.read_at.ensures

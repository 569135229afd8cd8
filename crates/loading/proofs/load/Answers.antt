-- `loading::load` meets its contract: a refusal of the opening is passed on, and a file that is there is loaded. Assumes nothing.
use Rattle.rules.specs.Outcome.{NamedAmountSays}
use Rattle.rules.specs.Calls.Load.{load_of}
use Rattle.rules.proofs.Opening.{load_passed, load_absent, on_found, looked_found, looked_none}
use Rattle.rules.proofs.Refusals.{err_is, ok_there, err_absent}
use Rattle.loading.proofs.load.Goals as goal

pub returns-in_err-looked : goal.returns-in_err-looked
unfolding load_of
returns-in_err-looked c =
    rw (err_is c.from_residual.result _ c.from_residual.ensures.1) (load_passed _ _ _ _ c.args.out.now _ _ c.in_err-looked.ensures)

pub returns-in_err-file : goal.returns-in_err-file
unfolding load_of
returns-in_err-file c =
    let absent = err_absent _ _ _ c.in_err-file.ensures.value in
    rw (err_is c.from_residual-in_err-file.result _ c.from_residual-in_err-file.ensures.1, absent.1) (load_absent _ _ _ _ c.args.out.now _ _ (looked_none c.in_ok-looked.ensures absent.0))

pub returns : goal.returns
unfolding load_of
returns c =
    on_found _ _ _ _ _ _ NamedAmountSays _ _ _ (looked_found c.in_ok-looked.ensures (ok_there _ _ _ c.in_ok-file.ensures.value)) _ _ c.load_at.ensures

-- `appending::append` meets its contract: a refusal of the opener is passed on, and so is what is said where the file is there or is not. Assumes nothing.
use mathlib.Core.Path.{◌≡◌}
use Rattle.rules.specs.Opening.{open_of}
use Rattle.rules.specs.Calls.Append.{append_of}
use Rattle.rules.specs.Answers.Opened.{At}
use Rattle.rules.proofs.Refusals.{err_is, ok_there, err_absent}
use Rattle.rules.proofs.Opening.{looked_found, looked_none, is_file, change_passed, change_absent, change_found}
use Rattle.appending.proofs.append.Goals as goal
use Rattle.appending.proofs.append.Goals.{In_ok-file}

found : (c : In_ok-file) →
    let a = c.args in
    let file = c.in_ok-file.file in
    open_of a.layout a.image.now a.directory a.name.now ≡ At c.in_ok-looked.looked.index file.place file.sector
found c = looked_found c.in_ok-looked.ensures (ok_there _ c.in_ok-looked.looked.file c.in_ok-file.file c.in_ok-file.ensures.value)

pub append_at-requires : goal.append_at-requires
append_at-requires c = (_, is_file _ _ _ _ _ _ _ (found (goal.at.append_at-requires c).In_ok-file))

pub returns-in_err-looked : goal.returns-in_err-looked
unfolding append_of
returns-in_err-looked c =
    let both = change_passed _ c.args.image.now c.args.changes.now _ _ _ _ c.in_err-looked.ensures in
    rw (err_is c.from_residual.result _ c.from_residual.ensures.1) (record { meets = both.0; order = both.1 })

pub returns-in_err-file : goal.returns-in_err-file
unfolding append_of
returns-in_err-file c =
    let absent = err_absent _ c.in_ok-looked.looked.file c.in_err-file.field-0.0 c.in_err-file.ensures.value in
    let both = change_absent _ c.args.image.now c.args.changes.now _ _ _ _ (looked_none c.in_ok-looked.ensures absent.0) in
    rw (err_is c.from_residual-in_err-file.result _ c.from_residual-in_err-file.ensures.1, absent.1) (record { meets = both.0; order = both.1 })

pub returns : goal.returns
unfolding append_of
returns c =
    let both = change_found _ _ _ _ _ _ _ _ _ (found (goal.at.returns c).In_ok-file) _ _ _ (c.append_at.ensures.meets, c.append_at.ensures.order) in
    record { meets = both.0; order = both.1 }

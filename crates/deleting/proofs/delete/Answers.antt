-- `deleting::delete` meets its contract: what the opener refuses, and the file's deletion. Assumes nothing.
use mathlib.Core.Path.{◌≡◌}
use Rattle.rules.specs.Opening.{open_of}
use Rattle.rules.specs.Calls.Delete.{delete_of}
use Rattle.rules.specs.Answers.Opened.{At}
use Rattle.rules.proofs.Opening.{looked_found, looked_none, change_passed, change_absent, change_found, is_file}
use Rattle.rules.proofs.Refusals.{err_is, ok_there, err_absent}
use Rattle.deleting.proofs.delete.Goals as goal
use Rattle.deleting.proofs.delete.Goals.{In_ok-file}

found : (c : In_ok-file) →
    let a = c.args in
    let file = c.in_ok-file.file in
    open_of a.layout a.image.now a.directory a.name.now ≡ At c.in_ok-looked.looked.index file.place file.sector
found c = looked_found c.in_ok-looked.ensures (ok_there _ c.in_ok-looked.looked.file c.in_ok-file.file c.in_ok-file.ensures.value)

pub returns-in_err-looked : goal.returns-in_err-looked
unfolding delete_of
returns-in_err-looked c =
    let both = change_passed _ c.args.image.now c.args.changes.now _ _ _ c.in_err-looked.field-0.0 c.in_err-looked.ensures in
    record { meets = rw (err_is c.from_residual.result _ c.from_residual.ensures.1) both.0; order = both.1 }

pub returns-in_err-file : goal.returns-in_err-file
unfolding delete_of
returns-in_err-file c =
    let absent = err_absent _ c.in_ok-looked.looked.file c.in_err-file.field-0.0 c.in_err-file.ensures.value in
    let both = change_absent _ c.args.image.now c.args.changes.now _ _ _ _ (looked_none c.in_ok-looked.ensures absent.0) in
    record { meets = rw (err_is c.from_residual-in_err-file.result _ c.from_residual-in_err-file.ensures.1, absent.1) both.0; order = both.1 }

pub delete_at-requires : goal.delete_at-requires
delete_at-requires c = is_file _ _ _ _ _ _ _ (found (goal.at.delete_at-requires c).In_ok-file)

pub returns : goal.returns
unfolding delete_of
returns c =
    let both = change_found _ _ _ _ _ _ _ _ _ (found (goal.at.returns c).In_ok-file) _ _ _ (c.delete_at.ensures.meets, c.delete_at.ensures.order) in
    record { meets = both.0; order = both.1 }

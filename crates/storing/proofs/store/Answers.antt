-- `storing::store` meets its contract: a refusal of the opener is passed on, and so is what is said where the name is there or is not. Assumes nothing.
use mathlib.Core.Path.{◌≡◌, sym}
use Rattle.rules.specs.Opening.{open_of}
use Rattle.rules.specs.Calls.Store.{store_of}
use Rattle.rules.specs.Answers.Opened.{Absent}
use Rattle.rules.proofs.Refusals.{err_is, some_is, none_is}
use Rattle.rules.proofs.Opening.{looked_found, looked_none, absent_is, add_passed, add_present, add_absent}
use Rattle.storing.proofs.store.Goals as goal
use Rattle.storing.proofs.store.Goals.{Else-is_some}

absent : (c : Else-is_some) →
    let a = c.args in
    open_of a.layout a.image.now a.directory a.name.now ≡ Absent c.in_ok-looked.looked.index
absent c = looked_none c.in_ok-looked.ensures (none_is _ (sym c.if-is_some.ensures))

pub returns-in_err-looked : goal.returns-in_err-looked
unfolding store_of
returns-in_err-looked c =
    let both = add_passed _ c.args.image.now c.args.changes.now _ _ _ _ c.in_err-looked.ensures in
    rw (err_is c.from_residual.result _ c.from_residual.ensures.1) (record { meets = both.0; order = both.1 })

pub returns-then-is_some : goal.returns-then-is_some
unfolding store_of
returns-then-is_some c =
    let there = some_is _ (sym c.if-is_some.ensures) in
    let both = add_present _ c.args.image.now c.args.changes.now _ _ _ _ _ _ (looked_found c.in_ok-looked.ensures there.1) in
    record { meets = both.0; order = both.1 }

pub store_new-requires : goal.store_new-requires
store_new-requires c = let is = absent_is _ _ _ _ _ (absent (goal.at.store_new-requires c).Else-is_some) in (is.whole, is.indexed, is.rule)

pub returns : goal.returns
unfolding store_of
returns c =
    let both = add_absent _ _ _ _ _ _ _ (absent (goal.at.returns c).Else-is_some) _ _ _ (c.store_new.ensures.meets, c.store_new.ensures.order) in
    record { meets = both.0; order = both.1 }

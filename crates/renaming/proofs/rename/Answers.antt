-- `renaming::rename` meets its contract: the fault of an unsound volume, then the place where the old name is wrong, then the new one's, then what the search for the old one in the directory gives. Assumes nothing.
use mathlib.Core.Path.{◌≡◌, refl, sym, ap, ◌∙◌}
use mathlib.Core.List.{List}
use Prim.Native.Nat.{ℕ}
use native.Mathlib.Omega.{arith}
use Rattle.std.specs.Prelude.{None, Some}
use Rattle.rules.specs.Name.{wrong_place}
use Rattle.rules.specs.Verdict.{verdict}
use Rattle.rules.specs.Outcome.{RenameSays}
use Rattle.rules.specs.Opening.{in_directory}
use Rattle.rules.specs.Refusal.{fault_number}
use Rattle.rules.specs.Calls.Rename.{open_both, renaming, rename_of}
use Rattle.rules.specs.declared.Layout.{Layout}
use Rattle.rules.specs.Answers.RenameAnswer as renamed
use Rattle.rules.specs.Answers.Opened.{At, Refused, Misnamed}
use Rattle.rules.proofs.Verdict.{verdict_small}
use Rattle.rules.proofs.Misnamed.{none_rule}
use Rattle.rules.proofs.Outcome.{bare, meets_refusal}
use Rattle.rules.proofs.Opening.{looked_found, looked_none, on_unsound, on_sound_lem, under_wrong, under_kept, open_looked, is_file, changing_refused, changing_misnamed, changing_absent, changing_found}
use Rattle.rules.proofs.Refusals.{fault_some, err_is, ok_there, err_absent}
use Rattle.renaming.proofs.Lost.{lost_eight}
use Rattle.renaming.proofs.rename.Goals as goal
use Rattle.renaming.proofs.rename.Goals.{In_ok-file, In_ok-judge, In_default, In_default-wrong_place}

-- what is opened, test by test
module _ (layout : Layout) (image : List ℕ) (directory : ℕ) (old new : List ℕ) where
  unsound : (verdict layout image ≡ 0 → ⊥) → open_both layout image directory old new ≡ Refused (verdict layout image)
  unfolding open_both
  unsound some = on_unsound layout image _ some

  module _ (sound : verdict layout image ≡ 0) where
    misnamed : (place : ℕ) → wrong_place old ≡ Some place → open_both layout image directory old new ≡ Misnamed place
    unfolding open_both
    misnamed place there = on_sound_lem layout image _ sound ∙ under_wrong old _ place there

    module _ (kept : wrong_place old ≡ None) where
      misnamed_new : (place : ℕ) → wrong_place new ≡ Some place → open_both layout image directory old new ≡ Misnamed place
      unfolding open_both
      misnamed_new place there = on_sound_lem layout image _ sound ∙ under_kept old _ kept ∙ under_wrong new _ place there

      looked : wrong_place new ≡ None → open_both layout image directory old new ≡ in_directory layout image directory old
      unfolding open_both
      looked kept_new = on_sound_lem layout image _ sound ∙ under_kept old _ kept ∙ under_kept new _ kept_new

sound : (c : In_ok-judge) → verdict c.args.layout c.args.image.now ≡ 0
sound c = sym c.in_ok-judge.ensures

kept : (c : In_default) → wrong_place c.args.old.now ≡ None
kept c = sym c.wrong_place.ensures ∙ c.in_default.is

kept_new : (c : In_default-wrong_place) → wrong_place c.args.new.now ≡ None
kept_new c = sym c.wrong_place-2.ensures ∙ c.in_default-wrong_place.is

-- both names passed: what is opened is what the search gives
opens : (c : In_default-wrong_place) →
    let a = c.args in
    open_both a.layout a.image.now a.directory a.old.now a.new.now ≡ in_directory a.layout a.image.now a.directory a.old.now
opens c = looked _ _ _ _ _ (sound (goal.at.In_default-wrong_place c).In_ok-judge) (kept (goal.at.In_default-wrong_place c).In_default) (kept_new c)

found : (c : In_ok-file) →
    let a = c.args in
    let file = c.in_ok-file.file in
    in_directory a.layout a.image.now a.directory a.old.now ≡ At c.in_ok-looked.looked.index file.place file.sector
found c = looked_found c.in_ok-looked.ensures (ok_there _ c.in_ok-looked.looked.file c.in_ok-file.file c.in_ok-file.ensures.value)

pub returns-in_err-judge : goal.returns-in_err-judge
unfolding rename_of RenameSays
returns-in_err-judge c =
    let image = c.args.image.now in
    let fault = c.in_err-judge.field-0.0 in
    let is = c.in_err-judge.ensures in
    let some = fault_some fault in
    let both = meets_refusal (RenameSays _ _) (renamed.Refused (fault_number fault)) image c.args.changes.now _ (fault_number fault)
    (refl, some, λ z. omega (arith, z, is, verdict_small c.args.layout image))
    (changing_refused _ _ _ (unsound _ _ _ _ _ (λ z. some (is ∙ z)) ∙ ap Refused (sym is))) in
    record { meets = rw (err_is c.from_residual.result _ c.from_residual.ensures.1) both.0; order = both.1 }

pub returns-in-Some : goal.returns-in-Some
unfolding rename_of RenameSays
returns-in-Some c =
    let there = sym c.wrong_place.ensures ∙ c.in-Some.is in
    let both = meets_refusal (RenameSays _ _) (renamed.OldMisnamed _) c.args.image.now c.args.changes.now _ 7 (refl, there)
    (changing_misnamed _ _ _ (misnamed _ _ _ _ _ (sound (goal.at.returns-in-Some c).In_ok-judge) _ there)) in
    record { meets = both.0; order = both.1 }

pub returns-in-Some-wrong_place : goal.returns-in-Some-wrong_place
unfolding rename_of RenameSays
returns-in-Some-wrong_place c =
    let there = sym c.wrong_place-2.ensures ∙ c.in-Some-wrong_place.is in
    let old = kept (goal.at.returns-in-Some-wrong_place c).In_default in
    let both = meets_refusal (RenameSays _ _) (renamed.NewMisnamed _) c.args.image.now c.args.changes.now _ 7 (refl, old, there)
    (changing_misnamed _ _ _ (misnamed_new _ _ _ _ _ (sound (goal.at.returns-in-Some-wrong_place c).In_ok-judge) old _ there)) in
    record { meets = both.0; order = both.1 }

pub returns-in_err-looked : goal.returns-in_err-looked
unfolding rename_of RenameSays
returns-in_err-looked c =
    let eight = lost_eight _ _ _ _ c.in_err-looked.field-0.0 c.in_err-looked.ensures in
    let both = meets_refusal (RenameSays _ _) (renamed.Refused 8) c.args.image.now c.args.changes.now _ 8 (bare 8 refl)
    (changing_refused _ _ _ (opens (goal.at.returns-in_err-looked c).In_default-wrong_place ∙ eight.1)) in
    record { meets = rw (err_is c.from_residual-in_err-looked.result _ c.from_residual-in_err-looked.ensures.1, eight.0) both.0; order = both.1 }

pub returns-in_err-file : goal.returns-in_err-file
unfolding rename_of RenameSays
returns-in_err-file c =
    let absent = err_absent _ c.in_ok-looked.looked.file c.in_err-file.field-0.0 c.in_err-file.ensures.value in
    let both = meets_refusal (RenameSays _ _) (renamed.Refused 8) c.args.image.now c.args.changes.now _ 8 (bare 8 refl)
    (changing_absent _ _ _ (opens (goal.at.returns-in_err-file c).In_default-wrong_place ∙ looked_none c.in_ok-looked.ensures absent.0)) in
    record { meets = rw (err_is c.from_residual-in_err-file.result _ c.from_residual-in_err-file.ensures.1, absent.1) both.0; order = both.1 }

pub rename_at-requires : goal.rename_at-requires
rename_at-requires c =
    (is_file _ _ _ _ _ _ _ (open_looked _ _ _ _ (sound (goal.at.rename_at-requires c).In_ok-judge) (kept (goal.at.rename_at-requires c).In_default) ∙ found (goal.at.rename_at-requires c).In_ok-file), none_rule _ (kept_new (goal.at.rename_at-requires c).In_default-wrong_place))

-- what the call is, once both names passed and the file is there
renames : (c : In_ok-file) →
    let a = c.args in
    let file = c.in_ok-file.file in
    rename_of a.layout a.image.now a.directory a.old.now a.new.now ≡ renaming a.layout a.image.now a.new.now c.in_ok-looked.looked.index file.sector
unfolding rename_of
renames c = changing_found _ _ _ _ _ (opens (goal.at.In_ok-file c).In_default-wrong_place ∙ found c)

pub returns : goal.returns
returns c =
    let is = renames (goal.at.returns c).In_ok-file in
    let kept_old = kept (goal.at.returns c).In_default in
    let kept_second = kept_new (goal.at.returns c).In_default-wrong_place in
    record { meets = rw (kept_old, kept_second, is) c.rename_at.ensures.meets; order = rw is c.rename_at.ensures.order }

-- `protecting::set_bit` meets its contract: what the opener refuses, and the byte set in the image, which is the byte set in its sector. Assumes nothing.
use mathlib.Core.Path.{◌≡◌, refl, sym, ap, ◌∙◌}
use mathlib.Core.List.{[], ◌∷◌}
use Prim.Native.Nat.{ℕ, ◌+◌, ◌*◌, ◌≤◌}
use native.Mathlib.Omega.{arith}
use lib.ListN.{length, get_or, set}
use Rattle.rules.specs.Bytes.{with_bit}
use Rattle.rules.specs.Sectors.{sectors_in, sector_of, written}
use Rattle.rules.specs.Descriptor.{status_of}
use Rattle.rules.specs.Outcome.{write}
use Rattle.rules.specs.Opening.{open_of}
use Rattle.rules.specs.Calls.Protect.{setting_bit, set_bit_of}
use Rattle.rules.specs.Answers.Opened.{At}
use Rattle.rules.proofs.Sectors.{sector_byte, sector_set}
use Rattle.rules.proofs.Outcome.{order_laid, done_meets}
use Rattle.rules.proofs.Opening.{looked_found, looked_none, change_passed, change_absent, change_found, is_file, in_volume}
use Rattle.rules.proofs.Refusals.{err_is, ok_there, err_absent}
use Rattle.std.proofs.Common.{rules}
use Rattle.protecting.proofs.set_bit.Goals as goal
use Rattle.protecting.proofs.set_bit.Goals.{In_ok-file}

found : (c : In_ok-file) →
    let a = c.args in
    let file = c.in_ok-file.file in
    open_of a.layout a.image.now a.directory a.name.now ≡ At c.in_ok-looked.looked.index file.place file.sector
found c = looked_found c.in_ok-looked.ensures (ok_there _ c.in_ok-looked.looked.file c.in_ok-file.file c.in_ok-file.ensures.value)

-- the descriptor is inside the image
inside : (c : In_ok-file) → 256 * c.in_ok-file.file.sector + 256 ≤ length c.args.image.now
inside c =
    let file = is_file _ _ _ _ _ _ _ (found c) in
    omega (arith, in_volume _ _ _ _ file, file.sound.whole)

pub returns-in_err-looked : goal.returns-in_err-looked
unfolding set_bit_of
returns-in_err-looked c =
    let both = change_passed _ c.args.image.now c.args.changes.now _ _ _ c.in_err-looked.field-0.0 c.in_err-looked.ensures in
    record { meets = rw (err_is c.from_residual.result _ c.from_residual.ensures.1) both.0; order = both.1 }

pub returns-in_err-file : goal.returns-in_err-file
unfolding set_bit_of
returns-in_err-file c =
    let absent = err_absent _ c.in_ok-looked.looked.file c.in_err-file.field-0.0 c.in_err-file.ensures.value in
    let both = change_absent _ c.args.image.now c.args.changes.now _ _ _ _ (looked_none c.in_ok-looked.ensures absent.0) in
    record { meets = rw (err_is c.from_residual-in_err-file.result _ c.from_residual-in_err-file.ensures.1, absent.1) both.0; order = both.1 }

pub bounds-image-at : goal.bounds-image-at
bounds-image-at c = omega (arith, c.from.ensures, inside (goal.at.bounds-image-at c).In_ok-file)

pub bounds-image-at-2 : goal.bounds-image-at-2
bounds-image-at-2 c = omega (arith, c.from.ensures, inside (goal.at.bounds-image-at-2 c).In_ok-file)

pub returns : goal.returns
unfolding set_bit_of setting_bit written sectors_in
returns c =
    let a = c.args in
    let image = a.image.now in
    let k = c.in_ok-file.file.sector in
    let d = sector_of image k in
    let writes = write k (set d 12 (with_bit (status_of d) a.j a.bit)) ∷ [] in
    let status = c.with_bit.ensures ∙ ap (λ (at : ℕ). with_bit (get_or image (256 * at + 12) 0) a.j a.bit) c.from.ensures ∙ ap (λ (b : ℕ). with_bit b a.j a.bit) (sym (sector_byte image k 12 (omega arith))) in
    let both = change_found _ image _ _ _ _ _ _ _ (found (goal.at.returns c).In_ok-file) _ _ _
    (done_meets image _ _ writes _ _ refl (rw (c.from.ensures, status) (sym (sector_set image k 12 (with_bit (status_of d) a.j a.bit) (omega arith)))) (rw c.from-2.ensures at c.list.ensures ∙ order_laid _ writes (search rules))) in
    record { meets = both.0; order = both.1 }

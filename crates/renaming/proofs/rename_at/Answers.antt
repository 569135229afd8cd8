-- `renaming::rename_at` meets its contract: a file of the new name in the index refuses it; where there is none, the descriptor marked, the name laid over it and the index anew are the definition's writes. Assumes nothing.
use mathlib.Core.Path.{◌≡◌, refl, sym, ap, ◌∙◌}
use mathlib.Core.Bool.{true, false}
use mathlib.Core.List.{List, [], ◌∷◌}
use Prim.Native.Nat.{ℕ, ◌+◌, ◌*◌, ◌≤◌}
use native.Mathlib.Omega.{arith}
use lib.ListN.{length}
use Rattle.std.specs.Prelude.{Option, None, Some, is_some}
use Rattle.rules.specs.Bytes.{splice}
use Rattle.rules.specs.Kind.{is_protected}
use Rattle.rules.specs.Sectors.{Write, sectors_in, written, sector_of}
use Rattle.rules.specs.Descriptor.{status_of, marked_by}
use Rattle.rules.specs.Index.{index_of, without}
use Rattle.rules.specs.Volume.{files_in, placed}
use Rattle.rules.specs.Tests.{first_of, unless_met}
use Rattle.rules.specs.Outcome.{write, RenameSays, Outcome, refusal}
use Rattle.rules.specs.Opening.{find_in, adding}
use Rattle.rules.specs.Refusal.{looked_for}
use Rattle.rules.specs.Calls.Rename.{rename_tests, renaming_in, renaming}
use Rattle.rules.specs.declared.FileAt.{FileAt}
use Rattle.rules.specs.declared.Layout.{Layout}
use Rattle.rules.specs.Answers.RenameAnswer.{Done, Refused}
use Rattle.rules.specs.Answers.Opened.{Opened}
use Rattle.rules.specs.Answers.Opened.{Absent}
use Rattle.rules.proofs.Tests.{absurd_test}
use Rattle.rules.proofs.Splice.{splice_over}
use Rattle.rules.proofs.Sectors.{sector_length}
use Rattle.rules.proofs.Name.{name_is}
use Rattle.rules.proofs.Marks.{mark_length}
use Rattle.rules.proofs.Outcome.{bare, order_laid, meets_refusal, meets_done}
use Rattle.rules.proofs.Opening.{in_volume, adding_present, adding_absent}
use Rattle.std.proofs.Common.{rules}
use Rattle.renaming.proofs.rename_at.Goals as goal
use Rattle.renaming.proofs.rename_at.Goals.{After-is_protected, After-moved, Else-is_some}

-- what was looked for, by whether it is there
module _ (i : ℕ) (file : Option FileAt) (opened : Opened) (is : looked_for i file ≡ opened) where
  taken : is_some file ≡ true → (addition : ℕ → Outcome) → adding opened addition ≡ refusal 9
  taken there addition = go file is there
    where
      go : (f : Option FileAt) → looked_for i f ≡ opened → is_some f ≡ true → adding opened addition ≡ refusal 9
      go None e t = absurd_test (sym t)
      go (Some f) e t = adding_present opened addition i f.place f.sector (sym e)

  free : is_some file ≡ false → opened ≡ Absent i
  free none = go file is none
    where
      go : (f : Option FileAt) → looked_for i f ≡ opened → is_some f ≡ false → opened ≡ Absent i
      go None e t = sym e
      go (Some f) e t = absurd_test t

-- what is written, first the descriptor and then the index
abbrev writes : Layout → (image new : List ℕ) → ℕ → ℕ → List Write
writes layout image new i k = write k (splice (marked_by layout (sector_of image k)) 0 new) ∷ (write i (index_of (placed image new k (without k (files_in image i)))) ∷ [])

both : (layout : Layout) (image new one two index : List ℕ) (i k : ℕ) → one ≡ splice image (256 * k) (splice (marked_by layout (sector_of image k)) 0 new)
    → index ≡ index_of (placed image new k (without k (files_in image i))) → two ≡ splice one (256 * i) index → two ≡ written image (writes layout image new i k)
unfolding written
both layout image new one two index i k first made second = rw (second, first, made)

absent : (c : Else-is_some) →
    let a = c.args in
    find_in a.image.now a.i a.new.now ≡ Absent a.i
absent c = free _ c.find_in.result _ c.find_in.ensures (sym c.is_some.ensures ∙ c.if-is_some.false)

protected_is : (c : After-is_protected) → c.is_protected.result ≡ is_protected (status_of (sector_of c.args.image.now c.args.k))
protected_is c = c.is_protected.ensures ∙ ap (λ (s : List ℕ). is_protected (status_of s)) c.descriptor_of.ensures

pub returns-then-is_some : goal.returns-then-is_some
unfolding renaming RenameSays
returns-then-is_some c =
    let both = meets_refusal (RenameSays None None) (Refused 9) c.args.image.now c.args.changes.now _ 9 (bare 9 refl) (taken _ c.find_in.result _ c.find_in.ensures (sym c.is_some.ensures ∙ c.if-is_some.true) _) in
    record { meets = both.0; order = both.1 }

pub returns-then-is_protected : goal.returns-then-is_protected
unfolding renaming renaming_in rename_tests first_of unless_met RenameSays
returns-then-is_protected c =
    let test = sym (protected_is (goal.at.returns-then-is_protected c).After-is_protected) ∙ c.if-is_protected.true in
    let both = meets_refusal (RenameSays None None) (Refused 10) c.args.image.now c.args.changes.now _ 10 (bare 10 refl) (adding_absent _ _ _ (absent (goal.at.returns-then-is_protected c).Else-is_some) ∙ rw test) in
    record { meets = both.0; order = both.1 }

-- the file's descriptor is inside the image
inside : (c : After-moved) → 256 * c.args.k + 256 ≤ length c.args.image.now
inside c = let file = c.requires.0 in omega (arith, in_volume _ _ _ _ file, file.sound.whole)

pub mark_descriptor-requires : goal.mark_descriptor-requires
mark_descriptor-requires c = omega (arith, c.from.ensures, inside (goal.at.mark_descriptor-requires c).After-moved)

pub returns : goal.returns
unfolding renaming renaming_in rename_tests first_of unless_met RenameSays sectors_in
returns c =
    let a = c.args in
    let image = a.image.now in
    let test = sym (protected_is (goal.at.returns c).After-is_protected) ∙ c.if-is_protected.false in
    let long = mark_length a.layout (sector_of image a.k) ∙ sector_length image a.k (inside (goal.at.returns c).After-moved) in
    let renamed =
    rw c.from-at.ensures at c.lay.ensures ∙ ap (λ (l : List ℕ). splice l (256 * a.k) a.new.now) (rw c.from.ensures at c.mark_descriptor.ensures)
    ∙ splice_over image (256 * a.k) (marked_by a.layout (sector_of image a.k)) a.new.now (omega (arith, (name_is _ c.requires.1).ten, long))
    in
    let changed = writes a.layout image a.new.now a.i a.k in
    let both = meets_done (RenameSays None None) Done image _ _ changed _ _ refl
    (adding_absent _ _ _ (absent (goal.at.returns c).Else-is_some) ∙ rw test)
    (both _ _ _ _ _ _ _ _ renamed c.moved.ensures c.write_sector.ensures)
    (rw (c.from-2.ensures, c.from-3.ensures) at c.list.ensures ∙ order_laid _ changed (search rules)) in
    record { meets = both.0; order = both.1 }

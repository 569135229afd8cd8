-- What becomes of an image that was read, by its mark and by what repair answered of it and left; and that a mended one is a sound volume. Assumes nothing.
use mathlib.Core.Path.{◌≡◌, refl, sym, ap, ◌∙◌}
use mathlib.Core.List.{List, []}
use mathlib.Core.Bool.{true, false}
use Rattle.std.specs.Prelude.{Option, Some, None, Result, Ok, Err, is_ok}
use Prim.Native.Nat.{ℕ, ◌+◌, ◌≤◌}
use native.Mathlib.Omega.{arith}
use lib.ListN.{length, take}
use borrow.Author.Tests.{eq-eqb, ne_eqb}
use borrow.Rule.Slice.PartMut.{put_mid}
use Rattle.rules.specs.Bytes.{part, splice}
use Rattle.rules.specs.Sectors.{written}
use Rattle.rules.specs.Verdict.{verdict}
use Rattle.rules.specs.Calls.Repair.{repair_tests, mending, repair_of}
use Rattle.rules.specs.Refusal.{judged}
use Rattle.rules.specs.declared.Layout.{Layout}
use Rattle.rules.specs.declared.refusal.Fault.{Fault}
use Rattle.rules.proofs.Bytes.{part_length}
use Rattle.rules.proofs.Splice.{splice_none, splice-part, splice_front, put_back}
use Rattle.rules.proofs.Tests.{absurd_test, unless_passed}
use Rattle.rules.proofs.Verdict.{verdict_sound}
use Rattle.rules.proofs.Refusals.{fault_some}
use Rattle.rules.proofs.Repair.{mendable}
use Rattle.rules.proofs.Mended.{mended_sound}
use Rattle.console.specs.Mark.{digit_of}
use Rattle.input.specs.Mark.{mark_of}
use Rattle.mend.specs.Mending.{fate_by, fate_of, mended_of, mended_over, SoundNow}
use Rattle.mend.specs.declared.Fate.TheVariants.{Sound, Mended, Refused}

-- what repair leaves where it is done is a sound volume
pub repaired_sound : (layout : Layout) (image : List ℕ) → (repair_of layout image).number ≡ 0 → verdict layout (written image (repair_of layout image).writes) ≡ 0
unfolding repair_of
repaired_sound layout image done =
    rw (unless_passed (repair_tests layout image) (mending layout image) [] done)
    ((verdict_sound layout (written image (mending layout image))).1 (mended_sound layout image (mendable layout image done)))

-- the front of a buffer laid over it
own_front : (buffer : List ℕ) (count : ℕ) → splice buffer 0 (part buffer 0 count) ≡ buffer
own_front buffer count =
    ap (splice buffer 0) (sym (splice_none (part buffer 0 count) 0)) ∙ splice-part buffer 0 count 0 [] (omega arith) ∙ splice_none buffer (0 + 0)

-- the judge's answer, where it is that of a sound volume and where it is not
pub judged_sound : (said : Result (Unit {0}) Fault) → is_ok said ≡ true → judged said ≡ 0
judged_sound (Ok sound) e = refl
judged_sound (Err fault) e = absurd_test (sym e)

pub judged_fault : (said : Result (Unit {0}) Fault) → is_ok said ≡ false → judged said ≡ 0 → ⊥
judged_fault (Ok sound) e none = absurd_test e
judged_fault (Err fault) e none = fault_some fault none

-- so many bytes were read
module _ (layout : Layout) (buffer : List ℕ) {received : Option ℕ} (count : ℕ) (gave : received ≡ Some count) where
  abbrev number : ℕ
  number = verdict layout (part buffer 0 count)

  -- its mark, and the same by what the judge said of it
  pub marked : (mark : ℕ) → mark ≡ mark_of layout received buffer → mark ≡ 48 + number
  unfolding mark_of
  marked mark is = is ∙ rw gave refl

  pub judged_mark : (said : Result (Unit {0}) Fault) (image : List ℕ) → judged said ≡ verdict layout image → image ≡ part buffer 0 count → digit_of (Some said) ≡ mark_of layout received buffer
  unfolding mark_of digit_of
  judged_mark said image is cut = rw (gave, is, cut)

  -- a sound one
  module _ (sound : number ≡ 0) where
    pub sound_fate : Sound ≡ fate_of layout received buffer
    unfolding fate_of fate_by
    sound_fate = rw (gave, eq-eqb number 0 sound) refl

    pub sound_stays : buffer ≡ mended_over layout received buffer
    unfolding mended_over mended_of
    sound_stays = rw (gave, eq-eqb number 0 sound) (sym (own_front buffer count))

  -- any other, by what repair says of it
  module _ (some : number ≡ 0 → ⊥) where
    pub mended_fate : (repair_of layout (part buffer 0 count)).number ≡ 0 → Mended count ≡ fate_of layout received buffer
    unfolding fate_of fate_by
    mended_fate done = rw (gave, ne_eqb number 0 some, eq-eqb (repair_of layout (part buffer 0 count)).number 0 done) refl

    pub refused_fate : ((repair_of layout (part buffer 0 count)).number ≡ 0 → ⊥) → Refused ≡ fate_of layout received buffer
    unfolding fate_of fate_by
    refused_fate refused = rw (gave, ne_eqb number 0 some, ne_eqb (repair_of layout (part buffer 0 count)).number 0 refused) refl

    -- and by what it leaves of the part that is lent to it
    module _ (room : count ≤ length buffer) (after : List ℕ) (left : after ≡ written (part buffer 0 count) (repair_of layout (part buffer 0 count)).writes)
        (kept : length after ≡ length (part buffer 0 count)) where
      long : length after ≡ count
      long = kept ∙ part_length buffer 0 count (omega arith)

      pub mended_over_lem : put_mid 0 count buffer after ≡ mended_over layout received buffer
      unfolding mended_over mended_of
      mended_over_lem = rw (gave, ne_eqb number 0 some) (put_back buffer after 0 count long (omega arith) ∙ ap (splice buffer 0) left)

      pub mended_now : (repair_of layout (part buffer 0 count)).number ≡ 0 → SoundNow layout (Mended count) (put_mid 0 count buffer after)
      unfolding SoundNow
      mended_now done =
          ap (λ (l : List ℕ). verdict layout (part l 0 count)) (put_back buffer after 0 count long (omega arith))
          ∙ ap (λ (m : ℕ). verdict layout (take m (splice buffer 0 after))) (sym long)
          ∙ ap (verdict layout) (splice_front buffer after (omega (arith, long)) ∙ left)
          ∙ repaired_sound layout (part buffer 0 count) done

-- by the mark alone: that of a sound volume, which nothing has that was not read
pub sound_by_mark : (layout : Layout) (received : Option ℕ) (buffer : List ℕ) → mark_of layout received buffer ≡ 48 → fate_of layout received buffer ≡ Sound
unfolding mark_of
sound_by_mark layout (Some count) buffer is = sym (sound_fate layout buffer count refl (omega (arith, is)))
sound_by_mark layout None buffer is = absurd (omega (arith, is))

pub stays_by_mark : (layout : Layout) (received : Option ℕ) (buffer : List ℕ) → mark_of layout received buffer ≡ 48 → mended_over layout received buffer ≡ buffer
unfolding mark_of
stays_by_mark layout (Some count) buffer is = sym (sound_stays layout buffer count refl (omega (arith, is)))
stays_by_mark layout None buffer is = absurd (omega (arith, is))

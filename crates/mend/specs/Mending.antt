-- What becomes of an image, by its number and by repair; the bytes afterwards; and how it counts.
use Rattle.std.specs.Prelude.{◌≡◌, cond, List, ℕ, eqb, Option, Some, None}
use Rattle.rules.specs.Bytes.{part, splice}
use Rattle.rules.specs.Sectors.{written}
use Rattle.rules.specs.Verdict.{verdict}
use Rattle.rules.specs.Calls.Repair.{repair_of}
use Rattle.rules.specs.declared.Layout.{Layout}
use Rattle.mend.specs.declared.Fate.{Fate}
use Rattle.mend.specs.declared.Fate.TheVariants.{Sound, Mended, Refused, Unread, Unwritten}

-- an image of so many bytes, by the judge's number and by that of repair
unfoldable pub fate_by : ℕ → ℕ → ℕ → Fate
fate_by count number refused = cond (eqb number 0) Sound (cond (eqb refused 0) (Mended count) Refused)

-- of what was put into the buffer
unfoldable pub fate_of : Layout → Option ℕ → List ℕ → Fate
fate_of layout (Some count) buffer = let image = part buffer 0 count in fate_by count (verdict layout image) (repair_of layout image).number
fate_of layout None buffer = Unread

-- the image afterwards: a sound one as it was, any other with the writes of repair, which has none where it refuses
unfoldable pub mended_of : Layout → List ℕ → List ℕ
mended_of layout image = cond (eqb (verdict layout image) 0) image (written image (repair_of layout image).writes)

-- and the buffer
unfoldable pub mended_over : Layout → Option ℕ → List ℕ → List ℕ
mended_over layout (Some count) buffer = splice buffer 0 (mended_of layout (part buffer 0 count))
mended_over layout None buffer = buffer

-- what is to be written is a sound volume
unfoldable pub SoundNow : Layout → Fate → List ℕ → Type 0
SoundNow layout (Mended count) buffer = verdict layout (part buffer 0 count) ≡ 0
SoundNow layout Sound buffer = Unit {0}
SoundNow layout Refused buffer = Unit {0}
SoundNow layout Unread buffer = Unit {0}
SoundNow layout Unwritten buffer = Unit {0}

-- the mark that an image counts by at the end of a run
unfoldable pub counted_as : ℕ → Fate → ℕ
counted_as mark Sound = 0x30
counted_as mark (Mended count) = 0x30
counted_as mark Refused = mark
counted_as mark Unread = 0x2D
counted_as mark Unwritten = 0x2D

-- Our version meets demand 2, all but progress, whose proof is handed in: a refusal changes nothing, a call that was done means what the paper says and leaves the
-- rest as it stood, and a sound volume stays sound. Each part is proved call by call.
use mathlib.Core.Path.{◌≡◌, refl, sym, ap, ◌∙◌}
use mathlib.Core.List.{List, [], ◌∷◌}
use Prim.Native.Nat.{ℕ}
use native.Mathlib.Omega.{arith}
use native.Mathlib.Decide.{ℕ_discrete}
use lib.ListN.{length}
use Rattle.rules.specs.Bytes.{part, splice}
use Rattle.rules.specs.Sectors.{sector_of, sectors_in, written}
use Rattle.rules.specs.Name.{wrong_place}
use Rattle.rules.specs.Map.{free_count}
use Rattle.rules.specs.Verdict.{volume_tests, verdict}
use Rattle.rules.specs.Sound.{Sound}
use Rattle.rules.specs.Outcome.{Outcome, Report, amount_of, by_number, named_amount_of}
use Rattle.rules.specs.Volume.{index_at, catalogues}
use Rattle.rules.specs.Opening.{open_of}
use Rattle.rules.specs.Calls.Format.{Geometry, formatted, format_tests, format_number, after_format}
use Rattle.rules.specs.Calls.Summary.{free_count_of, summary_of, summary_answer}
use Rattle.rules.specs.Calls.Entry.{entry_of}
use Rattle.rules.specs.Calls.Read.{reading, read_of}
use Rattle.rules.specs.Calls.Load.{loading, load_of}
use Rattle.rules.specs.Calls.Listing.{listing_text, listing_of}
use Rattle.rules.specs.Calls.Repair.{repair_tests, mending, repair_of}
use Rattle.rules.specs.Calls.Pack.{pack_number}
use Rattle.rules.specs.declared.Layout.{Layout}
use Rattle.rules.proofs.Tests.{unless_passed, unless_met_lem}
use Rattle.rules.proofs.Splice.{splice_none, splice-length}
use Rattle.rules.proofs.Name.{name_is}
use Rattle.rules.proofs.Verdict.{passes}
use Rattle.rules.proofs.Free.{free_holders}
use Rattle.rules.proofs.Formatted.{formatted-length}
use Rattle.rules.proofs.Written.{written-length}
use Rattle.rules.proofs.Outcome.{reported_given}
use Rattle.rules.proofs.Indexes.{directory_indexed}
use Rattle.demands.specs.Effects.{Kept}
use Rattle.demands.specs.Does.{Does, FormatCall}
use Rattle.demands.specs.Call as call
use Rattle.demands.specs.Call.{Form, named_number, number_in, Look, Change, Call, names_of, rule_of, lent, number_of, run}
use Rattle.demands.specs.Ours.{answered, seen, outcome, ours}
use Rattle.demands.specs.Demand3.{packs}
use Rattle.demands.specs.Grounds.{First, grounds}
use Rattle.demands.specs.Demand2.{FreeIs, FreeGiven, Summarized, Shows, Means, Unlisted, Frame, Demand2}
use Rattle.demands.proofs.Formatting.{format_passed, format_size, format_call, format_bytes}
use Rattle.demands.proofs.Creates.{creates}
use Rattle.demands.proofs.Stores.{stores}
use Rattle.demands.proofs.Appends.{appends}
use Rattle.demands.proofs.Overwrites.{overwrites}
use Rattle.demands.proofs.Protects.{protects, unprotects, clears, cleared_sound}
use Rattle.demands.proofs.Deletes.{deletes}
use Rattle.demands.proofs.Renames.{renames}
use Rattle.demands.proofs.Agreeing.{agrees_itself, agreed_catalogues}
use Rattle.demands.proofs.Mending.{repair_mends}
use Rattle.demands.proofs.Refusals.{Writes, Puts, tested_writes, reported_puts, on_file_puts, change_writes}
use Rattle.demands.proofs.Demand3.{packing_demand}
use Rattle.demands.proofs.Carried.{answer_number_lem, amount_number_lem, summary_number_lem, named_number_lem, loaded_number_lem, carried}
use Rattle.demands.proofs.Lines.{listing_lists}
use Rattle.demands.proofs.Shown.{together-length, entry_bytes, entry_answers, read_is, load_is, listing_is}

-- what a refusal leaves: of the image and of the order, and of the buffer lent
refused_image : (image : List ℕ) (outcome : Outcome) → Writes outcome → (outcome.number ≡ 0 → ⊥) → (written image outcome.writes ≡ image) × (sectors_in outcome.writes ≡ [])
unfolding written sectors_in
refused_image image outcome writes some = let none = writes.none some in (rw none, rw none)

refused_buffer : (buffer : List ℕ) (report : Report) → Puts report → (report.number ≡ 0 → ⊥) → splice buffer 0 report.bytes ≡ buffer
refused_buffer buffer report puts some = rw (puts.none some) (splice_none buffer 0)

refused_format : (image : List ℕ) (n : ℕ) (name : List ℕ) (g : Geometry) → (named_number (call.one name) (answered (call.one name) (format_number image n name)) ≡ 0 → ⊥) → after_format image n name g ≡ image
unfolding after_format
refused_format image n name g some = unless_met_lem (format_tests image n name) _ image (λ z. some (named_number_lem (call.one name) (format_number image n name) ∙ z))

look_refuses : (layout : Layout) {form : Form} (look : Look form) (buffer image : List ℕ) → (number_in form (seen layout look buffer image).answer ≡ 0 → ⊥) → (seen layout look buffer image).buffer ≡ buffer
unfolding seen summary_of entry_of read_of reading load_of loading listing_of verdict packs
look_refuses layout call.judge buffer image some = splice_none buffer 0
look_refuses layout call.free_count buffer image some = splice_none buffer 0
look_refuses layout call.summarize buffer image some = refused_buffer buffer (summary_of layout image) (reported_puts _ _ _) (λ z. some (summary_number_lem layout image ∙ z))
look_refuses layout (call.entry directory place) buffer image some = refused_buffer buffer (entry_of layout image directory place (length buffer)) (reported_puts _ _ _) (λ z. some (answer_number_lem _ ∙ z))
look_refuses layout (call.read directory name offset) buffer image some =
    refused_buffer buffer (read_of layout image directory name offset (length buffer)) (on_file_puts (open_of layout image directory name) (reading image offset (length buffer)) (λ k. reported_puts _ _ _))
    (λ z. some (named_number_lem (call.one name) _ ∙ z))
look_refuses layout (call.load directory name) buffer image some =
    refused_buffer buffer (load_of layout image directory name (length buffer)) (on_file_puts (open_of layout image directory name) (loading image (length buffer)) (λ k. reported_puts _ _ _))
    (λ z. some (loaded_number_lem (wrong_place name) _ ∙ z))
look_refuses layout (call.list directory) buffer image some = refused_buffer buffer (listing_of layout image directory (length buffer)) (reported_puts _ _ _) (λ z. some (amount_number_lem _ ∙ z))
look_refuses layout call.pack buffer image some = (packing_demand layout).refuses image buffer (λ z. some (answer_number_lem (pack_number layout image buffer) ∙ z))

pub refuses : (layout : Layout) (c : Call) (image : List ℕ) → (number_of (ours layout) c image ≡ 0 → ⊥) → ((ours layout c image).image ≡ image) × ((ours layout c image).buffer ≡ lent c) × ((ours layout c image).order ≡ [])
unfolding ours repair_of
refuses layout (call.look look buffer) image some = (refl, look_refuses layout look buffer image some, refl)
refuses layout (call.change directory name change) image some =
    let outcome = outcome layout change image directory name in
    let left = refused_image image outcome (change_writes layout change image directory name) (λ z. some (named_number_lem (names_of name change) outcome.number ∙ z)) in
    (left.0, refl, left.1)
refuses layout call.repair image some =
    let left = refused_image image (repair_of layout image) (tested_writes (repair_tests layout image) (mending layout image)) (λ z. some (answer_number_lem (repair_of layout image).number ∙ z)) in
    (left.0, refl, left.1)
refuses layout (call.format n name geometry) image some = (refused_format image n name geometry some, refl, refl)

pub unlisted : (layout : Layout) (c : Call) (image : List ℕ) → Unlisted c (ours layout c image).order
unfolding ours Unlisted
unlisted layout (call.look look buffer) image = refl
unlisted layout (call.change directory name change) image = tt
unlisted layout call.repair image = tt
unlisted layout (call.format n name geometry) image = refl

-- the lengths of what is lent
look_length : (layout : Layout) {form : Form} (look : Look form) (buffer image : List ℕ) → length (seen layout look buffer image).buffer ≡ length buffer
unfolding seen packs
look_length layout call.judge buffer image = splice-length buffer 0 _
look_length layout call.free_count buffer image = splice-length buffer 0 _
look_length layout call.summarize buffer image = splice-length buffer 0 _
look_length layout (call.entry directory place) buffer image = splice-length buffer 0 _
look_length layout (call.read directory name offset) buffer image = splice-length buffer 0 _
look_length layout (call.load directory name) buffer image = splice-length buffer 0 _
look_length layout (call.list directory) buffer image = splice-length buffer 0 _
look_length layout call.pack buffer image =
    elim (ℕ_discrete (pack_number layout image buffer) 0) [
      | yes zero ↦ let can = ((packing_demand layout).done image buffer).0 zero in ((packing_demand layout).laid image buffer can).size ∙ sym can.long
      | no some ↦ ap length ((packing_demand layout).refuses image buffer some)
    ]

format_length : (image : List ℕ) (n : ℕ) (name : List ℕ) (g : Geometry) → length (after_format image n name g) ≡ length image
unfolding after_format
format_length image n name g =
    elim (ℕ_discrete (format_number image n name) 0) [
      | yes zero ↦
          let passed = format_passed image n name zero in
          rw (unless_passed (format_tests image n name) (formatted n name g) image zero, formatted-length n name g (name_is name passed.2).ten (omega (arith, passed.0))) (sym (format_size image n name zero))
      | no some ↦ rw (unless_met_lem (format_tests image n name) (formatted n name g) image some)
    ]

pub lengths : (layout : Layout) (c : Call) (image : List ℕ) → (length (ours layout c image).image ≡ length image) × (length (ours layout c image).buffer ≡ length (lent c))
unfolding ours
lengths layout (call.look look buffer) image = (refl, look_length layout look buffer image)
lengths layout (call.change directory name change) image = (written-length image (outcome layout change image directory name).writes, refl)
lengths layout call.repair image = (written-length image (repair_of layout image).writes, refl)
lengths layout (call.format n name geometry) image = (format_length image n name geometry, refl)

-- what a call that was done means: formatting, whatever the image was
pub formats : (layout : Layout) (n : ℕ) (name : List ℕ) (geometry : Geometry) (image : List ℕ) →
    let c = call.format n name geometry in
    number_of (ours layout) c image ≡ 0 → Means layout c image (ours layout c image)
unfolding ours Means FormatCall
formats layout n name geometry image e =
    let zero = sym (named_number_lem (call.one name) (format_number image n name)) ∙ e in
    (format_call layout image n name geometry zero, format_bytes image n name geometry zero)

-- and repair
pub mends : (layout : Layout) (image : List ℕ) → number_of (ours layout) call.repair image ≡ 0 → Means layout call.repair image (ours layout call.repair image)
unfolding ours Means
mends layout image e = repair_mends layout image (sym (answer_number_lem (repair_of layout image).number) ∙ e)

-- the reading calls
free_is : (layout : Layout) (image : List ℕ) → Sound layout image → FreeIs layout image (free_count (sector_of image 0))
free_is layout image is = record { is = free_holders layout image is }

free_means : (layout : Layout) (image : List ℕ) → Sound layout image → FreeGiven layout image (amount_of (free_count_of layout image))
unfolding amount_of free_count_of verdict
free_means layout image is =
    record { free = free_count (sector_of image 0); is = ap amount_of (reported_given (volume_tests layout image) (free_count (sector_of image 0)) [] (passes layout image is)); count = free_is layout image is }

summary_means : (layout : Layout) (image buffer : List ℕ) → Sound layout image
    → Summarized layout image (summary_answer layout image) × (splice buffer 0 (summary_of layout image).bytes ≡ splice buffer 0 (part (sector_of image 0) 0 10))
unfolding summary_answer summary_of verdict
summary_means layout image buffer is = (
  record { free = free_count (sector_of image 0); is = unless_passed (volume_tests layout image) _ _ (passes layout image is) ∙ rw (together-length layout image); count = free_is layout image is },
  rw (unless_passed (volume_tests layout image) (part (sector_of image 0) 0 10) [] (passes layout image is)),
)

shows : (layout : Layout) {form : Form} (look : Look form) (buffer image : List ℕ) → Sound layout image → number_in form (seen layout look buffer image).answer ≡ 0
    → Shows layout look buffer image (record { answer = (seen layout look buffer image).answer; buffer = (seen layout look buffer image).buffer; image = image; order = [] })
unfolding seen Shows packs amount_of named_amount_of by_number
shows layout call.judge buffer image is e = splice_none buffer 0
shows layout call.free_count buffer image is e = (free_means layout image is, splice_none buffer 0)
shows layout call.summarize buffer image is e = summary_means layout image buffer is
shows layout (call.entry directory place) buffer image is e =
    let zero = sym (answer_number_lem (entry_of layout image directory place (length buffer)).number) ∙ e in
    (entry_answers layout image is directory place (length buffer) zero, ap (splice buffer 0) (entry_bytes layout image is directory place (length buffer) zero))
shows layout (call.read directory name offset) buffer image is e =
    ap (splice buffer 0) (read_is layout image directory name offset (length buffer) (sym (named_number_lem (call.one name) (read_of layout image directory name offset (length buffer)).number) ∙ e))
shows layout (call.load directory name) buffer image is e =
    let loaded = load_is layout image directory name (length buffer) (sym (loaded_number_lem (wrong_place name) (load_of layout image directory name (length buffer))) ∙ e) in
    (ap (named_amount_of (wrong_place name)) loaded, ap (λ (r : Report). splice buffer 0 r.bytes) loaded)
shows layout (call.list directory) buffer image is e =
    let i = index_at layout image directory in
    let listed = listing_is layout image directory (length buffer) (sym (amount_number_lem (listing_of layout image directory (length buffer))) ∙ e) in
    record {
      text = listing_text layout image i;
      lists = listing_lists layout image is i (directory_indexed layout image directory listed.0);
      is = ap amount_of listed.1;
      put = ap (λ (r : Report). splice buffer 0 r.bytes) listed.1;
    }
shows layout call.pack buffer image is e =
    let can = ((packing_demand layout).done image buffer).0 (sym (answer_number_lem (pack_number layout image buffer)) ∙ e) in
    ((packing_demand layout).sound image buffer can, (packing_demand layout).laid image buffer can)

-- the changes
pub does : (layout : Layout) (change : Change) → Does layout change
does layout (call.create status record_length records_per_sector) = creates layout status record_length records_per_sector
does layout (call.append bytes) = appends layout bytes
does layout (call.overwrite offset bytes) = overwrites layout offset bytes
does layout call.protect = protects layout
does layout call.unprotect = unprotects layout
does layout call.clear = clears layout
does layout (call.store bytes) = stores layout bytes
does layout call.delete = deletes layout
does layout (call.rename new) = renames layout new

pub means : (layout : Layout) (c : Call) (image : List ℕ) → Sound (rule_of layout c) image → number_of (ours layout) c image ≡ 0 → Means (rule_of layout c) c image (ours layout c image)
unfolding ours Means
means layout (call.look look buffer) image is e = shows layout look buffer image is e
means layout (call.change directory name change) image is e =
    let done = does layout change image directory name (sym (named_number_lem (names_of name change) (outcome layout change image directory name).number) ∙ e) in
    (done.0, done.1)
means layout call.repair image is e = mends layout image e
means layout (call.format n name geometry) image is e = formats layout n name geometry image e

-- the frame: of a call that was done, and of a refusal
kept_same : (layout : Layout) (image after : List ℕ) (i : ℕ) (name : List ℕ) → after ≡ image → Kept layout image after i name
kept_same layout image after i name e =
    rw e
    (record {
      label = λ b low. refl;
      index = λ j indexed apart. refl;
      listed = λ j k another. another.listed;
      descriptor = λ j k another. refl;
      contents = λ j k p another placed. refl;
    })

frame_done : (layout : Layout) (c : Call) (image : List ℕ) → Sound (rule_of layout c) image → Means (rule_of layout c) c image (ours layout c image) → Frame (rule_of layout c) c image (ours layout c image).image
unfolding ours Means Frame
frame_done layout (call.look look buffer) image is m = refl
frame_done layout (call.change directory name change) image is m = m.0.kept
frame_done layout call.repair image is m = agreed_catalogues layout image image is (agrees_itself layout image is) _ _ m
frame_done layout (call.format n name geometry) image is m = tt

frame_same : (layout : Layout) (c : Call) (image after : List ℕ) → after ≡ image → Frame layout c image after
unfolding Frame
frame_same layout (call.look look buffer) image after same = same
frame_same layout (call.change directory name change) image after same = kept_same layout image after (index_at layout image directory) name same
frame_same layout call.repair image after same = ap (catalogues layout) same
frame_same layout (call.format n name geometry) image after same = tt

pub frame : (layout : Layout) (c : Call) (image : List ℕ) → Sound (rule_of layout c) image → Frame (rule_of layout c) c image (ours layout c image).image
frame layout c image is =
    elim (ℕ_discrete (number_of (ours layout) c image) 0) [
      | yes zero ↦ frame_done layout c image is (means layout c image is zero)
      | no some ↦ frame_same (rule_of layout c) c image (ours layout c image).image (refuses layout c image some).0
    ]

-- a sound volume after a call, and after a list of calls
change_sound : (layout : Layout) (change : Change) (image : List ℕ) (directory : ℕ) (name : List ℕ) → Sound layout image → (outcome layout change image directory name).number ≡ 0 → Sound layout (written image (outcome layout change image directory name).writes)
unfolding outcome
change_sound layout (call.create status record_length records_per_sector) image directory name is zero = (does layout (call.create status record_length records_per_sector) image directory name zero).0.sound
change_sound layout (call.append bytes) image directory name is zero = (does layout (call.append bytes) image directory name zero).0.sound
change_sound layout (call.overwrite offset bytes) image directory name is zero = (does layout (call.overwrite offset bytes) image directory name zero).0.sound
change_sound layout call.protect image directory name is zero = (does layout call.protect image directory name zero).0.sound
change_sound layout call.unprotect image directory name is zero = (does layout call.unprotect image directory name zero).0.sound
change_sound layout call.clear image directory name is zero = cleared_sound layout image directory name is zero
change_sound layout (call.store bytes) image directory name is zero = (does layout (call.store bytes) image directory name zero).0.sound
change_sound layout call.delete image directory name is zero = (does layout call.delete image directory name zero).0.sound
change_sound layout (call.rename new) image directory name is zero = (does layout (call.rename new) image directory name zero).0.sound

sound_done : (layout : Layout) (c : Call) (image : List ℕ) → Sound layout image → number_of (ours layout) c image ≡ 0 → Sound layout (ours layout c image).image
unfolding ours Means
sound_done layout (call.look look buffer) image is e = is
sound_done layout (call.change directory name change) image is e = change_sound layout change image directory name is (sym (named_number_lem (names_of name change) (outcome layout change image directory name).number) ∙ e)
sound_done layout call.repair image is e = (mends layout image e).sound
sound_done layout (call.format n name geometry) image is e = (formats layout n name geometry image e).0.sound

sound_call : (layout : Layout) (c : Call) (image : List ℕ) → Sound layout image → Sound layout (ours layout c image).image
sound_call layout c image is =
    elim (ℕ_discrete (number_of (ours layout) c image) 0) [
      | yes zero ↦ sound_done layout c image is zero
      | no some ↦ rw (refuses layout c image some).0 is
    ]

pub sound_run : (layout : Layout) (calls : List Call) (image : List ℕ) → Sound layout image → Sound layout (run (ours layout) calls image)
unfolding run
sound_run layout [] image is = is
sound_run layout (c ∷ calls) image is = sound_run layout calls (ours layout c image).image (sound_call layout c image is)

pub demand2_but_progress : (layout : Layout) → ((c : Call) (image : List ℕ) → First (number_of (ours layout) c image) (grounds (rule_of layout c) c image)) → Demand2 layout (ours layout)
demand2_but_progress layout progress =
    record { carries = λ c image. carried layout c image (progress c image); lengths = lengths layout; refuses = refuses layout; unlisted = unlisted layout; sound = sound_run layout; formats = formats layout; mends = mends layout; frame = frame layout; means = means layout; progress = progress }

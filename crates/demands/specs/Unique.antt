-- What the code promises of a call fixes all that can be seen of it: its answer, the buffer lent, the image and the order of the writes. So what keeps the promise is what our version does, and two
-- results that keep it are equal. And demand 2 alone fixes it too: it shuts out every version but one.
use Rattle.std.specs.Prelude.{◌≡◌, List, [], ℕ, length}
use Rattle.rules.specs.Sectors.{sectors_in}
use Rattle.rules.specs.Name.{wrong_place}
use Rattle.rules.specs.Verdict.{verdict}
use Rattle.rules.specs.Outcome.{AnswerSays, AmountSays, NamedSays, NamedAmountSays, RenameSays, ReadSays, Meets, Gives}
use Rattle.rules.specs.Calls.Format.{format_number, after_format}
use Rattle.rules.specs.Calls.Summary.{free_count_of, summary_of, SummarySays}
use Rattle.rules.specs.Calls.Entry.{entry_of, entry_row, EntrySays}
use Rattle.rules.specs.Calls.Read.{read_of}
use Rattle.rules.specs.Calls.Load.{load_of}
use Rattle.rules.specs.Calls.Listing.{listing_of}
use Rattle.rules.specs.Calls.Repair.{repair_of}
use Rattle.rules.specs.Calls.Pack.{pack_number, after_pack}
use Rattle.rules.specs.declared.Layout.{Layout}
use Rattle.demands.specs.Call as call
use Rattle.demands.specs.Call.{Names, Form, AnsweredTo, Answered, Look, Call, Result, Version, names_of, form_of}
use Rattle.demands.specs.Ours.{outcome, ours}
use Rattle.demands.specs.Demand2.{Demand2}

-- the contract of a look in the code: what its answer says, and the buffer afterwards; where none is lent, it stays
unfoldable pub LookPromised : Layout → {form : Form} → Look form → (buffer image : List ℕ) → Answered form → (after : List ℕ) → Type 0
LookPromised layout call.judge buffer image given after = (given ≡ verdict layout image) × (after ≡ buffer)
LookPromised layout call.free_count buffer image given after = AmountSays given (free_count_of layout image) × (after ≡ buffer)
LookPromised layout call.summarize buffer image given after = Gives (SummarySays layout image) (summary_of layout image) given buffer after
LookPromised layout (call.entry directory place) buffer image given after =
    Gives (EntrySays (entry_row layout image directory place (length buffer))) (entry_of layout image directory place (length buffer)) given buffer after
LookPromised layout (call.read directory name offset) buffer image given after = Gives (ReadSays (wrong_place name)) (read_of layout image directory name offset (length buffer)) given buffer after
LookPromised layout (call.load directory name) buffer image given after = Gives (NamedAmountSays (wrong_place name)) (load_of layout image directory name (length buffer)) given buffer after
LookPromised layout (call.list directory) buffer image given after = Gives AmountSays (listing_of layout image directory (length buffer)) given buffer after
LookPromised layout call.pack buffer image given after = AnswerSays given (pack_number layout image buffer) × (after ≡ after_pack layout image buffer)

-- what the answer of a call that takes names says
unfoldable pub Says : (names : Names) → AnsweredTo names → ℕ → Type 0
Says (call.one name) given number = NamedSays (wrong_place name) given number
Says (call.both old new) given number = RenameSays (wrong_place old) (wrong_place new) given number

-- and of a call
unfoldable pub Promised : Layout → (c : Call) → List ℕ → Result (form_of c) → Type 0
Promised layout (call.look look buffer) image r = LookPromised layout look buffer image r.answer r.buffer × (r.image ≡ image) × (r.order ≡ [])
Promised layout (call.change directory name change) image r =
    let outcome = outcome layout change image directory name in
    Meets (Says (names_of name change)) outcome r.answer image r.image × (r.buffer ≡ []) × (r.order ≡ sectors_in outcome.writes)
Promised layout call.repair image r = Meets AnswerSays (repair_of layout image) r.answer image r.image × (r.buffer ≡ []) × (r.order ≡ sectors_in (repair_of layout image).writes)
Promised layout (call.format n name geometry) image r =
    Says (call.one name) r.answer (format_number image n name) × (r.image ≡ after_format image n name geometry) × (r.buffer ≡ []) × (r.order ≡ [])

unfoldable pub IsOurs : Layout → Type 0
IsOurs layout = (c : Call) (image : List ℕ) (r : Result (form_of c)) → Promised layout c image r → r ≡ ours layout c image

unfoldable pub Unique : Layout → Type 0
Unique layout = (c : Call) (image : List ℕ) (r r' : Result (form_of c)) → Promised layout c image r → Promised layout c image r' → r ≡ r'

-- two versions that meet demand 2 give the same answer, the same buffer, the same image and the same order, at every call with any arguments and on every image; so one that meets it is ours
unfoldable pub OneVersion : Layout → Type 0
OneVersion layout = (v w : Version) → Demand2 layout v → Demand2 layout w → (c : Call) (image : List ℕ) → v c image ≡ w c image

unfoldable pub OnlyOurs : Layout → Type 0
OnlyOurs layout = (v : Version) → Demand2 layout v → (c : Call) (image : List ℕ) → v c image ≡ ours layout c image

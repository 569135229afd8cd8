-- Demand 2, a statement about any version of the software under one layout, to which a run of calls keeps: answers and bytes are those of the layout, and through any run of calls a sound volume stays sound.
use Rattle.std.specs.Prelude.{◌≡◌, List, [], ℕ, ◌+◌, ◌≤◌, length, get_or, take}
use Rattle.rules.specs.Bytes.{part, splice}
use Rattle.rules.specs.Sectors.{sector_of, sector_count, joined}
use Rattle.rules.specs.Volume.{index_at, holders, catalogue, catalogues}
use Rattle.rules.specs.Sound.{Sound}
use Rattle.rules.specs.Calls.Format.{Geometry}
use Rattle.rules.specs.Calls.Pack.{together}
use Rattle.rules.specs.declared.Layout.{Layout}
use Rattle.rules.specs.Answers.Amount.{Amount}
use Rattle.rules.specs.Answers.Amount as amount
use Rattle.rules.specs.Answers.NamedAmount as loaded
use Rattle.rules.specs.Answers.Answer as answer
use Rattle.rules.specs.Answers.Summary.{Summary}
use Rattle.rules.specs.Answers.Summary as summary
use Rattle.demands.specs.Effects.{Kept, Changed}
use Rattle.demands.specs.Lines.{Lists}
use Rattle.demands.specs.Touches.{Touches}
use Rattle.demands.specs.Repairing.{Mends}
use Rattle.demands.specs.Packing.{Packs}
use Rattle.demands.specs.Formatting.{EmptyVolume, Formats}
use Rattle.demands.specs.Catalogue.{named, file_of, length_is, row_is}
use Rattle.demands.specs.Call as call
use Rattle.demands.specs.Call.{Form, Look, Call, Result, Version, Carries, form_of, rule_of, lent, number_of, run}
use Rattle.demands.specs.Grounds.{First, grounds}

-- the free count of a volume: n less the holders
pub record FreeIs (layout : Layout) (image : List ℕ) (free : ℕ) : Type 0 where
  pub is : free + length (holders layout image) ≡ sector_count image

pub record FreeGiven (layout : Layout) (image : List ℕ) (given : Amount) : Type 0 where
  pub free : ℕ
  pub is : given ≡ amount.Given free
  pub count : FreeIs layout image free

-- the file count is that of all catalogues together
pub record Summarized (layout : Layout) (image : List ℕ) (given : Summary) : Type 0 where
  pub free : ℕ
  pub is : given ≡ summary.Given (sector_count image) (length (together (catalogues layout image))) free
  pub count : FreeIs layout image free

-- the text of the listing, put at the front of the buffer
pub record Listed (layout : Layout) (image : List ℕ) (i : ℕ) (buffer : List ℕ) (given : Amount) (after : List ℕ) : Type 0 where
  pub text : List ℕ
  pub lists : Lists layout image i text
  pub is : given ≡ amount.Given (length text)
  pub put : after ≡ splice buffer 0 text

-- what a look that was done shows of the volume; it leaves the rest of the buffer
unfoldable pub Shows : Layout → {form : Form} → Look form → (buffer image : List ℕ) → Result form → Type 0
Shows layout call.judge buffer image r = r.buffer ≡ buffer
Shows layout call.free_count buffer image r = FreeGiven layout image r.answer × (r.buffer ≡ buffer)
Shows layout call.summarize buffer image r = Summarized layout image r.answer × (r.buffer ≡ splice buffer 0 (part (sector_of image 0) 0 10))
Shows layout (call.entry directory place) buffer image r =
    let file = file_of image (index_at layout image directory) place in
    (r.answer ≡ record { answer = answer.Done; row = row_is file }) × (r.buffer ≡ splice buffer 0 file.header)
Shows layout (call.read directory name offset) buffer image r =
    r.buffer ≡ splice buffer 0 (get_or (named name (catalogue image (index_at layout image directory))).contents offset [])
Shows layout (call.load directory name) buffer image r =
    let file = named name (catalogue image (index_at layout image directory)) in
    (r.answer ≡ loaded.Given (length_is file)) × (r.buffer ≡ splice buffer 0 (take (length_is file) (joined file.contents)))
Shows layout (call.list directory) buffer image r = Listed layout image (index_at layout image directory) buffer r.answer r.buffer
Shows layout call.pack buffer image r = Sound layout r.buffer × Packs layout image r.buffer

-- what a call that was done means: of what it gives back, or on the catalogue and the sectors
unfoldable pub Means : Layout → (c : Call) → List ℕ → Result (form_of c) → Type 0
Means layout (call.look look buffer) image r = Shows layout look buffer image r
Means layout (call.change directory name change) image r = Changed layout change image r.image directory name × Touches layout change image r.image directory name r.order
Means layout call.repair image r = Mends layout image r.image r.order
Means layout (call.format n name geometry) image r = EmptyVolume layout r.image × Formats n name geometry r.image

-- a host is given the order of the writes of a change and of repair
unfoldable pub Unlisted : Call → List ℕ → Type 0
Unlisted (call.look look buffer) order = order ≡ []
Unlisted (call.change directory name change) order = Unit {0}
Unlisted call.repair order = Unit {0}
Unlisted (call.format n name geometry) order = order ≡ []

-- what a call leaves as it stood, done or refused: a look the image; a change the label with its entries, every index but that of the directory it names, and every file but the one it names there; repair the catalogues; formatting leaves nothing
unfoldable pub Frame : Layout → Call → List ℕ → List ℕ → Type 0
Frame layout (call.look look buffer) image after = after ≡ image
Frame layout (call.change directory name change) image after = Kept layout image after (index_at layout image directory) name
Frame layout call.repair image after = catalogues layout after ≡ catalogues layout image
Frame layout (call.format n name geometry) image after = Unit {0}

pub record Demand2 (layout : Layout) (version : Version) : Type 0 where
  -- what a refusal carries: its number; with 7, and with 7 alone, the place where the name is wrong, and of a rename which of its names that is; nothing else
  pub carries : (c : Call) (image : List ℕ) → Carries (form_of c) (version c image).answer
  -- the image and the buffer lent keep their lengths
  pub lengths : (c : Call) (image : List ℕ) → (length (version c image).image ≡ length image) × (length (version c image).buffer ≡ length (lent c))
  -- a number other than 0 leaves every buffer as it was, whatever the image, and lists no sector
  pub refuses : (c : Call) (image : List ℕ) → (number_of version c image ≡ 0 → ⊥) → ((version c image).image ≡ image) × ((version c image).buffer ≡ lent c) × ((version c image).order ≡ [])
  pub unlisted : (c : Call) (image : List ℕ) → Unlisted c (version c image).order
  -- a sound volume stays sound through any list of calls; what formatting makes of any image is sound, and what repair makes of one that it accepts
  pub sound : (calls : List Call) (image : List ℕ) → Sound layout image → Sound layout (run version calls image)
  pub formats : (n : ℕ) (name : List ℕ) (geometry : Geometry) (image : List ℕ) →
      let c = call.format n name geometry in
      number_of version c image ≡ 0 → Means layout c image (version c image)
  pub mends : (image : List ℕ) → number_of version call.repair image ≡ 0 → Means layout call.repair image (version call.repair image)
  -- the frame
  pub frame : (c : Call) (image : List ℕ) → Sound (rule_of layout c) image → Frame (rule_of layout c) c image (version c image).image
  -- the meaning
  pub means : (c : Call) (image : List ℕ) → Sound (rule_of layout c) image → number_of version c image ≡ 0 → Means (rule_of layout c) c image (version c image)
  -- progress: the number is that of the first ground that is there, and 0 exactly where none is
  pub progress : (c : Call) (image : List ℕ) → First (number_of version c image) (grounds (rule_of layout c) c image)

-- So what was stored is what a load gives, its bytes and their number, whatever the length, in every version that meets it.
unfoldable pub StoredLoads : Layout → Type 0
StoredLoads layout = (version : Version) → Demand2 layout version → (directory : ℕ) (name bytes buffer image : List ℕ) → Sound layout image → length bytes ≤ length buffer →
    let c = call.change directory name (call.store bytes) in
    let program = version (call.look (call.load directory name) buffer) (version c image).image in
    number_of version c image ≡ 0 → (program.answer ≡ loaded.Given (length bytes)) × (program.buffer ≡ splice buffer 0 bytes)

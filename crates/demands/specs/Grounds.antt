-- The grounds that the paper lists for each call, in the table's order (1-10, 14, 15, 11, 12, 13), each a proposition about the image and the arguments.
use Rattle.std.specs.Prelude.{◌≡◌, List, [], ◌∷◌, ◌++◌, ◌⊎◌, ℕ, ◌+◌, ◌*◌, ◌≤◌, ◌<◌, length}
use Rattle.rules.specs.Bytes.{byte_at, bit_of}
use Rattle.rules.specs.Sectors.{sector_of, sector_count}
use Rattle.rules.specs.Name.{IsName, Before}
use Rattle.rules.specs.Label.{IsLabel}
use Rattle.rules.specs.Map.{map_bit, count, free_count}
use Rattle.rules.specs.Chain.{blocks}
use Rattle.rules.specs.Kind.{program_length, sectors_for}
use Rattle.rules.specs.Descriptor.{status_of, sectors_of, chain_of, IsDescriptor}
use Rattle.rules.specs.Index.{IsIndex}
use Rattle.rules.specs.Directory.{entries, AreEntries}
use Rattle.rules.specs.Volume.{index_at, files_in, name_in, places_in, holders}
use Rattle.rules.specs.Sound.{file_at, IsIndexed}
use Rattle.rules.specs.declared.Layout.{Layout}
use Rattle.rules.specs.declared.Block.{Block}
use Rattle.demands.specs.Taking.{ForDescriptor, Taken}
use Rattle.demands.specs.Lines.{Lists}
use Rattle.demands.specs.Call as call
use Rattle.demands.specs.Call.{Names, Form, Look, Change, Call, names_of}

pub record Ground : Type 1 where
  pub number : ℕ
  pub there : Type 0

abbrev pub ground : ℕ → Type 0 → Ground
ground number there = record { number = number; there = there }

-- the number is that of the first ground that is there, and 0 where none is
unfoldable pub First : ℕ → List {1} Ground → Type 0
First number [] = number ≡ 0
First number (first ∷ more) = (first.there × (number ≡ first.number)) ⊎ ((first.there → ⊥) × First number more)

-- 1 to 6, of the image
pub record IsSize (image : List ℕ) : Type 0 where
  pub whole : length image ≡ 256 * sector_count image
  pub range : (3 ≤ sector_count image) × (sector_count image ≤ 1600)

pub record HasIndexes (layout : Layout) (image : List ℕ) : Type 0 where
  pub entered : AreEntries (sector_count image) (entries layout (sector_of image 0))
  pub each : (i : ℕ) → IsIndexed layout image i → IsIndex (sector_count image) (sector_of image i)

pub record HasDescriptors (layout : Layout) (image : List ℕ) : Type 0 where
  pub descriptors : (i : ℕ) → IsIndexed layout image i → (p : ℕ) → p < length (files_in image i) → IsDescriptor layout (sector_count image) (sector_of image (file_at image i p))
  pub ascending : (i : ℕ) → IsIndexed layout image i → (p q : ℕ) → p < q → q < length (files_in image i) → Before (name_in image (file_at image i p)) (name_in image (file_at image i q))

pub record HeldTwice (layout : Layout) (image : List ℕ) : Type 0 where
  pub sector : ℕ
  pub twice : 2 ≤ count sector (holders layout image)

pub record HasMap (layout : Layout) (image : List ℕ) : Type 0 where
  pub marked : (k : ℕ) → k < sector_count image → map_bit (sector_of image 0) k ≡ count k (holders layout image)
  pub filled : (k : ℕ) → sector_count image ≤ k → k < 1600 → map_bit (sector_of image 0) k ≡ 1

unfoldable pub faults : Layout → List ℕ → List {1} Ground
faults layout image =
    ground 1 (IsSize image → ⊥)
    ∷ (ground 2 (IsLabel (sector_count image) (sector_of image 0) → ⊥)
    ∷ (ground 3 (HasIndexes layout image → ⊥)
    ∷ (ground 4 (HasDescriptors layout image → ⊥)
    ∷ (ground 5 (HeldTwice layout image)
    ∷ (ground 6 (HasMap layout image → ⊥) ∷ [])))))

-- 1 to 5 as repair has them: distinct names may stand in any order
pub record HasNames (layout : Layout) (image : List ℕ) : Type 0 where
  pub descriptors : (i : ℕ) → IsIndexed layout image i → (p : ℕ) → p < length (files_in image i) → IsDescriptor layout (sector_count image) (sector_of image (file_at image i p))
  pub distinct : (i : ℕ) → IsIndexed layout image i → (p q : ℕ) → p < q → q < length (files_in image i) → name_in image (file_at image i p) ≡ name_in image (file_at image i q) → ⊥

unfoldable pub mending_faults : Layout → List ℕ → List {1} Ground
mending_faults layout image =
    ground 1 (IsSize image → ⊥)
    ∷ (ground 2 (IsLabel (sector_count image) (sector_of image 0) → ⊥)
    ∷ (ground 3 (HasIndexes layout image → ⊥)
    ∷ (ground 4 (HasNames layout image → ⊥)
    ∷ (ground 5 (HeldTwice layout image) ∷ []))))

-- 8: there is no directory of that number
abbrev pub nowhere : Layout → List ℕ → ℕ → Ground
nowhere layout image directory = ground 8 (index_at layout image directory ≡ 0)

-- a file of that name in index i, of which something holds
pub record Has (image : List ℕ) (i : ℕ) (name : List ℕ) (holds : ℕ → Type 0) : Type 0 where
  pub sector : ℕ
  pub listed : 1 ≤ count sector (files_in image i)
  pub named : name_in image sector ≡ name
  pub so : holds sector

abbrev pub Present : List ℕ → ℕ → List ℕ → Type 0
Present image i name = Has image i name (λ k. Unit {0})

-- of the file whose descriptor is in sector k
abbrev pub IsProtected : List ℕ → ℕ → Type 0
IsProtected image k = bit_of (status_of (sector_of image k)) 3 ≡ 1

abbrev IsProgram : List ℕ → ℕ → Type 0
IsProgram image k = bit_of (status_of (sector_of image k)) 0 ≡ 1

pub record CreateStatus (status : ℕ) : Type 0 where
  pub among : (status ≡ 0) ⊎ ((status ≡ 0x02) ⊎ ((status ≡ 0x80) ⊎ (status ≡ 0x82)))

-- 13: what the call takes for the data of a file, behind the places and blocks that it has, makes a 77th block; of a new file, whose descriptor is chosen before
pub record Overfull (image first places : List ℕ) (before : List Block) (many : ℕ) : Type 0 where
  pub taken : Taken image first places before many
  pub over : 76 < length taken.chain

pub record NewOverfull (image : List ℕ) (many : ℕ) : Type 0 where
  pub k : ℕ
  pub chosen : ForDescriptor image k
  pub overfull : Overfull image (k ∷ []) [] [] many

-- 15: the text of the listing is longer than the buffer
pub record TextOver (layout : Layout) (image : List ℕ) (i room : ℕ) : Type 0 where
  pub text : List ℕ
  pub lists : Lists layout image i text
  pub over : room < length text

-- of a look, on a sound volume
unfoldable pub look_grounds : Layout → {form : Form} → Look form → (buffer image : List ℕ) → List {1} Ground
look_grounds layout call.judge buffer image = []
look_grounds layout call.free_count buffer image = []
look_grounds layout call.summarize buffer image = []
look_grounds layout (call.entry directory place) buffer image =
    let i = index_at layout image directory in
    nowhere layout image directory ∷ (ground 8 (length (files_in image i) ≤ place) ∷ (ground 15 (length buffer < 28) ∷ []))
look_grounds layout (call.read directory name offset) buffer image =
    let i = index_at layout image directory in
    ground 7 (IsName name → ⊥)
    ∷ (nowhere layout image directory
    ∷ (ground 8 (Present image i name → ⊥)
    ∷ (ground 15 (Has image i name (λ k. sectors_of (sector_of image k) ≤ offset)) ∷ (ground 15 (length buffer < 256) ∷ []))))
look_grounds layout (call.load directory name) buffer image =
    let i = index_at layout image directory in
    ground 7 (IsName name → ⊥)
    ∷ (nowhere layout image directory
    ∷ (ground 8 (Present image i name → ⊥)
    ∷ (ground 14 (Has image i name (λ k. IsProgram image k → ⊥)) ∷ (ground 15 (Has image i name (λ k. length buffer < program_length (sectors_of (sector_of image k)) (byte_at (sector_of image k) 16))) ∷ []))))
look_grounds layout (call.list directory) buffer image =
    nowhere layout image directory ∷ (ground 15 (TextOver layout image (index_at layout image directory) (length buffer)) ∷ [])
look_grounds layout call.pack buffer image = ground 15 (length buffer ≡ length image → ⊥) ∷ []

-- of a change of a file in index i, on a sound volume and under a name that keeps its rule
unfoldable pub change_grounds : Change → (image : List ℕ) (i : ℕ) (name : List ℕ) → List {1} Ground
change_grounds (call.create status record_length records_per_sector) image i name =
    ground 9 (Present image i name)
    ∷ (ground 15 (CreateStatus status → ⊥) ∷ (ground 11 (127 ≤ length (files_in image i)) ∷ (ground 12 (free_count (sector_of image 0) < 1) ∷ [])))
change_grounds (call.append bytes) image i name =
    ground 8 (Present image i name → ⊥)
    ∷ (ground 10 (Has image i name (IsProtected image))
    ∷ (ground 14 (Has image i name (IsProgram image))
    ∷ (ground 15 (length bytes ≡ 256 → ⊥) ∷ (ground 12 (free_count (sector_of image 0) < 1) ∷ (ground 13 (Has image i name (λ k. Overfull image [] (places_in image k) (blocks (chain_of (sector_of image k))) 1)) ∷ [])))))
change_grounds (call.overwrite offset bytes) image i name =
    ground 8 (Present image i name → ⊥)
    ∷ (ground 10 (Has image i name (IsProtected image))
    ∷ (ground 14 (Has image i name (IsProgram image))
    ∷ (ground 15 (Has image i name (λ k. sectors_of (sector_of image k) ≤ offset)) ∷ (ground 15 (length bytes ≡ 256 → ⊥) ∷ []))))
change_grounds call.protect image i name = ground 8 (Present image i name → ⊥) ∷ []
change_grounds call.unprotect image i name = ground 8 (Present image i name → ⊥) ∷ []
change_grounds call.clear image i name = ground 8 (Present image i name → ⊥) ∷ []
change_grounds (call.store bytes) image i name =
    ground 9 (Present image i name)
    ∷ (ground 15 (32768 < length bytes)
    ∷ (ground 11 (127 ≤ length (files_in image i))
    ∷ (ground 12 (free_count (sector_of image 0) < 1 + sectors_for (length bytes)) ∷ (ground 13 (NewOverfull image (sectors_for (length bytes))) ∷ []))))
change_grounds call.delete image i name = ground 8 (Present image i name → ⊥) ∷ (ground 10 (Has image i name (IsProtected image)) ∷ [])
change_grounds (call.rename new) image i name =
    ground 8 (Present image i name → ⊥) ∷ (ground 9 (Present image i new) ∷ (ground 10 (Has image i name (IsProtected image)) ∷ []))

-- 7: of the names that it takes, in their order
abbrev pub name_grounds : Names → List {1} Ground → List {1} Ground
name_grounds (call.one name) more = ground 7 (IsName name → ⊥) ∷ more
name_grounds (call.both old new) more = ground 7 (IsName old → ⊥) ∷ (ground 7 (IsName new → ⊥) ∷ more)

unfoldable pub grounds : Layout → Call → List ℕ → List {1} Ground
grounds layout (call.look look buffer) image = faults layout image ++ look_grounds layout look buffer image
grounds layout (call.change directory name change) image =
    faults layout image ++ name_grounds (names_of name change) (nowhere layout image directory ∷ change_grounds change image (index_at layout image directory) name)
grounds layout call.repair image = mending_faults layout image
grounds layout (call.format n name geometry) image =
    ground 1 (IsSize image → ⊥) ∷ (ground 1 (n ≡ sector_count image → ⊥) ∷ (ground 7 (IsName name → ⊥) ∷ []))

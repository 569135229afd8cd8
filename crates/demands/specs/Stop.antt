-- The belt's emergency stop, a statement about any version under one layout. The host writes the sectors of the image that a call leaves through to the medium, whole and in the order given; the stop cuts it between two of
-- these writes. After a cut at any place repair gives a sound volume, whose catalogues are those before the call or those after it.
use Rattle.std.specs.Prelude.{◌≡◌, true, cond, List, map, ◌⊎◌, ℕ, ◌≤◌, eqb, length, take}
use Rattle.rules.specs.Sectors.{through, written}
use Rattle.rules.specs.Map.{count}
use Rattle.rules.specs.Volume.{File, index_at, indexes, catalogue, catalogues}
use Rattle.rules.specs.Sound.{Sound}
use Rattle.rules.specs.declared.Layout.{Layout}
use Rattle.demands.specs.Catalogue.{changed}
use Rattle.demands.specs.Effects.{marked_file}
use Rattle.demands.specs.Call as call
use Rattle.demands.specs.Call.{Form, Change, Call, Result, Version, number_of}
use Rattle.demands.specs.Demand2.{Demand2}

-- what is on the medium, which held an image, after the first m writes of a call
abbrev pub cut : {form : Form} → List ℕ → Result form → ℕ → List ℕ
cut image r m = written image (through r.image (take m r.order))

-- repair of that is done, and gives a sound volume with these catalogues
pub record Restores (layout : Layout) (version : Version) (medium : List ℕ) (listed : List (List File)) : Type 0 where
  pub done : number_of version call.repair medium ≡ 0
  pub sound : Sound layout (version call.repair medium).image
  pub catalogues_are : catalogues layout (version call.repair medium).image ≡ listed

-- the catalogues with another one of index i
unfoldable pub with_catalogue : Layout → List ℕ → ℕ → List File → List (List File)
with_catalogue layout image i files = map (λ j. cond (eqb j i) files (catalogue image j)) (indexes layout image)

-- overwriting by the rule with marks, between its two writes: the old catalogue with the bit set
unfoldable pub Between : Layout → Change → (m : ℕ) → Type 0
Between layout (call.overwrite offset bytes) m = (layout.marks ≡ true) × (m ≡ 1)
Between layout (call.create status record_length records_per_sector) m = ⊥
Between layout (call.append bytes) m = ⊥
Between layout call.protect m = ⊥
Between layout call.unprotect m = ⊥
Between layout call.clear m = ⊥
Between layout (call.store bytes) m = ⊥
Between layout call.delete m = ⊥
Between layout (call.rename new) m = ⊥

abbrev pub marked_catalogues : Layout → List ℕ → (directory : ℕ) (name : List ℕ) → List (List File)
marked_catalogues layout image directory name =
    let i = index_at layout image directory in
    with_catalogue layout image i (changed name (marked_file layout) (catalogue image i))

-- a change that was done: before the first write the catalogues are those before it, after the last those after it, and after any number of them one of the two
pub record Withstands (layout : Layout) (version : Version) (change : Change) (directory : ℕ) (name image : List ℕ) : Type 0 where
  pub first : Restores layout version (cut image (version (call.change directory name change) image) 0) (catalogues layout image)
  pub last :
      let r = version (call.change directory name change) image in
      Restores layout version (cut image r (length r.order)) (catalogues layout r.image)
  pub between : (m : ℕ) →
      let r = version (call.change directory name change) image in
      Restores layout version (cut image r m) (catalogues layout image)
      ⊎ (Restores layout version (cut image r m) (catalogues layout r.image)
      ⊎ (Between layout change m × Restores layout version (cut image r m) (marked_catalogues layout image directory name)))

-- every change, with any arguments; formatting and packing are not covered
unfoldable pub Withstood : Layout → Version → Type 0
Withstood layout version =
    (change : Change) (directory : ℕ) (name image : List ℕ) → Sound layout image → number_of version (call.change directory name change) image ≡ 0 → Withstands layout version change directory name image

pub record Stop (layout : Layout) (version : Version) : Type 0 where
  -- demand 2, which says the order of the writes of each change and of repair
  pub meets : Demand2 layout version
  -- no sector is written twice, and when all are written the medium holds the image that the call leaves
  pub once : (c : Call) (image : List ℕ) (k : ℕ) → count k (version c image).order ≤ 1
  pub whole : (directory : ℕ) (name : List ℕ) (change : Change) (image : List ℕ) →
      let r = version (call.change directory name change) image in
      cut image r (length r.order) ≡ r.image
  pub mended : (image : List ℕ) →
      let r = version call.repair image in
      cut image r (length r.order) ≡ r.image
  pub withstands : Withstood layout version
  -- a repair that is cut and begun again ends the same
  pub resumes : (image : List ℕ) (m : ℕ) → number_of version call.repair image ≡ 0 →
      let r = version call.repair image in
      let again = version call.repair (cut image r m) in
      (number_of version call.repair (cut image r m) ≡ 0) × (again.image ≡ r.image)

-- every version that meets demand 2 withstands it
unfoldable pub EmergencyStop : Layout → Type 0
EmergencyStop layout = (version : Version) → Demand2 layout version → Stop layout version

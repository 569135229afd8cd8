-- The two rules beside each other: a disk without marks is the same to both, and by the rule without marks there is none to clear.
use Rattle.std.specs.Prelude.{◌≡◌, false, List, ℕ, ◌<◌, length}
use Rattle.rules.specs.Bytes.{bit_of}
use Rattle.rules.specs.Sectors.{sector_of}
use Rattle.rules.specs.Kind.{with_marks}
use Rattle.rules.specs.Descriptor.{status_of}
use Rattle.rules.specs.Volume.{files_in}
use Rattle.rules.specs.Sound.{file_at, IsIndexed, Sound}
use Rattle.rules.specs.declared.Layout.{Layout}
use Rattle.demands.specs.Call as call
use Rattle.demands.specs.Call.{Version}
use Rattle.demands.specs.Demand2.{Demand2}

-- no file of the volume has changed since its backup
abbrev pub Unmarked : Layout → List ℕ → Type 0
Unmarked layout image = (i : ℕ) → IsIndexed layout image i → (p : ℕ) → p < length (files_in image i) → bit_of (status_of (sector_of image (file_at image i p))) 4 ≡ 0

pub record BothRules : Type 0 where
  -- what is sound by a rule is sound by the one with marks
  pub allowed : (layout : Layout) (image : List ℕ) → Sound layout image → Sound (with_marks layout) image
  -- and what is sound by that one and has no mark is sound by the other
  pub unmarked : (layout : Layout) (image : List ℕ) → Sound (with_marks layout) image → Unmarked layout image → Sound layout image
  -- by the rule without marks no file of a sound volume has one
  pub none : (layout : Layout) (image : List ℕ) → layout.marks ≡ false → Sound layout image → Unmarked layout image

-- So in every version that meets demand 2 under a layout without marks, clearing one leaves a sound volume byte for byte as it was.
unfoldable pub ClearsNothing : Type 0
ClearsNothing = (layout : Layout) (version : Version) → Demand2 layout version → layout.marks ≡ false → (image : List ℕ) (directory : ℕ) (name : List ℕ) → Sound layout image → (version (call.change directory name call.clear) image).image ≡ image

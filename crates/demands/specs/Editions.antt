-- The two editions beside each other: the first is the second one without entries. A disk on which no entry is there is the same to both, and a sound one with a directory gives 6 to the first: its index is marked and has no holder there.
use Rattle.std.specs.Prelude.{◌≡◌, true, false, ◌↔◌, List, ℕ, ◌≤◌, ◌<◌, length}
use Rattle.rules.specs.Bytes.{byte_at}
use Rattle.rules.specs.Sectors.{sector_of}
use Rattle.rules.specs.Volume.{index_at, indexes}
use Rattle.rules.specs.Verdict.{verdict}
use Rattle.rules.specs.Sound.{Sound}
use Rattle.rules.specs.declared.Layout.{Layout}

-- a layout in each edition
abbrev pub first : Layout → Layout
first layout = record { marks = layout.marks; directories = false }

abbrev pub second : Layout → Layout
second layout = record { marks = layout.marks; directories = true }

-- no entry is there: bytes 20 to 55 of sector 0 are zeros
abbrev pub Unentered : List ℕ → Type 0
Unentered image = (b : ℕ) → 20 ≤ b → b < 56 → byte_at (sector_of image 0) b ≡ 0

pub record BothEditions : Type 0 where
  -- the first edition has the root alone
  pub root_alone : (layout : Layout) (image : List ℕ) (directory : ℕ) → (directory ≡ 0 → ⊥) → index_at (first layout) image directory ≡ 0
  -- without entries a volume is sound in one edition exactly if it is in the other
  pub same : (layout : Layout) (image : List ℕ) → Unentered image → Sound (second layout) image ↔ Sound (first layout) image
  -- a sound volume with a directory is refused by the first edition, with 6
  pub refused : (layout : Layout) (image : List ℕ) → Sound (second layout) image → 2 ≤ length (indexes (second layout) image) → verdict (first layout) image ≡ 6

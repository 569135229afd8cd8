-- What repair makes of an image that it accepts: a sound volume. It orders every index by name and makes the map anew; bytes 0 to 55 of sector 0, the numbers that each index lists, and every other sector are as they were.
use Rattle.std.specs.Prelude.{◌≡◌, List, [], ◌∷◌, ◌++◌, ℕ, ◌≤◌, ◌<◌, length}
use Rattle.rules.specs.Bytes.{byte_at}
use Rattle.rules.specs.Sectors.{sector_of}
use Rattle.rules.specs.Volume.{indexes}
use Rattle.rules.specs.Sound.{IsIndexed, Sound}
use Rattle.rules.specs.declared.Layout.{Layout}
use Rattle.demands.specs.Touches.{Others, Numbers}

-- the order of names and the map are those of a sound volume; the writes: the root's index, those of the entries in their order, sector 0
pub record Mends (layout : Layout) (image after order : List ℕ) : Type 0 where
  pub sound : Sound layout after
  pub size : length after ≡ length image
  pub label : (b : ℕ) → b < 56 → byte_at (sector_of after 0) b ≡ byte_at (sector_of image 0) b
  pub bytes : (b : ℕ) → 56 ≤ b → b < 256 → byte_at (sector_of after 0) b < 256
  pub numbers : (i : ℕ) → IsIndexed layout image i → Numbers image after i [] []
  pub others : Others image after (0 ∷ indexes layout image)
  pub writes : order ≡ indexes layout image ++ (0 ∷ [])

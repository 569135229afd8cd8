-- What formatting leaves: a volume that is sound, which the judge gives 0 and whose catalogue, that of the root alone, is empty; and what stands in every byte of it.
use Rattle.std.specs.Prelude.{◌≡◌, List, [], ◌∷◌, ℕ, ◌-◌, ◌/◌, ◌%◌, length, drop, replicate}
use Rattle.rules.specs.Bytes.{part}
use Rattle.rules.specs.Map.{map_of}
use Rattle.rules.specs.Volume.{catalogues}
use Rattle.rules.specs.Verdict.{verdict}
use Rattle.rules.specs.Sound.{Sound}
use Rattle.rules.specs.Calls.Format.{Geometry}
use Rattle.rules.specs.declared.Layout.{Layout}

pub record EmptyVolume (layout : Layout) (image : List ℕ) : Type 0 where
  pub sound : Sound layout image
  pub judged : verdict layout image ≡ 0
  pub empty : catalogues layout image ≡ [] ∷ []

-- disk name; n, sectors per track, "DSK", a space, tracks, sides, density; zeros at 20-55; the map; a zero sector 1; and E5 hex in every other byte
pub record Formats (n : ℕ) (name : List ℕ) (geometry : Geometry) (image : List ℕ) : Type 0 where
  pub name_is : part image 0 10 ≡ name
  pub fields : part image 10 10 ≡
      n / 256 ∷ (n % 256 ∷ (geometry.sectors_per_track ∷ (0x44 ∷ (0x53 ∷ (0x4B ∷ (0x20 ∷ (geometry.tracks ∷ (geometry.sides ∷ (geometry.density ∷ [])))))))))
  pub reserved : part image 20 36 ≡ replicate 36 0
  pub map : part image 56 200 ≡ map_of n (0 ∷ (1 ∷ []))
  pub index : part image 256 256 ≡ replicate 256 0
  pub rest : drop 512 image ≡ replicate (length image - 512) 0xE5

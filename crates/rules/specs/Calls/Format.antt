-- Formatting takes n, a disk name, sectors per track, tracks, sides and density. It writes those, "DSK", a space at 16, zeros at 20-55, the map, a zero sector 1, and E5 hex in every other byte. It tests only 1 and 7, and reads nothing of the image.
use Rattle.std.specs.Prelude.{not, List, [], ◌∷◌, ◌++◌, ℕ, ◌-◌, ◌*◌, ◌/◌, ◌%◌, eqb, replicate}
use Rattle.rules.specs.Sectors.{sector_count}
use Rattle.rules.specs.Name.{name_rule}
use Rattle.rules.specs.Map.{map_of}
use Rattle.rules.specs.Tests.{Test, refuse, first_of, unless_met}
use Rattle.rules.specs.Verdict.{size_rule}

-- sectors per track, tracks, sides, density
pub record Geometry : Type 0 where
  pub sectors_per_track : ℕ
  pub tracks : ℕ
  pub sides : ℕ
  pub density : ℕ

-- bytes 0 to 55 of sector 0
unfoldable pub new_label : ℕ → List ℕ → Geometry → List ℕ
new_label n name g =
    name
    ++ (((n / 256) ∷ ((n % 256) ∷ (g.sectors_per_track ∷ (0x44 ∷ (0x53 ∷ (0x4B ∷ (0x20 ∷ (g.tracks ∷ (g.sides ∷ (g.density ∷ []))))))))))
    ++ replicate 36 0)

unfoldable pub formatted : ℕ → List ℕ → Geometry → List ℕ
formatted n name g = new_label n name g ++ (map_of n (0 ∷ (1 ∷ [])) ++ (replicate 256 0 ++ replicate (256 * (n - 2)) 0xE5))

unfoldable pub format_tests : List ℕ → ℕ → List ℕ → List Test
format_tests image n name =
    refuse 1 (not (size_rule image)) ∷ (refuse 1 (not (eqb n (sector_count image))) ∷ (refuse 7 (not (name_rule name)) ∷ []))

abbrev pub format_number : List ℕ → ℕ → List ℕ → ℕ
format_number image n name = first_of (format_tests image n name)

-- the whole image afterwards
unfoldable pub after_format : List ℕ → ℕ → List ℕ → Geometry → List ℕ
after_format image n name g = unless_met (format_tests image n name) (formatted n name g) image

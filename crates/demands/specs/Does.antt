-- What is shown of our version where a call that writes was done, by the definition that its code promises.
use Rattle.std.specs.Prelude.{◌≡◌, true, List, ℕ, ◌≤◌, length}
use Rattle.rules.specs.Sectors.{Whole, sectors_in, through, written}
use Rattle.rules.specs.Name.{name_rule}
use Rattle.rules.specs.Calls.Format.{Geometry, formatted, format_number, after_format}
use Rattle.rules.specs.Calls.Repair.{repair_of}
use Rattle.rules.specs.declared.Layout.{Layout}
use Rattle.demands.specs.Call.{Change, change_rule}
use Rattle.demands.specs.Ours.{outcome}
use Rattle.demands.specs.Effects.{Changed}
use Rattle.demands.specs.Touches.{Touches}
use Rattle.demands.specs.Formatting.{EmptyVolume}

-- a change: what it leaves of the catalogue, and of the sectors, and their order; its writes are whole sectors of the volume
abbrev pub Does : Layout → Change → Type 0
Does layout change = (image : List ℕ) (directory : ℕ) (name : List ℕ) → (outcome layout change image directory name).number ≡ 0 →
    let after = written image (outcome layout change image directory name).writes in
    let writes = (outcome layout change image directory name).writes in
    Changed (change_rule layout change) change image after directory name × Touches (change_rule layout change) change image after directory name (sectors_in writes) × Whole (length image) writes

-- a host that writes the sectors of the image afterwards through, in the order that it is given, makes the writes of the definition
pub record HostWrites (layout : Layout) : Type 0 where
  pub changes : (change : Change) (directory : ℕ) (name image : List ℕ) →
      let writes = (outcome layout change image directory name).writes in
      through (written image writes) (sectors_in writes) ≡ writes
  pub repairs : (image : List ℕ) →
      let writes = (repair_of layout image).writes in
      through (written image writes) (sectors_in writes) ≡ writes

-- the bytes that formatting writes
unfoldable pub Formatting : Layout → Type 0
Formatting layout = (n : ℕ) (name : List ℕ) (g : Geometry) → 3 ≤ n → n ≤ 1600 → name_rule name ≡ true → EmptyVolume layout (formatted n name g)

-- and the call, whatever the image was
unfoldable pub FormatCall : Layout → Type 0
FormatCall layout = (image : List ℕ) (n : ℕ) (name : List ℕ) (g : Geometry) → format_number image n name ≡ 0 → EmptyVolume layout (after_format image n name g)

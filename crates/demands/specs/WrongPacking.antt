-- What demand 3 shuts out, each for any version of its kind: packing that is the identity, packing to a constant image, packing that copies free sectors' remains,
-- packing that lets anything of them show, so that equal disks differ, and, where there are directories, packing that keeps the numbers of their index sectors.
use Rattle.std.specs.Prelude.{◌≡◌, true, List, ℕ, ◌≤◌, ◌<◌}
use Rattle.rules.specs.Sectors.{sector_of, sector_count}
use Rattle.rules.specs.Map.{count}
use Rattle.rules.specs.Directory.{entries}
use Rattle.rules.specs.Volume.{holders}
use Rattle.rules.specs.declared.Layout.{Layout}
use Rattle.demands.specs.Demand3.{Packer, Packable, Demand3}

-- where it packs, the target is the source
unfoldable pub Identity : Packer → Type 0
Identity pack = (source target : List ℕ) → (pack source target).number ≡ 0 → (pack source target).target ≡ source

-- it is the same image whatever the source
unfoldable pub Constant : Packer → Type 0
Constant pack = (first second target other : List ℕ) → (pack first target).number ≡ 0 → (pack second other).number ≡ 0 → (pack first target).target ≡ (pack second other).target

-- a free sector of it has the bytes that the sector has in the source
unfoldable pub Copying : Layout → Packer → Type 0
Copying layout pack =
    (source target : List ℕ) (k : ℕ) → (pack source target).number ≡ 0 → k < sector_count source → count k (holders layout (pack source target).target) ≡ 0
    → sector_of (pack source target).target k ≡ sector_of source k

-- two volumes that differ in free sectors alone come out different
pub record Showing (layout : Layout) (pack : Packer) : Type 0 where
  pub first : List ℕ
  pub second : List ℕ
  pub target : List ℕ
  pub other : List ℕ
  pub can : Packable layout first target
  pub can' : Packable layout second other
  pub held : (k : ℕ) → 1 ≤ count k (holders layout first) → sector_of second k ≡ sector_of first k
  pub differ : (pack first target).target ≡ (pack second other).target → ⊥

-- where it packs, the entries of directories are those of the source
unfoldable pub Keeping : Layout → Packer → Type 0
Keeping layout pack =
    (source target : List ℕ) → (pack source target).number ≡ 0 → entries layout (sector_of (pack source target).target 0) ≡ entries layout (sector_of source 0)

pub record WrongPacking (layout : Layout) : Type 0 where
  pub not_identity : (pack : Packer) → Identity pack → Demand3 layout pack → ⊥
  pub not_constant : (pack : Packer) → Constant pack → Demand3 layout pack → ⊥
  pub not_copying : (pack : Packer) → Copying layout pack → Demand3 layout pack → ⊥
  pub not_showing : (pack : Packer) → Showing layout pack → Demand3 layout pack → ⊥
  pub not_keeping : layout.directories ≡ true → (pack : Packer) → Keeping layout pack → Demand3 layout pack → ⊥

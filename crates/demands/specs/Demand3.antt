-- Demand 3, a statement about any version of packing, over the catalogues of demand 2: packing gives the one laid down form. Equal packed bytes exactly for equal label areas and catalogues, where the label area is read without the numbers of the index sectors of directories and the catalogue is that of root and each entry; the same catalogue as the original; packing again changes nothing.
use Rattle.std.specs.Prelude.{◌≡◌, ◌↔◌, List, ℕ, length}
use Rattle.rules.specs.Volume.{catalogues}
use Rattle.rules.specs.Verdict.{verdict}
use Rattle.rules.specs.Sound.{Sound}
use Rattle.rules.specs.Calls.Pack.{label_area, pack_number, after_pack}
use Rattle.rules.specs.declared.Layout.{Layout}
use Rattle.demands.specs.Packing.{Packs}

-- what packing answers, and the whole target afterwards
pub record Packed : Type 0 where
  pub number : ℕ
  pub target : List ℕ

abbrev pub Packer : Type 0
Packer = (source target : List ℕ) → Packed

-- a source and a target that can be packed: the source is sound, and the target has its length
pub record Packable (layout : Layout) (source target : List ℕ) : Type 0 where
  pub sound : Sound layout source
  pub long : length target ≡ length source

pub record Demand3 (layout : Layout) (pack : Packer) : Type 0 where
  -- 0 exactly where it can be packed; otherwise the number of the source, 1 to 6, and 15 for a target of another length
  pub done : (source target : List ℕ) → ((pack source target).number ≡ 0) ↔ Packable layout source target
  pub judged : (source target : List ℕ) → (Sound layout source → ⊥) → (pack source target).number ≡ verdict layout source
  pub measured : (source target : List ℕ) → Sound layout source → (length target ≡ length source → ⊥) → (pack source target).number ≡ 15
  -- a refusal leaves the target as it was
  pub refuses : (source target : List ℕ) → ((pack source target).number ≡ 0 → ⊥) → (pack source target).target ≡ target
  -- the target is the source in the one laid down form
  pub laid : (source target : List ℕ) → Packable layout source target → Packs layout source (pack source target).target
  -- it is sound; label area and catalogue are those of its original by its form
  pub sound : (source target : List ℕ) → Packable layout source target → Sound layout (pack source target).target
  -- packing it again changes nothing
  pub again : (source target other : List ℕ) → Packable layout source target → length other ≡ length source
      → ((pack (pack source target).target other).number ≡ 0) × ((pack (pack source target).target other).target ≡ (pack source target).target)
  -- one form: equal bytes exactly for equal label areas and catalogues
  pub form : (first second target other : List ℕ) → Packable layout first target → Packable layout second other
      → ((pack first target).target ≡ (pack second other).target) ↔ ((label_area layout first ≡ label_area layout second) × (catalogues layout first ≡ catalogues layout second))
  -- nothing of the target's old bytes shows
  pub fresh : (source target other : List ℕ) → Packable layout source target → Packable layout source other → (pack source target).target ≡ (pack source other).target

-- the demand is complete: two versions that meet it do the same, on every source and target
unfoldable pub OnePacking : Layout → Type 0
OnePacking layout = (first second : Packer) → Demand3 layout first → Demand3 layout second → (source target : List ℕ) → first source target ≡ second source target

-- the software's version: the rules
unfoldable pub packs : Layout → Packer
packs layout source target = record { number = pack_number layout source target; target = after_pack layout source target }

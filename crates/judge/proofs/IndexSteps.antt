-- The numbers of an index, a number at a time; and the descriptors that they lead to.
use mathlib.Core.Path.{◌≡◌}
use mathlib.Core.Bool.{true, ◌&&◌}
use mathlib.Core.List.{List, [], ◌∷◌}
use Prim.Native.Nat.{ℕ, ◌<◌}
use lib.Dec.{leb, ltb}
use borrow.Author.Tests.{ltb-true}
use Rattle.rules.specs.Sectors.{sector_of}
use Rattle.rules.specs.Index.{range_rule}
use Rattle.rules.specs.Name.{precedes}
use Rattle.rules.specs.Descriptor.{name_of, descriptor_rule}
use Rattle.rules.specs.Volume.{name_in}
use Rattle.rules.specs.Verdict.{descriptors_rule}
use Rattle.rules.specs.declared.Layout.{Layout}
use Rattle.rules.proofs.Tests.{both}

-- a number in range, and those behind it
pub range_step : (n k : ℕ) (ks more : List ℕ) → range_rule n ks ≡ true → ks ≡ k ∷ more → (k < n) × (range_rule n more ≡ true)
unfolding range_rule
range_step n k ks more ranged here =
    let low = both (leb 2 k) (ltb k n && range_rule n more) (rw here at ranged) in
    let high = both (ltb k n) (range_rule n more) low.1 in
    (ltb-true k n high.0, high.1)

-- the descriptors
module _ (layout : Layout) (n : ℕ) (image previous ks : List ℕ) where
  pub descriptors_step : (k : ℕ) (more descriptor name : List ℕ) → ks ≡ k ∷ more → descriptor ≡ sector_of image k → name ≡ name_of descriptor
      → descriptors_rule layout n image previous ks ≡ (descriptor_rule layout n descriptor && (precedes previous name && descriptors_rule layout n image name more))
  unfolding descriptors_rule name_in
  descriptors_step k more descriptor name here ed en = rw (here, en, ed)

  pub descriptors_past : ks ≡ [] → descriptors_rule layout n image previous ks ≡ true
  unfolding descriptors_rule
  descriptors_past none = rw none

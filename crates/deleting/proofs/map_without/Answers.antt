-- `deleting::map_without` meets its contract: a copy of sector 0, with the bits that `clear_file` clears. Assumes nothing.
use mathlib.Core.Path.{◌≡◌, ap}
use mathlib.Core.List.{List, ◌∷◌}
use Prim.Native.Nat.{ℕ}
use native.Mathlib.Omega.{arith}
use lib.ListN.{length}
use Rattle.rules.specs.Sectors.{sector_of}
use Rattle.rules.specs.Chain.{places}
use Rattle.rules.specs.Map.{marked_all}
use Rattle.rules.specs.Descriptor.{chain_of}
use Rattle.rules.specs.Volume.{places_in}
use Rattle.rules.proofs.Opening.{file_long}
use Rattle.deleting.proofs.map_without.Goals as goal

pub copy_from_slice-requires : goal.copy_from_slice-requires
copy_from_slice-requires c =
    let whole = c.requires.1.sound in
    omega (arith, ap length c.sector_of.ensures, file_long _ _ 0 whole (omega (arith, whole.size)), c.told-sector0)

cleared : (image descriptor chain first copied after : List ℕ) (k number : ℕ) → descriptor ≡ sector_of image k → chain ≡ chain_of descriptor → first ≡ sector_of image 0 → copied ≡ first → number ≡ k
    → after ≡ marked_all 0 copied (number ∷ places chain) → after ≡ marked_all 0 (sector_of image 0) (k ∷ places_in image k)
unfolding places_in
cleared image descriptor chain first copied after k number there its is copy same clear = rw (clear, copy, is, same, its, there)

pub returns : goal.returns
returns c =
    cleared _ _ _ _ _ _ _ _ c.descriptor_of.ensures c.chain.ensures c.sector_of.ensures c.copy_from_slice.ensures.after c.from.ensures c.clear_file.ensures

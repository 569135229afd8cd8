-- `renaming::moved` meets its contract: the numbers that are left are those of the index laid anew without k. Assumes nothing.
use mathlib.Core.Path.{◌≡◌}
use mathlib.Core.List.{List}
use Prim.Native.Nat.{ℕ}
use Rattle.rules.specs.Sectors.{sector_of}
use Rattle.rules.specs.Index.{numbers, index_of, without}
use Rattle.rules.specs.Volume.{files_in, placed}
use Rattle.rules.specs.Sound.{IsFile}
use Rattle.rules.specs.declared.Layout.{Layout}
use Rattle.rules.proofs.Indexed.{left_numbers}
use Rattle.renaming.proofs.moved.Goals as goal

anew : (layout : Layout) (image new old others index : List ℕ) (i k number : ℕ) → IsFile layout image i k → old ≡ sector_of image i → number ≡ k → others ≡ index_of (without number (numbers old))
    → index ≡ index_of (placed image new k (numbers others)) → index ≡ index_of (placed image new k (without k (files_in image i)))
unfolding files_in
anew layout image new old others index i k number file there same left with-it = rw (with-it, left, same, there, left_numbers _ _ _ _ (file.sound.each _ file.indexed))

pub returns : goal.returns
returns c = anew _ _ _ _ _ _ _ _ _ c.requires.1 c.sector_of.ensures c.from.ensures c.index_without.ensures c.index_with.ensures

-- The files of several indexes: those of the first and those of the rest. Those of all directories are few: at most four indexes are there, and none has more than 256.
use mathlib.Core.Path.{◌≡◌}
use mathlib.Core.Bool.{Bool, true, false, cond}
use mathlib.Core.List.{List, [], ◌∷◌}
use Prim.Native.Nat.{ℕ, suc, ◌+◌, ◌*◌, ◌≤◌}
use native.Mathlib.Omega.{arith}
use lib.Dec.{eqb}
use lib.ListN.{length, length-append}
use Rattle.rules.specs.Sectors.{sector_of}
use Rattle.rules.specs.Volume.{directories, present, indexes, files_in, files_of}
use Rattle.rules.specs.declared.Layout.{Layout}
use Rattle.rules.proofs.Index.{numbers_inside}
use Rattle.rules.proofs.Sectors.{sector_short}
use Rattle.sector.proofs.DirectoryLaws.{directories_few}

pub files_first : (image is more : List ℕ) (i count : ℕ) → is ≡ i ∷ more → count ≡ length (files_in image i) → length (files_of image is) ≡ count + length (files_of image more)
unfolding files_of
files_first image is more i count here e = rw (here, e) (length-append (files_in image i) (files_of image more))

present_few : (is : List ℕ) → length (present is) ≤ length is
unfolding present
present_few [] = omega arith
present_few (i ∷ is) = go (eqb i 0) (present_few is)
  where
    go : (t : Bool) → length (present is) ≤ length is → length (cond t (present is) (i ∷ present is)) ≤ suc (length is)
    go true few = omega (arith, few)
    go false few = omega (arith, few)

files_few : (image is : List ℕ) → length (files_of image is) ≤ 256 * length is
unfolding files_of files_in
files_few image [] = omega arith
files_few image (i ∷ is) = rw length-append (omega (arith, numbers_inside (sector_of image i), sector_short image i, files_few image is))

pub all_few : (layout : Layout) (image : List ℕ) → length (files_of image (indexes layout image)) ≤ 1024
unfolding indexes
all_few layout image = omega (arith, files_few image (present (directories layout image)), present_few (directories layout image), directories_few layout image)

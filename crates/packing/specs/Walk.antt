-- What the iterator over the files of all indexes has still to give.
use Rattle.std.specs.Prelude.{List, ◌++◌, ℕ}
use Rattle.rules.specs.Volume.{files_of}
use Rattle.sector.specs.Numbers.{numbers_left}
use Rattle.sector.specs.Directories.{indexes_left}
use Rattle.packing.specs.declared.walk.Files.{Files}

-- the rest of the present index, then the files of the indexes to come
abbrev pub files_left : Files → List ℕ
files_left left = numbers_left left.numbers ++ files_of left.image.now (indexes_left left.indexes)

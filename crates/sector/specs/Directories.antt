-- The sector of an index, of which 0 is none; and what the iterator over the directories has still to give: the indexes that are there, from a number on.
use Rattle.std.specs.Prelude.{Option, None, Some, List, ℕ, zero, suc, drop}
use Rattle.rules.specs.Volume.{directories, present}
use Rattle.rules.specs.declared.Layout.{Layout}
use Rattle.sector.specs.declared.directories.Indexes.{Indexes}

abbrev pub some_index : ℕ → Option ℕ
some_index zero = None
some_index (suc less) = Some (suc less)

unfoldable pub indexes_from : Layout → List ℕ → ℕ → List ℕ
indexes_from layout image directory = present (drop directory (directories layout image))

abbrev pub indexes_left : Indexes → List ℕ
indexes_left left = indexes_from left.layout left.image.now left.directory

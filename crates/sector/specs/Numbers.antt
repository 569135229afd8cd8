-- What the iterator over the numbers of an index has still to give.
use Rattle.std.specs.Prelude.{List, ℕ}
use Rattle.rules.specs.Index.{numbers}
use Rattle.sector.specs.declared.numbers.Numbers.{Numbers}

abbrev pub numbers_left : Numbers → List ℕ
numbers_left left = numbers left.index.now

-- `packing::walk::files_of` meets its contract: no index is begun, and all are to come. Assumes nothing.
use mathlib.Core.Path.{◌≡◌, refl}
use mathlib.Core.List.{[]}
use Rattle.rules.specs.Index.{numbers}
use Rattle.packing.proofs.walk.files_of.Goals as goal

-- no bytes have no numbers
no_numbers : numbers [] ≡ []
unfolding numbers
no_numbers = refl

pub returns : goal.returns
returns c = rw (c.numbers_of.ensures, no_numbers, c.indexes_of.ensures) refl

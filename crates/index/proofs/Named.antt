-- The name that a walk over an index reads.
use mathlib.Core.Path.{◌≡◌}
use mathlib.Core.List.{List}
use Prim.Native.Nat.{ℕ}
use Rattle.rules.specs.Sectors.{sector_of}
use Rattle.rules.specs.Descriptor.{name_of}
use Rattle.rules.specs.Volume.{name_in}

-- the name that was read is that of the file whose number stands there
pub named : (image sector there : List ℕ) (j : ℕ) → sector ≡ sector_of image j → there ≡ name_of sector → there ≡ name_in image j
unfolding name_in
named image sector there j e f = rw (f, e)

use mathlib.Core.Path.{◌≡◌}
use mathlib.Core.Bool.{◌&&◌}
use lib.Dec.{eqb}
use lib.ListN.{drop}
use Rattle.rules.specs.Bytes.{all_are}
use Rattle.sector.proofs.bytes.all_are.Given as goal

abbrev pub invariant-loop-byte : goal.invariant-loop-byte
invariant-loop-byte l = (eqb l.differing 0 && all_are l.value (drop l.byte-index l.byte-items)) ≡ all_are l.value (drop l.from l.bytes)

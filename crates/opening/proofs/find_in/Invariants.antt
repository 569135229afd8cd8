use mathlib.Core.Path.{◌≡◌}
use Prim.Native.Nat.{◌+◌, ◌<◌}
use lib.ListN.{length}
use Rattle.rules.specs.Opening.{find_from, find_in}
use Rattle.sector.specs.Numbers.{numbers_left}
use Rattle.opening.proofs.find_in.Given as goal

abbrev pub invariant-loop-sector : goal.invariant-loop-sector
invariant-loop-sector l =
    (l.place + length (numbers_left l.sector-iterator) < 256) × (find_from l.image l.i l.name l.place (numbers_left l.sector-iterator) ≡ find_in l.image l.i l.name)

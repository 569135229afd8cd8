use mathlib.Core.Path.{◌≡◌}
use mathlib.Core.List.{map}
use Prim.Native.Nat.{◌≤◌, ◌-◌}
use lib.ListN.{take}
use Rattle.rules.specs.Bytes.{splice}
use Rattle.rules.specs.Sectors.{sector_of, joined}
use Rattle.rules.specs.Chain.{places}
use Rattle.descriptor.specs.Ahead.{places_left, Steady}
use Rattle.loading.proofs.join.Given as goal

abbrev pub invariant-loop-place : goal.invariant-loop-place
invariant-loop-place l =
    Steady l.place-iterator × (l.at ≤ l.size)
    × (splice l.out l.at (take (l.size - l.at) (joined (map (sector_of l.image) (places_left l.place-iterator)))) ≡ splice l.initial.out 0 (take l.size (joined (map (sector_of l.image) (places l.chain)))))

use mathlib.Core.Path.{◌≡◌}
use mathlib.Core.Bool.{false}
use Prim.Native.Nat.{◌-◌, ◌≤◌}
use lib.ListN.{length, drop}
use Rattle.rules.specs.Bytes.{all_are}
use Rattle.rules.specs.Name.{wrong_from}
use Rattle.descriptor.proofs.name.wrong_place.Given as goal

abbrev pub invariant-loop-used : goal.invariant-loop-used
invariant-loop-used l = (wrong_from false 0 l.name ≡ wrong_from false l.used (drop l.used l.name)) × (1 ≤ l.used → all_are 32 l.name ≡ false)

abbrev pub decreases-loop-used : goal.decreases-loop-used
decreases-loop-used l = length l.name - l.used

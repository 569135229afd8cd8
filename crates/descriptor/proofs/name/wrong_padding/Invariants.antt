use mathlib.Core.Path.{◌≡◌}
use mathlib.Core.Bool.{true}
use Prim.Native.Nat.{◌-◌}
use lib.ListN.{length, drop}
use Rattle.rules.specs.Name.{wrong_from}
use Rattle.descriptor.proofs.name.wrong_padding.Given as goal

abbrev pub invariant-loop-behind : goal.invariant-loop-behind
invariant-loop-behind l = wrong_from true l.used (drop l.used l.name) ≡ wrong_from true l.behind (drop l.behind l.name)

abbrev pub decreases-loop-behind : goal.decreases-loop-behind
decreases-loop-behind l = length l.name - l.behind

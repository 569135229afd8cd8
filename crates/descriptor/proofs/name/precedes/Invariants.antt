-- The order of what is left of the two names is the order of the names.
use mathlib.Core.Path.{◌≡◌}
use lib.ListN.{drop}
use Rattle.rules.specs.Name.{precedes}
use Rattle.descriptor.proofs.name.precedes.Given as goal

abbrev pub invariant-loop-i : goal.invariant-loop-i
invariant-loop-i l = precedes (drop l.i l.first) (drop l.i l.second) ≡ precedes l.first l.second

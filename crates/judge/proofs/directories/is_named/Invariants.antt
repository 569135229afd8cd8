use mathlib.Core.Path.{◌≡◌}
use Prim.Native.Nat.{◌-◌}
use lib.ListN.{drop}
use Rattle.rules.specs.Directory.{is_named}
use Rattle.judge.specs.Entered.{three_entries}
use Rattle.judge.proofs.directories.is_named.Given as goal

abbrev pub invariant-loop-later : goal.invariant-loop-later
invariant-loop-later l = is_named l.name (drop l.later (three_entries l.sector0)) ≡ is_named l.name (drop l.from (three_entries l.sector0))

abbrev pub decreases-loop-later : goal.decreases-loop-later
decreases-loop-later l = 3 - l.later

use mathlib.Core.Path.{◌≡◌}
use Prim.Native.Nat.{◌-◌}
use lib.ListN.{drop}
use Rattle.rules.specs.Directory.{entries_rule}
use Rattle.judge.specs.Entered.{three_entries}
use Rattle.judge.proofs.directories.entries_rule.Given as goal

abbrev pub invariant-loop-place : goal.invariant-loop-place
invariant-loop-place l = entries_rule l.n (drop l.place (three_entries l.sector0)) ≡ entries_rule l.n (three_entries l.sector0)

abbrev pub decreases-loop-place : goal.decreases-loop-place
decreases-loop-place l = 3 - l.place

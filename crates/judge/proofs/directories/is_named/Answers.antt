-- `judge::directories::is_named` meets its contract. The loop's invariant: one of the entries from `later` on has the name exactly where one of those from `from` on has.
-- The measure is how many places are left. Assumes nothing.
use mathlib.Core.Path.{◌≡◌, refl, sym, ap, ◌∙◌}
use mathlib.Core.Bool.{Bool, true, false, ◌||◌}
use mathlib.Core.List.{List}
use Prim.Native.Nat.{ℕ, ◌+◌}
use native.Mathlib.Omega.{arith}
use lib.ListN.{drop}
use Rattle.rules.specs.Bytes.{part}
use Rattle.rules.specs.Directory.{entry_name, is_named}
use Rattle.judge.specs.Entered.{three_entries}
use Rattle.judge.proofs.DirectorySteps.{named_step, named_past}
use Rattle.judge.proofs.directories.is_named.Goals as goal
use Rattle.judge.proofs.directories.is_named.Goals.{After-same}

-- this entry and those behind it, by what the comparison gave
stepped : (c : After-same) (found : Bool) → c.same.result ≡ found →
    let a = c.args in
    is_named a.name.now (drop a.from (three_entries a.sector0.now)) ≡ (found || is_named a.name.now (drop (c.loop-later.later + 1) (three_entries a.sector0.now)))
unfolding entry_name
stepped c found e =
    sym c.loop-later.invariant
    ∙ named_step _ _ _ found _ (omega arith) (c.part.ensures ∙ ap (λ (entry : List ℕ). part entry 0 10) c.part-entry.ensures) (sym e ∙ c.same.ensures)

pub returns-then-same : goal.returns-then-same
returns-then-same c = sym (stepped (goal.at.returns-then-same c).After-same true c.if-same.true)

pub loop-later-preserved : goal.loop-later-preserved
loop-later-preserved c = sym (stepped (goal.at.loop-later-preserved c).After-same false c.if-same.false)

pub returns : goal.returns
returns c = sym (sym c.loop-later.invariant ∙ named_past _ _ _ c.loop-later-test.false)

pub loop-later-init : goal.loop-later-init
loop-later-init c = refl

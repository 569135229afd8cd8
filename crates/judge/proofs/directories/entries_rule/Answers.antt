-- `judge::directories::entries_rule` meets its contract. Without directories there is no entry. The loop's invariant: the entries from `place` on keep the rule exactly where all do.
-- The measure is how many places are left. Assumes nothing.
use mathlib.Core.Path.{◌≡◌, refl, sym, ap, ◌∙◌}
use mathlib.Core.Bool.{Bool, true, false, ◌&&◌}
use Prim.Native.Nat.{◌+◌}
use lib.ListN.{drop}
use borrow.Author.Tests.{not-true, not-false}
use Rattle.rules.specs.Directory.{entries, entries_rule}
use Rattle.judge.specs.Entered.{three_entries}
use Rattle.judge.proofs.DirectorySteps.{entries_three, entries_none, rule_step, rule_past}
use Rattle.judge.proofs.directories.entries_rule.Goals as goal
use Rattle.judge.proofs.directories.entries_rule.Goals.{After-entry_rule, Else-not-layout}

pub returns-then-not-layout : goal.returns-then-not-layout
unfolding entries_rule
returns-then-not-layout c = let a = c.args in rw (entries_none a.layout a.sector0.now (not-true a.layout.directories c.if-not-layout.true))

-- with directories, all of them are the three
second : (c : Else-not-layout) → let a = c.args in entries_rule a.n (three_entries a.sector0.now) ≡ entries_rule a.n (entries a.layout a.sector0.now)
second c = let a = c.args in ap (entries_rule a.n) (sym (entries_three a.layout a.sector0.now (not-false a.layout.directories c.if-not-layout.false)))

-- this entry and those behind it, by what its rule gave
stepped : (c : After-entry_rule) (good : Bool) → c.entry_rule.result ≡ good →
    let a = c.args in
    entries_rule a.n (entries a.layout a.sector0.now) ≡ (good && entries_rule a.n (drop (c.loop-place.place + 1) (three_entries a.sector0.now)))
stepped c good e = sym (c.loop-place.invariant ∙ second (goal.at.After-entry_rule c).Else-not-layout) ∙ rule_step _ _ _ good c.loop-place-test.true (sym e ∙ c.entry_rule.ensures)

pub returns-then-not-entry_rule : goal.returns-then-not-entry_rule
returns-then-not-entry_rule c = sym (stepped (goal.at.returns-then-not-entry_rule c).After-entry_rule false (c.if-not-entry_rule.true))

pub loop-place-preserved : goal.loop-place-preserved
loop-place-preserved c = sym (second (goal.at.loop-place-preserved c).Else-not-layout ∙ stepped (goal.at.loop-place-preserved c).After-entry_rule true (c.if-not-entry_rule.false))

pub returns : goal.returns
returns c = sym (sym (c.loop-place.invariant ∙ second (goal.at.returns c).Else-not-layout) ∙ rule_past _ _ _ c.loop-place-test.false)

pub loop-place-init : goal.loop-place-init
loop-place-init c = refl

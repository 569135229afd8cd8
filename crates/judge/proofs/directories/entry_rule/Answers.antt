-- `judge::directories::entry_rule` meets its contract: each test came out as the rule's. Assumes nothing.
use mathlib.Core.Path.{◌≡◌, sym, ap, ◌∙◌}
use mathlib.Core.Bool.{true, false}
use mathlib.Core.List.{List}
use Prim.Native.Nat.{ℕ, ◌+◌, ◌*◌}
use borrow.Author.Tests.{le-leb, lt-leb, lt-ltb, le-ltb}
use Rattle.rules.specs.Bytes.{part}
use Rattle.rules.specs.Name.{name_rule}
use Rattle.rules.specs.Directory.{entry_name, entry_index, is_absent, entry_rule}
use Rattle.judge.proofs.directories.entry_rule.Goals as goal
use Rattle.judge.proofs.directories.entry_rule.Goals.{After-all_are, After-name_rule, After-part-entry, After-part-name, After-from-i, Else-all_are, Else-not-name_rule}

abbrev entry : After-part-entry → List ℕ
entry c = let a = c.args in part a.sector0.now (20 + 12 * a.place) 12

-- what each test says of it
absent_is : (c : After-all_are) → is_absent (entry (goal.at.After-all_are c).After-part-entry) ≡ c.all_are.result
unfolding is_absent
absent_is c = rw (← c.part-entry.ensures) (sym c.all_are.ensures)

present : (c : Else-all_are) → is_absent (entry (goal.at.Else-all_are c).After-part-entry) ≡ false
present c = absent_is (goal.at.Else-all_are c).After-all_are ∙ c.if-all_are.false

name_is : (c : After-part-name) → c.part-name.result.now ≡ entry_name (entry (goal.at.After-part-name c).After-part-entry)
unfolding entry_name
name_is c = c.part-name.ensures ∙ ap (λ (bytes : List ℕ). part bytes 0 10) c.part-entry.ensures

named_is : (c : After-name_rule) → name_rule (entry_name (entry (goal.at.After-name_rule c).After-part-entry)) ≡ c.name_rule.result
named_is c = sym (c.name_rule.ensures ∙ ap name_rule (name_is (goal.at.After-name_rule c).After-part-name))

good_name : (c : Else-not-name_rule) → name_rule (entry_name (entry (goal.at.Else-not-name_rule c).After-part-entry)) ≡ true
good_name c = named_is (goal.at.Else-not-name_rule c).After-name_rule ∙ c.if-not-name_rule.false

index_is : (c : After-from-i) → entry_index (entry (goal.at.After-from-i c).After-part-entry) ≡ c.from-i.result
index_is c = sym (c.from-i.ensures ∙ c.word.ensures ∙ ap entry_index c.part-entry.ensures)

pub returns-then-all_are : goal.returns-then-all_are
returns-then-all_are c = rw (absent_is (goal.at.returns-then-all_are c).After-all_are ∙ c.if-all_are.true)

pub returns-then-not-name_rule : goal.returns-then-not-name_rule
unfolding entry_rule
returns-then-not-name_rule c = rw (present (goal.at.returns-then-not-name_rule c).Else-all_are, named_is (goal.at.returns-then-not-name_rule c).After-name_rule ∙ c.if-not-name_rule.true)

pub returns-then-i-lt2 : goal.returns-then-i-lt2
unfolding entry_rule
returns-then-i-lt2 c =
    rw (present (goal.at.returns-then-i-lt2 c).Else-all_are, good_name (goal.at.returns-then-i-lt2 c).Else-not-name_rule, index_is (goal.at.returns-then-i-lt2 c).After-from-i, lt-leb _ _ c.if-i-lt2.true)

pub returns-then-i-n : goal.returns-then-i-n
unfolding entry_rule
returns-then-i-n c =
    rw (present (goal.at.returns-then-i-n c).Else-all_are, good_name (goal.at.returns-then-i-n c).Else-not-name_rule, index_is (goal.at.returns-then-i-n c).After-from-i, le-leb _ _ c.if-i-lt2.false, le-ltb _ _ c.if-i-n.true)

pub returns : goal.returns
unfolding entry_rule
returns c =
    rw (present (goal.at.returns c).Else-all_are, good_name (goal.at.returns c).Else-not-name_rule, index_is (goal.at.returns c).After-from-i, le-leb _ _ c.if-i-lt2.false, lt-ltb _ _ c.if-i-n.false, ← name_is (goal.at.returns c).After-part-name, ← c.is_named.ensures)

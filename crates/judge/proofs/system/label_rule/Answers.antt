-- `judge::system::label_rule` meets its contract: each way out is the first test of the rule that came out false, and the last test where the others passed. Assumes nothing.
use mathlib.Core.Path.{◌≡◌, sym, ◌∙◌}
use mathlib.Core.Bool.{true}
use Rattle.rules.specs.Bytes.{part}
use Rattle.rules.specs.Name.{name_rule}
use Rattle.rules.specs.Label.{label_rule}
use Rattle.rules.proofs.Tests.{equal_by, unequal_by}
use Rattle.judge.proofs.system.label_rule.Goals as goal
use Rattle.judge.proofs.system.label_rule.Goals.{After-name_rule, Else-not-name_rule}

-- the name's test came out as the rule's
named : (c : After-name_rule) → name_rule (part c.args.sector0.now 0 10) ≡ c.name_rule.result
named c = rw (← c.part.ensures) (sym c.name_rule.ensures)

good : (c : Else-not-name_rule) → name_rule (part c.args.sector0.now 0 10) ≡ true
good c = named (goal.at.Else-not-name_rule c).After-name_rule ∙ c.if-not-name_rule.false

pub returns-then-not-name_rule : goal.returns-then-not-name_rule
unfolding label_rule
returns-then-not-name_rule c = rw (named (goal.at.returns-then-not-name_rule c).After-name_rule, c.if-not-name_rule.true)

pub returns-then-from-n : goal.returns-then-from-n
unfolding label_rule
returns-then-from-n c =
    rw (good (goal.at.returns-then-from-n c).Else-not-name_rule, unequal_by (c.from.ensures ∙ c.word.ensures) c.if-from-n.true)

pub returns-then-byte-ne68 : goal.returns-then-byte-ne68
unfolding label_rule
returns-then-byte-ne68 c =
    rw (good (goal.at.returns-then-byte-ne68 c).Else-not-name_rule, equal_by (c.from.ensures ∙ c.word.ensures) c.if-from-n.false, unequal_by c.byte.ensures c.if-byte-ne68.true)

pub returns-then-byte-ne83 : goal.returns-then-byte-ne83
unfolding label_rule
returns-then-byte-ne83 c =
    rw (good (goal.at.returns-then-byte-ne83 c).Else-not-name_rule, equal_by (c.from.ensures ∙ c.word.ensures) c.if-from-n.false, equal_by c.byte.ensures c.if-byte-ne68.false, unequal_by c.byte-2.ensures c.if-byte-ne83.true)

pub returns : goal.returns
unfolding label_rule
returns c =
    rw (
      c.byte-3.ensures,
      good (goal.at.returns c).Else-not-name_rule,
      equal_by (c.from.ensures ∙ c.word.ensures) c.if-from-n.false,
      equal_by c.byte.ensures c.if-byte-ne68.false,
      equal_by c.byte-2.ensures c.if-byte-ne83.false,
    )

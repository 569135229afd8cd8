-- `descriptor::name::name_rule` meets its contract. The loop's invariant: the rest from i on is padded exactly where the name keeps the rule.
-- The measure is what is left of the length. Assumes nothing.
use mathlib.Core.Path.{sym, ◌∙◌}
use borrow.Author.Tests.{eq-eqb, ne_eqb}
use Rattle.rules.specs.Name.{name_rule}
use Rattle.rules.proofs.Name.{padded_step, padded_end}
use Rattle.std.proofs.Common.{rules}
use Rattle.descriptor.proofs.name.name_rule.Goals as goal

pub returns-then-name-ne10 : goal.returns-then-name-ne10
unfolding name_rule
returns-then-name-ne10 c = rw (ne_eqb _ _ c.if-name-ne10.true)

pub returns-then-not-name_byte : goal.returns-then-not-name_byte
unfolding name_rule
returns-then-not-name_byte c =
    rw (eq-eqb _ _ c.if-name-ne10.false, sym c.name_byte.ensures ∙ c.if-not-name_byte.true)

pub loop-i-init : goal.loop-i-init
unfolding name_rule
loop-i-init c =
    (search rules, rw (eq-eqb _ _ c.if-name-ne10.false, sym c.name_byte.ensures ∙ c.if-not-name_byte.false))

pub returns-then-b-eq32 : goal.returns-then-b-eq32
returns-then-b-eq32 c =
    c.all_are.ensures ∙ sym (sym c.loop-i.invariant.1 ∙ padded_step _ _ c.loop-i-test.true ∙ rw (eq-eqb _ _ c.if-b-eq32.true))

pub returns-then-not-name_byte-2 : goal.returns-then-not-name_byte-2
returns-then-not-name_byte-2 c =
    let bad = sym c.name_byte-in-loop-i.ensures ∙ c.if-not-name_byte-2.true in
    sym (sym c.loop-i.invariant.1 ∙ padded_step _ _ c.loop-i-test.true ∙ rw (ne_eqb _ _ c.if-b-eq32.false, bad))

pub loop-i-preserved : goal.loop-i-preserved
loop-i-preserved c =
    let good = sym c.name_byte-in-loop-i.ensures ∙ c.if-not-name_byte-2.false in
    (search rules, sym (sym c.loop-i.invariant.1 ∙ padded_step _ _ c.loop-i-test.true ∙ rw (ne_eqb _ _ c.if-b-eq32.false, good)))

pub returns : goal.returns
returns c = sym (sym c.loop-i.invariant.1 ∙ padded_end _ _ c.loop-i-test.false)

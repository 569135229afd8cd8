-- `descriptor::name::wrong_padding` meets its contract. The loop's invariant: behind a space, the first wrong byte from `behind` on is that from `used` on. The measure is what is left of the
-- length. Assumes nothing.
use mathlib.Core.Path.{◌≡◌, refl, sym, ◌∙◌}
use mathlib.Core.Bool.{true}
use lib.ListN.{drop}
use borrow.Author.Tests.{eq-eqb, ne_eqb}
use Rattle.rules.specs.Name.{wrong_from}
use Rattle.std.specs.Prelude.{None, Some}
use Rattle.rules.proofs.Misnamed.{wrong_step, wrong_end}
use Rattle.rules.proofs.Outcome.{wrong-there, wrong_nowhere}
use Rattle.descriptor.proofs.name.wrong_padding.Goals as goal
use Rattle.descriptor.proofs.name.wrong_padding.Goals.{After-loop-behind}

pub loop-behind-init : goal.loop-behind-init
loop-behind-init c = refl

pub returns-then-name-behind-ne32 : goal.returns-then-name-behind-ne32
returns-then-name-behind-ne32 c = sym (wrong-there _ Some _ _ (c.loop-behind.invariant ∙ wrong_step _ _ _ c.loop-behind-test.true ∙ rw (ne_eqb _ _ c.if-name-behind-ne32.true)))

pub loop-behind-preserved : goal.loop-behind-preserved
loop-behind-preserved c = c.loop-behind.invariant ∙ wrong_step _ _ _ c.loop-behind-test.true ∙ rw (eq-eqb _ _ c.if-name-behind-ne32.false)

-- spaces to the end
none : (c : After-loop-behind) →
    let a = c.args in
    wrong_from true a.used (drop a.used a.name.now) ≡ None
none c = c.loop-behind.invariant ∙ wrong_end _ _ _ c.loop-behind-test.false

pub returns-then-used-eq0 : goal.returns-then-used-eq0
returns-then-used-eq0 c = sym (wrong_nowhere _ Some _ (none (goal.at.returns-then-used-eq0 c).After-loop-behind) ∙ rw (eq-eqb _ _ c.if-used-eq0.true))

pub returns : goal.returns
returns c = sym (wrong_nowhere _ Some _ (none (goal.at.returns c).After-loop-behind) ∙ rw (ne_eqb _ _ c.if-used-eq0.false))

-- `descriptor::name::wrong_place` meets its contract. The loop's invariant: the first wrong byte is that from `used` on, and where there are bytes before it, the name is not blank. The measure
-- is what is left of the length. Assumes nothing.
use mathlib.Core.Path.{◌≡◌, refl, sym, ◌∙◌}
use mathlib.Core.Bool.{false}
use native.Mathlib.Omega.{arith}
use lib.ListN.{drop}
use borrow.Author.Tests.{eq-eqb, ne_eqb}
use Rattle.rules.specs.Bytes.{all_are}
use Rattle.rules.specs.Name.{wrong_from, wrong_place}
use Rattle.rules.proofs.Misnamed.{wrong_step, wrong_end, wrong_space, not_blank, wrong_behind}
use Rattle.descriptor.proofs.name.wrong_place.Goals as goal
use Rattle.descriptor.proofs.name.wrong_place.Goals.{At-loop-used, Else-here-eq32}

pub returns-then-name-ne10 : goal.returns-then-name-ne10
unfolding wrong_place
returns-then-name-ne10 c = rw (ne_eqb _ _ c.if-name-ne10.true)

pub loop-used-init : goal.loop-used-init
loop-used-init c = (refl, λ some. absurd (omega (arith, some)))

-- ten bytes, and one of them no space
found : (c : At-loop-used) →
    let name = c.args.name.now in
    all_are 32 name ≡ false → wrong_place name ≡ wrong_from false c.loop-used.used (drop c.loop-used.used name)
unfolding wrong_place
found c other = rw (eq-eqb _ _ c.if-name-ne10.false, other) c.loop-used.invariant.0

pub returns-then-here-eq32 : goal.returns-then-here-eq32
returns-then-here-eq32 c =
    let loop = c.loop-used in
    c.wrong_padding.ensures
    ∙ sym (wrong_behind _ _ c.if-name-ne10.false (loop.invariant.0 ∙ wrong_space _ _ c.loop-used-test.true c.if-here-eq32.true) loop.invariant.1)

-- no space here
solid : (c : Else-here-eq32) → all_are 32 c.args.name.now ≡ false
solid c = not_blank _ _ c.loop-used-test.true c.if-here-eq32.false

pub returns-then-not-name_byte : goal.returns-then-not-name_byte
returns-then-not-name_byte c =
    sym (found (goal.at.returns-then-not-name_byte c).At-loop-used (solid (goal.at.returns-then-not-name_byte c).Else-here-eq32) ∙ wrong_step _ _ _ c.loop-used-test.true
    ∙ rw (ne_eqb _ _ c.if-here-eq32.false, sym c.name_byte.ensures ∙ c.if-not-name_byte.true))

pub loop-used-preserved : goal.loop-used-preserved
loop-used-preserved c = (
  c.loop-used.invariant.0 ∙ wrong_step _ _ _ c.loop-used-test.true
      ∙ rw (ne_eqb _ _ c.if-here-eq32.false, sym c.name_byte.ensures ∙ c.if-not-name_byte.false),
  λ some. solid (goal.at.loop-used-preserved c).Else-here-eq32,
)

pub returns : goal.returns
returns c =
    sym (found (goal.at.returns c).At-loop-used (c.loop-used.invariant.1 (omega (arith, c.if-name-ne10.false, c.loop-used-test.false))) ∙ wrong_end _ _ _ c.loop-used-test.false)

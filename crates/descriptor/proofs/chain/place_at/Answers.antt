-- `descriptor::chain::place_at` meets its contract. The loop's invariant: place `left` of the blocks that are still to come is the place asked for. Assumes nothing.
use mathlib.Core.Path.{sym, ◌∙◌}
use native.Mathlib.Omega.{arith}
use Rattle.rules.specs.Chain.{places}
use Rattle.descriptor.proofs.Places.{place_here, place_later, no_place}
use Rattle.descriptor.proofs.chain.place_at.Goals as goal

pub loop-block-init : goal.loop-block-init
unfolding places
loop-block-init c = rw (c.into_iter-block-iterator.ensures.into_iter_gives, c.blocks_of-block-items.ensures)

pub returns-then-left-more-clause-value : goal.returns-then-left-more-clause-value
returns-then-left-more-clause-value c =
    let l = c.loop-block in
    sym (sym l.invariant ∙ rw c.in-Some.ensures.steps.is (place_here c.in-Some.block _ l.next l.left (omega (arith, c.saturating_sub-more.ensures, c.if-left-more.true))))

pub loop-block-preserved : goal.loop-block-preserved
loop-block-preserved c =
    let l = c.loop-block in
    let more = c.saturating_sub-more.ensures in
    sym (sym l.invariant ∙ rw (c.in-Some.ensures.steps.is, more) (place_later c.in-Some.block _ l.next l.left (omega (arith, more, c.if-left-more.false))))

pub returns-clause-value : goal.returns-clause-value
returns-clause-value c =
    let l = c.loop-block in
    sym (sym l.invariant ∙ rw c.in-None.ensures.steps.is.0 (no_place l.next l.left))

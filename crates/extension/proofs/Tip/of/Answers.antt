-- `extension::Tip::of` meets its contract. The loop's invariant: behind the present tip, the blocks that are still to come give the tip of the chain. Assumes nothing.
use mathlib.Core.Path.{refl, sym, ap, ◌∙◌}
use native.Mathlib.Omega.{arith}
use lib.ListN.{length}
use Rattle.extension.specs.Tip.{tip_of}
use Rattle.extension.proofs.Tips.{blocks_few, tip_none, tip_step, tip_end}
use Rattle.extension.proofs.Tip.of.Goals as goal

pub loop-block-init : goal.loop-block-init
unfolding tip_of
loop-block-init c =
    let none = c.default-tip.ensures in
    let e = tip_none c.default-tip.result none.0 none.1.0 none.1.1.0 none.1.1.1 in
    rw (e, c.into_iter-block-iterator.ensures.into_iter_gives, c.blocks_of-block-items.ensures) (omega (arith, blocks_few c.args.chain.now), omega arith, omega arith, refl)

pub loop-block-preserved : goal.loop-block-preserved
loop-block-preserved c =
    let l = c.loop-block in
    let next = c.in-Some.ensures.steps in (
      omega (arith, l.invariant.0, ap length next.is),
      next.small.start,
      omega (arith, next.small.last),
      sym (tip_step _ _ _ _ next.is) ∙ l.invariant.3,
    )

pub returns : goal.returns
returns c =
    let l = c.loop-block in
    let none = c.in-None.ensures.steps.is.0 in
    record {
      is = sym (tip_end _ _ none) ∙ l.invariant.3;
      used = omega (arith, l.invariant.0);
      start = l.invariant.1;
      next = l.invariant.2;
    }

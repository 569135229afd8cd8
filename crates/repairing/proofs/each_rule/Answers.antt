-- `repairing::each_rule` meets its contract. The loop's invariant: the descriptors of the numbers that are left keep their rules exactly where all do, and those numbers are in range.
-- Assumes nothing.
use native.Mathlib.Omega.{arith}
use Rattle.rules.specs.Volume.{files_in}
use Rattle.rules.specs.Calls.Repair.{each_rule}
use Rattle.judge.proofs.IndexSteps.{range_step}
use Rattle.repairing.proofs.each_rule.Goals as goal

pub loop-k-init : goal.loop-k-init
unfolding files_in
loop-k-init c = record {
  rule = rw (c.into_iter-k-iterator.ensures.into_iter_gives, c.numbers_of-k-items.ensures, c.sector_in.ensures);
  range = rw (c.into_iter-k-iterator.ensures.into_iter_gives, c.numbers_of-k-items.ensures, c.sector_in.ensures) c.requires.2;
}

pub sector_in-requires-in-loop-k : goal.sector_in-requires-in-loop-k
sector_in-requires-in-loop-k c = omega (arith, c.requires.1, c.from.ensures, (range_step _ _ _ _ c.loop-k.invariant.range c.in-Some.ensures.steps).0)

pub returns-then-not-descriptor_rule : goal.returns-then-not-descriptor_rule
unfolding each_rule
returns-then-not-descriptor_rule c =
    rw (← c.loop-k.invariant.rule, c.in-Some.ensures.steps, ← c.from.ensures, ← c.sector_in-in-loop-k.ensures, ← c.descriptor_rule.ensures, c.if-not-descriptor_rule.true)

pub loop-k-preserved : goal.loop-k-preserved
unfolding each_rule
loop-k-preserved c = record {
  rule = rw (← c.loop-k.invariant.rule, c.in-Some.ensures.steps, ← c.from.ensures, ← c.sector_in-in-loop-k.ensures, ← c.descriptor_rule.ensures, c.if-not-descriptor_rule.false);
  range = (range_step _ _ _ _ c.loop-k.invariant.range c.in-Some.ensures.steps).1;
}

pub returns : goal.returns
unfolding each_rule
returns c = rw (← c.loop-k.invariant.rule, c.in-None.ensures.steps.0)

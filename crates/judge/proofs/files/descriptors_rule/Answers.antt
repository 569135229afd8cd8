-- `judge::files::descriptors_rule` meets its contract. The loop's invariant: the descriptors of the numbers that are left keep their rules, after the name before them, exactly where all do,
-- and those numbers are in range. Assumes nothing.
use native.Mathlib.Omega.{arith}
use Rattle.rules.specs.Descriptor.{name_of}
use Rattle.rules.specs.Volume.{name_in, files_in}
use Rattle.rules.specs.Verdict.{descriptors_rule}
use Rattle.judge.proofs.IndexSteps.{range_step}
use Rattle.judge.proofs.files.descriptors_rule.Goals as goal

pub loop-k-init : goal.loop-k-init
unfolding files_in
loop-k-init c = record {
  rule = rw (c.part-previous.ensures, c.into_iter-k-iterator.ensures.into_iter_gives, c.numbers_of-k-items.ensures, c.sector_in.ensures);
  range = rw (c.into_iter-k-iterator.ensures.into_iter_gives, c.numbers_of-k-items.ensures, c.sector_in.ensures) c.requires.2;
}

pub sector_in-descriptor-requires : goal.sector_in-descriptor-requires
sector_in-descriptor-requires c =
    omega (arith, c.requires.1, c.from.ensures, (range_step _ _ _ _ c.loop-k.invariant.range c.in-Some.ensures.steps).0)

pub returns-then-not-descriptor_rule : goal.returns-then-not-descriptor_rule
unfolding descriptors_rule
returns-then-not-descriptor_rule c =
    rw (
      ← c.loop-k.invariant.rule,
      c.in-Some.ensures.steps,
      ← c.from.ensures,
      ← c.sector_in-descriptor.ensures,
      ← c.descriptor_rule.ensures,
      c.if-not-descriptor_rule.true,
    )

pub returns-then-not-precedes : goal.returns-then-not-precedes
unfolding descriptors_rule name_in name_of
returns-then-not-precedes c =
    rw (
      ← c.loop-k.invariant.rule,
      c.in-Some.ensures.steps,
      ← c.from.ensures,
      ← c.sector_in-descriptor.ensures,
      ← c.descriptor_rule.ensures,
      c.if-not-descriptor_rule.false,
      ← c.part-name.ensures,
      ← c.precedes.ensures,
      c.if-not-precedes.true,
    )

pub loop-k-preserved : goal.loop-k-preserved
unfolding descriptors_rule name_in name_of
loop-k-preserved c = record {
  rule = rw (
    ← c.loop-k.invariant.rule,
    c.in-Some.ensures.steps,
    ← c.from.ensures,
    ← c.sector_in-descriptor.ensures,
    ← c.descriptor_rule.ensures,
    c.if-not-descriptor_rule.false,
    ← c.part-name.ensures,
    ← c.precedes.ensures,
    c.if-not-precedes.false,
  );
  range = (range_step _ _ _ _ c.loop-k.invariant.range c.in-Some.ensures.steps).1;
}

pub returns : goal.returns
unfolding descriptors_rule
returns c = rw (← c.loop-k.invariant.rule, c.in-None.ensures.steps.0)

-- `judge::files::descriptor_rule` meets its contract: each way out is the first test of the rule that came out false, and the last test where the others passed. Assumes nothing.
use Rattle.rules.specs.Descriptor.{chain_of, descriptor_rule}
use Rattle.judge.proofs.files.descriptor_rule.Goals as goal

pub returns-then-not-name_rule : goal.returns-then-not-name_rule
unfolding descriptor_rule
returns-then-not-name_rule c = rw (← c.name.ensures, ← c.name_rule.ensures, c.if-not-name_rule.true)

pub returns-then-not-status_rule : goal.returns-then-not-status_rule
unfolding descriptor_rule
returns-then-not-status_rule c =
    rw (← c.name.ensures, ← c.name_rule.ensures, c.if-not-name_rule.false, ← c.status.ensures, ← c.from.ensures, ← c.status_rule.ensures, c.if-not-status_rule.true)

pub returns-then-not-kind_rule : goal.returns-then-not-kind_rule
unfolding descriptor_rule
returns-then-not-kind_rule c =
    rw (
      ← c.name.ensures,
      ← c.name_rule.ensures,
      c.if-not-name_rule.false,
      ← c.status.ensures,
      ← c.from.ensures,
      ← c.status_rule.ensures,
      c.if-not-status_rule.false,
      ← c.sectors-c.ensures,
      ← c.kind.ensures,
      ← c.end_offset.ensures,
      ← c.kind_rule.ensures,
      c.if-not-kind_rule.true,
    )

pub returns : goal.returns
unfolding descriptor_rule chain_of
returns c =
    rw (
      ← c.name.ensures,
      ← c.name_rule.ensures,
      c.if-not-name_rule.false,
      ← c.status.ensures,
      ← c.from.ensures,
      ← c.status_rule.ensures,
      c.if-not-status_rule.false,
      ← c.sectors-c.ensures,
      ← c.kind.ensures,
      ← c.end_offset.ensures,
      ← c.kind_rule.ensures,
      c.if-not-kind_rule.false,
      ← c.from-2.ensures,
      ← c.part.ensures,
      ← c.chain_rule.ensures,
    )

use Rattle.std.proofs.Common.{◌≡◌, ◌+◌, ◌*◌, length}
use Rattle.rules.specs.Chain.{blocks, blocks_rule}
use Rattle.descriptor.specs.Walk.{blocks_left}
use Rattle.judge.proofs.files.chain_rule.Given as goal

abbrev pub invariant-loop-block : goal.invariant-loop-block
invariant-loop-block l = record {
  behind : l.at + 3 * length (blocks_left l.block-iterator) ≡ 3 * length (blocks l.chain);
  rule : blocks_rule l.n l.c l.next (blocks_left l.block-iterator) ≡ blocks_rule l.n l.c 0 (blocks l.chain);
}

use Rattle.std.proofs.Common.{◌≡◌, ◌+◌, ◌*◌, length}
use Rattle.rules.specs.Index.{numbers, range_rule}
use Rattle.sector.specs.Numbers.{numbers_left}
use Rattle.judge.proofs.system.index_rule.Given as goal

abbrev pub invariant-loop-k : goal.invariant-loop-k
invariant-loop-k l = record {
  behind : l.at + 2 * length (numbers_left l.k-iterator) ≡ 2 * length (numbers l.index);
  rule : range_rule l.n (numbers_left l.k-iterator) ≡ range_rule l.n (numbers l.index);
}

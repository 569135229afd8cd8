use mathlib.Core.Path.{◌≡◌}
use mathlib.Core.Bool.{true}
use Rattle.rules.specs.Index.{range_rule}
use Rattle.rules.specs.Volume.{files_in}
use Rattle.rules.specs.Calls.Repair.{each_rule}
use Rattle.sector.specs.Numbers.{numbers_left}
use Rattle.repairing.proofs.each_rule.Given as goal

abbrev pub invariant-loop-k : goal.invariant-loop-k
invariant-loop-k l = record {
  rule : each_rule l.layout l.n l.image (numbers_left l.k-iterator) ≡ each_rule l.layout l.n l.image (files_in l.image l.i);
  range : range_rule l.n (numbers_left l.k-iterator) ≡ true;
}

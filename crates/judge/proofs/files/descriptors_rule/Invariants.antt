use mathlib.Core.Path.{◌≡◌}
use mathlib.Core.Bool.{true}
use mathlib.Core.List.{[]}
use Rattle.rules.specs.Index.{range_rule}
use Rattle.rules.specs.Volume.{files_in}
use Rattle.rules.specs.Verdict.{descriptors_rule}
use Rattle.sector.specs.Numbers.{numbers_left}
use Rattle.judge.proofs.files.descriptors_rule.Given as goal

abbrev pub invariant-loop-k : goal.invariant-loop-k
invariant-loop-k l = record {
  rule : descriptors_rule l.layout l.n l.image l.previous (numbers_left l.k-iterator) ≡ descriptors_rule l.layout l.n l.image [] (files_in l.image l.i);
  range : range_rule l.n (numbers_left l.k-iterator) ≡ true;
}

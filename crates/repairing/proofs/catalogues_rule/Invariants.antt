use mathlib.Core.Path.{◌≡◌}
use mathlib.Core.Bool.{true, ◌&&◌}
use mathlib.Core.List.{[]}
use Rattle.rules.specs.Sectors.{sector_of}
use Rattle.rules.specs.Index.{index_rule}
use Rattle.rules.specs.Volume.{indexes, every, files_in}
use Rattle.rules.specs.Calls.Repair.{each_rule, distinct_rule}
use Rattle.sector.specs.Directories.{indexes_left}
use Rattle.judge.specs.Claim.{Below}
use Rattle.repairing.proofs.catalogues_rule.Given as goal

abbrev pub invariant-loop-i : goal.invariant-loop-i
invariant-loop-i l = record {
  rule : every (λ i. each_rule l.layout l.n l.image (files_in l.image i) && distinct_rule l.image [] (files_in l.image i)) (indexes_left l.i-iterator)
      ≡ every (λ i. each_rule l.layout l.n l.image (files_in l.image i) && distinct_rule l.image [] (files_in l.image i)) (indexes l.layout l.image);
  below : Below l.n (indexes_left l.i-iterator);
  indexed : every (λ i. index_rule l.n (sector_of l.image i)) (indexes_left l.i-iterator) ≡ true;
}

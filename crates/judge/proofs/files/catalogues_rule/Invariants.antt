use mathlib.Core.Path.{◌≡◌}
use mathlib.Core.Bool.{true}
use mathlib.Core.List.{[]}
use Rattle.rules.specs.Sectors.{sector_of}
use Rattle.rules.specs.Index.{index_rule}
use Rattle.rules.specs.Volume.{indexes, every, files_in}
use Rattle.rules.specs.Verdict.{descriptors_rule}
use Rattle.sector.specs.Directories.{indexes_left}
use Rattle.judge.specs.Claim.{Below}
use Rattle.judge.proofs.files.catalogues_rule.Given as goal

abbrev pub invariant-loop-i : goal.invariant-loop-i
invariant-loop-i l = record {
  rule : every (λ i. descriptors_rule l.layout l.n l.image [] (files_in l.image i)) (indexes_left l.i-iterator) ≡ every (λ i. descriptors_rule l.layout l.n l.image [] (files_in l.image i)) (indexes l.layout l.image);
  below : Below l.n (indexes_left l.i-iterator);
  indexed : every (λ i. index_rule l.n (sector_of l.image i)) (indexes_left l.i-iterator) ≡ true;
}

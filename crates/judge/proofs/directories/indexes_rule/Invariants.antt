use mathlib.Core.Path.{◌≡◌}
use Rattle.rules.specs.Sectors.{sector_of}
use Rattle.rules.specs.Index.{index_rule}
use Rattle.rules.specs.Volume.{indexes, every}
use Rattle.sector.specs.Directories.{indexes_left}
use Rattle.judge.specs.Claim.{Below}
use Rattle.judge.proofs.directories.indexes_rule.Given as goal

abbrev pub invariant-loop-i : goal.invariant-loop-i
invariant-loop-i l =
    Below l.n (indexes_left l.i-iterator)
    × (every (λ i. index_rule l.n (sector_of l.image i)) (indexes_left l.i-iterator) ≡ every (λ i. index_rule l.n (sector_of l.image i)) (indexes l.fn.layout l.image))

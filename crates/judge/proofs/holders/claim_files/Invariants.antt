use mathlib.Core.Path.{◌≡◌}
use mathlib.Core.Bool.{false}
use mathlib.Core.List.{◌++◌}
use lib.ListN.{length}
use Rattle.rules.specs.Sectors.{sector_count}
use Rattle.rules.specs.Volume.{files_in, file_holders}
use Rattle.sector.specs.Numbers.{numbers_left}
use Rattle.descriptor.specs.Ahead.{places_left, Steady}
use Rattle.judge.proofs.ClaimSteps.{Left}
use Rattle.judge.proofs.holders.claim_files.Given as goal

abbrev pub invariant-loop-place : goal.invariant-loop-place
invariant-loop-place l =
    let rest = file_holders l.image (numbers_left l.k-iterator) in
    (l.twice ≡ l.initial.twice) × Steady l.places × Left (sector_count l.image) l.initial.marks (places_left l.initial.places ++ rest) l.marks (places_left l.places ++ rest)

abbrev pub decreases-loop-place : goal.decreases-loop-place
decreases-loop-place l = length (places_left l.places)

abbrev pub invariant-files : goal.invariant-files
invariant-files l =
    (l.twice ≡ false) × Left (sector_count l.image) l.initial.marks (file_holders l.image (files_in l.image l.i)) l.marks (file_holders l.image (numbers_left l.k-iterator))

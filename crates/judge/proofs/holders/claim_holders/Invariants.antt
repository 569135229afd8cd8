use Rattle.rules.specs.Sectors.{sector_count}
use Rattle.rules.specs.Volume.{indexes}
use Rattle.sector.specs.Directories.{indexes_from}
use Rattle.judge.specs.Claim.{claims}
use Rattle.judge.proofs.ClaimSteps.{Left}
use Rattle.judge.proofs.holders.claim_holders.Given as goal

abbrev pub invariant-loop-directory : goal.invariant-loop-directory
invariant-loop-directory l =
    Left (sector_count l.image) l.initial.marks (claims l.image (indexes l.layout l.image)) l.marks (claims l.image (indexes_from l.layout l.image l.directory))

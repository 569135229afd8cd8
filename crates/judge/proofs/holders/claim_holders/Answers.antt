-- `judge::holders::claim_holders` meets its contract. The loop's invariant: what is left to claim from the directory's number on, on the marks as they are, comes to what the whole comes to.
-- Assumes nothing.
use mathlib.Core.Path.{◌≡◌, refl, ap, ◌∙◌}
use mathlib.Core.List.{List, [], ◌++◌}
use mathlib.Core.Bool.{not}
use Prim.Native.Nat.{ℕ, ◌+◌, ◌<◌}
use native.Mathlib.Omega.{arith}
use Rattle.rules.specs.Sectors.{sector_count}
use Rattle.rules.specs.Chain.{run}
use Rattle.rules.specs.Volume.{indexes, files_in, file_holders}
use Rattle.rules.proofs.Map.{count_append}
use Rattle.sector.specs.Directories.{indexes_from}
use Rattle.sector.proofs.DirectoryLaws.{from_root, from_past, from_absent, from_there}
use Rattle.sector.proofs.IndexLaws.{there_none, there_some}
use Rattle.judge.specs.Claim.{claims}
use Rattle.judge.proofs.ClaimSteps.{Left, left_start, left_as, left_none, left_below, left_taken, left_clash, left_behind, left_twice, claims_step, claims_past, run_alone}
use Rattle.judge.proofs.holders.claim_holders.Goals as goal
use Rattle.judge.proofs.holders.claim_holders.Goals.{After-from-i, After-loop-directory, At-loop-directory, Else-not-take}

-- what is left to claim, of the whole; what the files of the index that stands here hold; and what is left behind it
abbrev To : At-loop-directory → List ℕ → List ℕ → Type 0
To c = Left (sector_count c.args.image.now) c.args.marks.now (claims c.args.image.now (indexes c.args.layout c.args.image.now))

abbrev held : After-from-i → List ℕ
held c = file_holders c.args.image.now (files_in c.args.image.now c.from-i.result)

abbrev rest : After-from-i → List ℕ
rest c = claims c.args.image.now (indexes_from c.args.layout c.args.image.now (c.loop-directory.directory + 1))

-- at an index that is there, whose sector is k
opened : (c : After-from-i) {k : ℕ} → k ≡ c.from-i.result → To (goal.at.After-from-i c).At-loop-directory c.loop-directory.marks (run k (0 + 1) ++ (held c ++ rest c))
opened c same =
    let there = there_some _ _ _ c.index_at.ensures c.in-Some.is in
    rw (same, c.from-i.ensures) (left_as _ _ _ _ (claims_step _ _ _ _ (from_there _ _ _ _ there.0 there.1) ∙ run_alone _ _) c.loop-directory.invariant)

-- its own sector taken
behind : (c : Else-not-take) → let at = (goal.at.Else-not-take c).After-from-i in To (goal.at.Else-not-take c).At-loop-directory c.take.new.marks (held at ++ rest at)
behind c =
    let t = c.take in
    left_taken _ _ _ _ _ _ _ (opened (goal.at.Else-not-take c).After-from-i (omega arith)) _ t.result t.ensures.0 t.ensures.1 (ap not c.if-not-take.false)

-- the number that stands here is a sector of the volume
inside : (c : After-from-i) → c.from-i.result < sector_count c.args.image.now
inside c = omega (arith, left_below _ _ _ _ _ _ _ (opened c refl) 0 (omega arith))

-- behind the last directory
done : (c : After-loop-directory) → claims c.args.image.now (indexes_from c.args.layout c.args.image.now c.loop-directory.directory) ≡ []
done c = claims_past _ _ (from_past _ _ _ (rw (c.directory_count-directory-end.ensures.0 c.args.image.now) at c.loop-directory-test.false))

pub loop-directory-init : goal.loop-directory-init
loop-directory-init c = rw from_root (left_start _ _ _ c.requires.1)

pub loop-directory-preserved-in_default : goal.loop-directory-preserved-in_default
loop-directory-preserved-in_default c =
    left_as _ _ _ _ (ap (claims c.args.image.now) (from_absent _ _ _ _ refl (there_none _ _ c.index_at.ensures c.in_default.is))) c.loop-directory.invariant

pub take-requires : goal.take-requires
take-requires c = (omega (arith, inside (goal.at.take-requires c).After-from-i, c.requires.0), omega arith)

pub returns-then-not-take-clause-value : goal.returns-then-not-take-clause-value
returns-then-not-take-clause-value c =
    let t = c.take in
    left_clash _ _ _ _ _ _ _ (opened (goal.at.returns-then-not-take-clause-value c).After-from-i (omega arith)) _ t.result t.ensures.0 t.ensures.1 (ap not c.if-not-take.true)

pub claim_files-requires : goal.claim_files-requires
claim_files-requires c =
    let at = (goal.at.claim_files-requires c).After-from-i in
    (inside at, c.requires.0, λ k some. (behind (goal.at.claim_files-requires c).Else-not-take).below k (omega (arith, some, count_append k (held at) (rest at))))

pub returns-then-claim_files-clause-value : goal.returns-then-claim_files-clause-value
returns-then-claim_files-clause-value c =
    left_twice _ _ _ _ _ _ (behind (goal.at.returns-then-claim_files-clause-value c).Else-not-take) c.claim_files.result c.claim_files.ensures.value c.if-claim_files.true

pub loop-directory-preserved : goal.loop-directory-preserved
loop-directory-preserved c =
    let r = c.claim_files in
    left_behind _ _ _ _ _ _ (behind (goal.at.loop-directory-preserved c).Else-not-take) r.result r.ensures.value c.if-claim_files.false _ (r.ensures.marks_after c.if-claim_files.false)

pub returns-clause-value : goal.returns-clause-value
returns-clause-value c = (left_none _ _ _ _ (done (goal.at.returns-clause-value c).After-loop-directory) c.loop-directory.invariant).0

pub returns-clause-marks_after : goal.returns-clause-marks_after
returns-clause-marks_after c = λ e. (left_none _ _ _ _ (done (goal.at.returns-clause-marks_after c).After-loop-directory) c.loop-directory.invariant).1

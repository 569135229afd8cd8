-- `judge::holders::claim_files` meets its contract. The invariant of the loop over the files: what those that are still to come hold, claimed on the marks as they are, comes to what the whole
-- comes to. That of the loop over a file's sectors: the same of the places that are still to come and the files after. The measure is the number of these places. Assumes nothing.
use mathlib.Core.Path.{refl, sym, ap, ◌∙◌}
use mathlib.Core.Bool.{not}
use mathlib.Core.List.{List, ◌++◌}
use Prim.Native.Nat.{ℕ, ◌+◌, ◌<◌}
use native.Mathlib.Omega.{arith}
use Rattle.rules.specs.Sectors.{sector_count}
use Rattle.rules.specs.Chain.{run}
use Rattle.rules.specs.Descriptor.{chain_of}
use Rattle.rules.specs.Volume.{files_in, places_in, file_holders}
use Rattle.sector.specs.Numbers.{numbers_left}
use Rattle.descriptor.specs.Ahead.{places_left, past}
use Rattle.judge.proofs.ClaimSteps.{Left, left_start, left_as, left_from, left_none, left_below, left_taken, left_clash, files_step, files_past, places_ahead, run_alone, stretch_ahead, stretch_less}
use Rattle.judge.proofs.holders.claim_files.Goals as goal
use Rattle.judge.proofs.holders.claim_files.Goals.{After-beside-more, After-from-k, After-places_of-places, At-files, At-loop-place, In-Some}

-- what is left to claim, of the whole; and what is left behind the file that stands here
abbrev To : At-files → List ℕ → List ℕ → Type 0
To c = Left (sector_count c.args.image.now) c.args.marks.now (file_holders c.args.image.now (files_in c.args.image.now c.args.i))

abbrev behind : In-Some → List ℕ
behind c = file_holders c.args.image.now (numbers_left c.next.new.self)

-- at a file
opened : (c : After-from-k) →
    let k = c.from-k.result in
    To (goal.at.After-from-k c).At-files c.files.marks (run k (0 + 1) ++ (places_in c.args.image.now k ++ behind (goal.at.After-from-k c).In-Some))
opened c = rw c.from-k.ensures (left_as _ _ _ _ (files_step _ _ _ _ c.in-Some.ensures.steps ∙ run_alone _ _) c.files.invariant.1)

-- at the first place of that file
started : (c : After-places_of-places) → To (goal.at.After-places_of-places c).At-files c.take.new.marks (places_left c.places_of-places.result ++ behind (goal.at.After-places_of-places c).In-Some)
unfolding chain_of
started c =
    let t = c.take in
    left_as _ _ _ _
    (ap (λ (ps : List ℕ). ps ++ behind (goal.at.After-places_of-places c).In-Some) (places_ahead _ _ _ _ c.sector_in-in-files.ensures c.part.ensures ∙ sym c.places_of-places.ensures.all))
    (left_taken _ _ _ _ _ _ _ (opened (goal.at.After-places_of-places c).After-from-k) _ t.result t.ensures.0 t.ensures.1 (ap not c.if-not-take.false))

-- at a place, the neighbours that are taken with it apart
placed : (c : After-beside-more) →
    let more = c.beside-more.result in
    Left (sector_count c.args.image.now) c.take.new.marks (places_left c.places_of-places.result ++ behind (goal.at.After-beside-more c).In-Some) c.loop-place.marks
    (run c.in-Some-next.place (more + 1) ++ (places_left (past c.next-in-loop-place.new.self more) ++ behind (goal.at.After-beside-more c).In-Some))
placed c =
    let step = c.in-Some-next.ensures.steps in
    left_as _ _ _ _ (stretch_ahead c.loop-place.places c.next-in-loop-place.new.self _ _ step.is step.follows.0 c.beside-more.ensures.0 _) c.loop-place.invariant.2

pub sector_in-requires : goal.sector_in-requires
sector_in-requires c = omega (arith, c.requires.0)

pub files-init : goal.files-init
unfolding files_in
files-init c =
    rw (c.into_iter-k-iterator.ensures.into_iter_gives, c.numbers_of-k-items.ensures, c.sector_in.ensures) (refl, left_start _ _ _ c.requires.2)

-- the number that stands here is a sector of the volume
numbered : (c : After-from-k) → c.from-k.result < sector_count c.args.image.now
numbered c = omega (arith, left_below _ _ _ _ _ _ _ (opened c) 0 (omega arith))

pub take-requires : goal.take-requires
take-requires c = (omega (arith, numbered (goal.at.take-requires c).After-from-k, c.requires.1), omega arith)

pub sector_in-requires-in-files : goal.sector_in-requires-in-files
sector_in-requires-in-files c = omega (arith, numbered (goal.at.sector_in-requires-in-files c).After-from-k)

pub loop-place-init : goal.loop-place-init
loop-place-init c = (refl, c.places_of-places.ensures.steady, left_start _ _ _ (started (goal.at.loop-place-init c).After-places_of-places).below)

pub take-requires-in-Some-next : goal.take-requires-in-Some-next
take-requires-in-Some-next c = (
  omega (arith, left_below _ _ _ _ _ _ _ (placed (goal.at.take-requires-in-Some-next c).After-beside-more) 0 (omega arith), c.requires.1, c.from-in-Some-next.ensures),
  rw (c.from-in-Some-next.ensures, ← c.from.ensures) c.beside-more.ensures.1,
)

pub loop-place-smaller : goal.loop-place-smaller
loop-place-smaller c =
    let step = c.in-Some-next.ensures.steps in
    rw c.pass.ensures (stretch_less c.loop-place.places c.next-in-loop-place.new.self _ _ step.is step.follows.0 c.beside-more.ensures.0)

pub loop-place-preserved : goal.loop-place-preserved
loop-place-preserved c =
    let t = rw c.from-in-Some-next.ensures at c.take-in-Some-next.ensures in
    let step = c.in-Some-next.ensures.steps in (
      c.loop-place.invariant.0,
      rw c.pass.ensures (omega (arith, step.steady, c.beside-more.ensures.0)),
      rw c.pass.ensures (left_taken _ _ _ _ _ _ _ (placed (goal.at.loop-place-preserved c).After-beside-more) _ c.take-in-Some-next.result t.0 t.1 (ap not c.if-not-take-2.false)),
    )

-- at a turn of the loop over its sectors
going : (c : At-loop-place) → To (goal.at.At-loop-place c).At-files c.loop-place.marks (places_left c.loop-place.places ++ behind (goal.at.At-loop-place c).In-Some)
going c = left_from _ _ _ (started (goal.at.At-loop-place c).After-places_of-places) c.loop-place.invariant.2

pub files-preserved : goal.files-preserved
files-preserved c = (
  c.loop-place.invariant.0 ∙ c.files.invariant.0,
  left_as _ _ _ _ (ap (λ (ps : List ℕ). ps ++ behind (goal.at.files-preserved c).In-Some) c.in_default.ensures.steps.is.0) (going (goal.at.files-preserved c).At-loop-place),
)

pub returns-in-None-clause-value : goal.returns-in-None-clause-value
returns-in-None-clause-value c = c.files.invariant.0 ∙ (left_none _ _ _ _ (files_past _ _ c.in-None.ensures.steps.0) c.files.invariant.1).0

pub returns-in-None-clause-marks_after : goal.returns-in-None-clause-marks_after
returns-in-None-clause-marks_after c = λ e. (left_none _ _ _ _ (files_past _ _ c.in-None.ensures.steps.0) c.files.invariant.1).1

pub returns-then-not-take-clause-value : goal.returns-then-not-take-clause-value
returns-then-not-take-clause-value c =
    let t = c.take in
    left_clash _ _ _ _ _ _ _ (opened (goal.at.returns-then-not-take-clause-value c).After-from-k) _ t.result t.ensures.0 t.ensures.1 (ap not c.if-not-take.true)

pub returns-then-not-take-2-clause-value : goal.returns-then-not-take-2-clause-value
returns-then-not-take-2-clause-value c =
    let t = rw c.from-in-Some-next.ensures at c.take-in-Some-next.ensures in
    let at = goal.at.returns-then-not-take-2-clause-value c in
    left_clash _ _ _ _ _ _ _ (left_from _ _ _ (started at.After-places_of-places) (placed at.After-beside-more)) _ c.take-in-Some-next.result t.0 t.1 (ap not c.if-not-take-2.true)

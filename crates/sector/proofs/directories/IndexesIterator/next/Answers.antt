-- The iterator over the indexes gives the first that is there. The loop's invariant: what is left from the directory that it has come to is what was left. Assumes nothing.
use mathlib.Core.Path.{refl, sym, ◌∙◌}
use native.Mathlib.Omega.{arith}
use Rattle.sector.specs.Directories.{indexes_left}
use Rattle.sector.proofs.DirectoryLaws.{from_past, from_absent, from_there}
use Rattle.sector.proofs.IndexLaws.{there_none, there_some}
use Rattle.sector.proofs.Yields.{yields_progress}
use Rattle.sector.proofs.directories.IndexesIterator.next.Goals as goal

pub loop-self-init : goal.loop-self-init
loop-self-init c = refl

pub returns-in-Some-clause-steps : goal.returns-in-Some-clause-steps
returns-in-Some-clause-steps c =
    let l = c.loop-self.self in
    let there = there_some _ _ _ c.index_at.ensures c.in-Some.is in
    rw there.0 (sym c.loop-self.invariant ∙ from_there l.layout l.image.now l.directory _ refl (λ none. there.1 (there.0 ∙ none)))

pub returns-in-Some-clause-goes : goal.returns-in-Some-clause-goes
returns-in-Some-clause-goes c = yields_progress indexes_left _ _ _ (returns-in-Some-clause-steps c)

pub loop-self-preserved : goal.loop-self-preserved
loop-self-preserved c =
    let l = c.loop-self.self in
    sym (from_absent l.layout l.image.now l.directory _ refl (there_none _ _ c.index_at.ensures c.in_default.is)) ∙ c.loop-self.invariant

pub returns-clause-steps : goal.returns-clause-steps
returns-clause-steps c =
    let l = c.loop-self.self in
    let none = from_past l.layout l.image.now l.directory (omega (arith, c.directory_count.ensures.0 l.image.now, c.loop-self-test.false)) in
    (sym c.loop-self.invariant ∙ none, none)

-- The iterator over the files of all indexes gives the first of those that are left: of the present index, or else of the next that has one. The loop's invariant: those that are left are those
-- that were left at the start. The measure is the number of indexes to come. Assumes nothing.
use mathlib.Core.Path.{refl, sym, ap, ◌∙◌}
use native.Mathlib.Omega.{arith}
use lib.ListN.{length}
use Rattle.rules.specs.Volume.{files_in, files_of}
use Rattle.sector.proofs.Yields.{yields_progress}
use Rattle.packing.specs.Walk.{files_left}
use Rattle.packing.proofs.walk.FilesIterator.next.Goals as goal

pub loop-k-init : goal.loop-k-init
loop-k-init c = refl

pub returns-in-Some-clause-steps : goal.returns-in-Some-clause-steps
returns-in-Some-clause-steps c = sym c.loop-k.invariant ∙ rw c.in-Some.ensures.steps refl

pub returns-in-Some-clause-goes : goal.returns-in-Some-clause-goes
returns-in-Some-clause-goes c = yields_progress files_left _ _ _ (returns-in-Some-clause-steps c)

pub returns-in_err-i-clause-steps : goal.returns-in_err-i-clause-steps
unfolding files_of
returns-in_err-i-clause-steps c =
    let here = c.in_default.ensures.steps in
    let later = c.in_err-i.ensures.steps in
    rw c.from_residual.ensures (sym c.loop-k.invariant ∙ rw (here.0, later.0), rw (here.1, later.1))

pub loop-k-smaller : goal.loop-k-smaller
loop-k-smaller c = omega (arith, ap length c.in_ok-i.ensures.steps)

pub loop-k-preserved : goal.loop-k-preserved
unfolding files_of files_in
loop-k-preserved c =
    rw (c.numbers_of-self.ensures, c.sector_of.ensures) (sym (rw (c.in_default.ensures.steps.0, c.in_ok-i.ensures.steps)) ∙ c.loop-k.invariant)

-- `opening::find_in` meets its contract. The loop's invariant: the search of the numbers that are still to come gives what the whole search gives. Assumes nothing.
use mathlib.Core.Path.{◌≡◌, refl, sym, ap, ◌∙◌}
use mathlib.Core.Bool.{cond}
use Prim.Native.Nat.{◌+◌, ◌*◌}
use native.Mathlib.Omega.{arith}
use lib.ListN.{length}
use Rattle.rules.specs.Bytes.{same}
use Rattle.rules.specs.Sectors.{sector_of}
use Rattle.rules.specs.Descriptor.{name_of}
use Rattle.rules.specs.Volume.{files_in, name_in}
use Rattle.rules.specs.Answers.Opened.{At}
use Rattle.rules.specs.Opening.{find_from, find_in}
use Rattle.rules.proofs.Bytes.{part_short}
use Rattle.rules.proofs.Index.{numbers_inside}
use Rattle.rules.proofs.Opening.{find_step, find_past}
use Rattle.sector.specs.Numbers.{numbers_left}
use Rattle.opening.proofs.find_in.Goals as goal
use Rattle.opening.proofs.find_in.Goals.{After-same}

pub loop-sector-init : goal.loop-sector-init
unfolding find_in files_in sector_of
loop-sector-init c =
    rw (c.into_iter-sector-iterator.ensures.into_iter_gives, c.numbers_of-sector-items.ensures, c.sector_of.ensures) (omega (arith, numbers_inside (sector_of c.args.image.now c.args.i), part_short c.args.image.now (256 * c.args.i) 256), refl)

-- the whole search, with the file that stands here taken off
stepped : (c : After-same) →
    let a = c.args in
    find_in a.image.now a.i a.name.now
    ≡ cond (same a.name.now c.name.result.now) (At a.i c.loop-sector.place c.in-Some.sector) (find_from a.image.now a.i a.name.now (c.loop-sector.place + 1) (numbers_left c.next.new.self))
unfolding name_in
stepped c =
    sym c.loop-sector.invariant.1
    ∙ find_step _ _ _ _ _ _ _ _ c.in-Some.ensures.steps (c.name.ensures ∙ ap name_of c.descriptor_of.ensures)

pub returns-then-same : goal.returns-then-same
returns-then-same c = sym (stepped (goal.at.returns-then-same c).After-same ∙ rw (sym c.same.ensures ∙ c.if-same.true))

pub loop-sector-preserved : goal.loop-sector-preserved
loop-sector-preserved c =
    (omega (arith, ap length c.in-Some.ensures.steps, c.loop-sector.invariant.0), sym (stepped (goal.at.loop-sector-preserved c).After-same ∙ rw (sym c.same.ensures ∙ c.if-same.false)))

pub returns : goal.returns
returns c = sym (sym c.loop-sector.invariant.1 ∙ find_past _ _ _ _ _ c.in-None.ensures.steps.0)

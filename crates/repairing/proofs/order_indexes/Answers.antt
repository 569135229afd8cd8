-- `repairing::order_indexes` meets its contract. The loop's invariant: the indexes of the directories before this one are written and listed, and what the others need of the image stands.
-- Assumes nothing.
use mathlib.Core.Path.{◌≡◌, refl}
use native.Mathlib.Omega.{arith}
use Rattle.rules.specs.Volume.{index_at}
use Rattle.sector.proofs.IndexLaws.{there_none, there_some}
use Rattle.repairing.proofs.Going.{none_written, none_there, index_ready, one_written, all_written}
use Rattle.repairing.proofs.order_indexes.Goals as goal
use Rattle.repairing.proofs.order_indexes.Goals.{In-Some}

pub loop-directory-init : goal.loop-directory-init
loop-directory-init c = (omega arith, none_written _ _ _)

pub loop-directory-preserved-in_default : goal.loop-directory-preserved-in_default
loop-directory-preserved-in_default c =
    (omega (arith, c.loop-directory.invariant.0), none_there _ _ _ c.requires _ _ _ _ c.loop-directory.invariant.1 _ refl (there_none _ _ c.index_at.ensures c.in_default.is))

-- an index that is there
there : (c : In-Some) → (c.in-Some.i ≡ index_at c.args.layout c.loop-directory.image c.loop-directory.directory) × (c.in-Some.i ≡ 0 → ⊥)
there c = there_some _ _ _ c.index_at.ensures c.in-Some.is

pub order_index-requires : goal.order_index-requires
order_index-requires c =
    let is = there (goal.at.order_index-requires c).In-Some in index_ready _ _ _ c.requires _ _ _ _ c.loop-directory.invariant.1 _ is.0 is.1

pub loop-directory-preserved : goal.loop-directory-preserved
loop-directory-preserved c =
    let is = there (goal.at.loop-directory-preserved c).In-Some in
    (omega (arith, c.loop-directory.invariant.0), one_written _ _ _ c.requires _ _ _ _ c.loop-directory.invariant.1 _ is.0 is.1 _ _ c.order_index.ensures (rw c.from.ensures refl))

pub returns : goal.returns
returns c =
    let many = c.directory_count-directory-end.ensures in
    let all = all_written _ _ _ c.requires _ _ _ _ c.loop-directory.invariant.1 (omega (arith, many.0 c.args.image.now, c.loop-directory-test.false)) in
    record { image_after = all.0; order = (all.1, all.2, omega (arith, c.loop-directory.invariant.0, many.1, c.loop-directory-test)) }

-- `packing::files::lay_sectors` meets its contract. The loop's invariant: the sectors of the places that are still to come are left, and go to `to` (`Pieces`).
-- Assumes nothing.
use mathlib.Core.Path.{◌≡◌}
use mathlib.Core.List.{List, ◌∷◌, ◌++◌}
use Prim.Native.Nat.{ℕ}
use native.Mathlib.Omega.{arith}
use Rattle.rules.specs.Sectors.{sector_of, joined}
use Rattle.rules.proofs.Pieces.{pieces_first, pieces_next, pieces_last}
use Rattle.packing.proofs.files.lay_sectors.Invariants.{sectors}
use Rattle.packing.proofs.files.lay_sectors.Goals as goal

-- the first of the sectors, and the others
first_sector : (source : List ℕ) {all ps bytes : List ℕ} {p : ℕ} → all ≡ p ∷ ps → bytes ≡ sector_of source p → sectors source all ≡ bytes ++ sectors source ps
unfolding joined
first_sector source all-is bytes-is = rw (all-is, bytes-is)

pub loop-place-init : goal.loop-place-init
loop-place-init c =
    rw (c.into_iter-place-iterator.ensures.into_iter_gives, c.places_of-place-items.ensures.all) (pieces_first _ c.args.target.now c.args.at)

pub loop-place-preserved : goal.loop-place-preserved
loop-place-preserved c =
    pieces_next c.loop-place.invariant c.sector_of-sector.result.now (first_sector c.args.source.now c.in-Some.ensures.steps.is c.sector_of-sector.ensures) c.lay.ensures (omega arith)

pub returns : goal.returns
unfolding joined
returns c =
    let all = pieces_last c.loop-place.invariant (rw c.in-None.ensures.steps.is.0) in
    record { value = all.1; target_after = all.0 }

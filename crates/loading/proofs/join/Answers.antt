-- `loading::join` meets its contract. The loop's invariant: laying the places that are still to come from `at` on, cut at the size, gives what the whole gives. Assumes nothing.
use mathlib.Core.Path.{◌≡◌, sym, ap, ◌∙◌}
use mathlib.Core.List.{List, map}
use Prim.Native.Nat.{ℕ, ◌≤◌, ◌-◌, ◌+◌}
use native.Mathlib.Omega.{arith}
use lib.ListN.{length, take}
use Rattle.rules.specs.Bytes.{splice}
use Rattle.rules.specs.Sectors.{sector_of, joined}
use Rattle.rules.proofs.Bytes.{part_short}
use Rattle.descriptor.specs.Ahead.{places_left}
use Rattle.loading.proofs.Pieces.{piece_laid, pieces_done}
use Rattle.loading.proofs.join.Goals as goal
use Rattle.loading.proofs.join.Goals.{After-part-piece}

-- the piece: as much of the sector as the size leaves
piece_is : (c : After-part-piece) → c.part-piece.result.now ≡ take (c.args.size - c.loop-place.at) (sector_of c.args.image.now c.in-Some.place)
piece_is c = c.part-piece.ensures ∙ ap (take (c.args.size - c.loop-place.at)) c.sector_of.ensures

piece_small : (c : After-part-piece) → c.loop-place.at + length c.part-piece.result.now ≤ c.args.size
piece_small c =
    let short = part_short c.sector_of.result.now 0 (c.args.size - c.loop-place.at) in
    omega (arith, c.loop-place.invariant.1, ap length c.part-piece.ensures, short)

pub loop-place-preserved : goal.loop-place-preserved
loop-place-preserved c =
    let a = c.args in
    let l = c.loop-place in
    let step = c.in-Some.ensures.steps in
    let sector = sector_of a.image.now in (
      step.steady,
      piece_small (goal.at.loop-place-preserved c).After-part-piece,
      rw c.lay.ensures (sym (piece_laid sector l.out l.at a.size c.in-Some.place (places_left c.next.new.self) c.part-piece.result.now (piece_is (goal.at.loop-place-preserved c).After-part-piece)))
          ∙ ap (λ (places : List ℕ). splice l.out l.at (take (a.size - l.at) (joined (map sector places)))) (sym step.is)
          ∙ l.invariant.2,
    )

pub returns : goal.returns
returns c =
    let a = c.args in
    let l = c.loop-place in
    let sector = sector_of a.image.now in
    sym (pieces_done sector l.out l.at a.size)
    ∙ ap (λ (places : List ℕ). splice l.out l.at (take (a.size - l.at) (joined (map sector places)))) (sym c.in-None.ensures.steps.is.0)
    ∙ l.invariant.2

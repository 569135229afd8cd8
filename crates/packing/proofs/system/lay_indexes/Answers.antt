-- `packing::system::lay_indexes` meets its contract. The loop's invariant: the indexes from this directory on are left, and go to `to` (`Indexed`). Assumes nothing.
use mathlib.Core.Path.{◌≡◌, ◌∙◌}
use mathlib.Core.List.{List, ◌∷◌}
use Prim.Native.Nat.{ℕ, ◌+◌, ◌-◌, ◌≤◌}
use native.Mathlib.Omega.{arith}
use lib.ListN.{length}
use Rattle.rules.specs.Sectors.{sector_of}
use Rattle.rules.proofs.Bytes.{part_length, part_short}
use Rattle.sector.specs.Directories.{indexes_from}
use Rattle.sector.proofs.DirectoryLaws.{directories_few, from_root, from_past}
use Rattle.packing.proofs.DirectoryLaws.{found_here, found_none}
use Rattle.packing.proofs.IndexSteps.{indexed_start, indexed_ahead, indexed_step, indexed_end}
use Rattle.packing.proofs.system.lay_indexes.Goals as goal
use Rattle.packing.proofs.system.lay_indexes.Goals.{In-loop-directory, In-Some, in-Some, in_default}

-- an index that is left has room, and so have its numbers
fits : (c : In-loop-directory) {index : ℕ} {more : List ℕ} → indexes_from c.args.layout c.args.source.now c.loop-directory.directory ≡ index ∷ more
    → (c.loop-directory.to + 256 ≤ length c.loop-directory.target) × (c.loop-directory.next ≤ 1600) × (c.loop-directory.to + 256 ≤ 409600)
fits c ahead =
    let is = c.requires.0 in
    let inside = indexed_ahead c.loop-directory.invariant ahead is in
    (omega (arith, inside, is.whole, c.requires.1, c.loop-directory.invariant.pieces.kept), omega (arith, inside, is.size), omega (arith, inside, is.size))

here : (c : In-Some) → indexes_from c.args.layout c.args.source.now c.loop-directory.directory ≡ c.in-Some.i ∷ indexes_from c.args.layout c.args.source.now (c.loop-directory.directory + 1)
here c = found_here _ _ _ (omega arith) c.index_at.ensures c.in-Some.is

pub loop-directory-init : goal.loop-directory-init
loop-directory-init c = rw from_root (indexed_start _ _ _ _ c.requires.2)

pub overflow_add-end : goal.overflow_add-end
overflow_add-end c = omega (arith, fits (goal.at.overflow_add-end c).In-loop-directory (here (goal.at.overflow_add-end c).In-Some))

pub slice_bounds-lay_index-end : goal.slice_bounds-lay_index-end
slice_bounds-lay_index-end c = (fits (goal.at.slice_bounds-lay_index-end c).In-loop-directory (here (goal.at.slice_bounds-lay_index-end c).In-Some)).0

pub lay_index-next-requires : goal.lay_index-next-requires
unfolding sector_of
lay_index-next-requires c =
    let fit = fits (goal.at.lay_index-next-requires c).In-loop-directory (here (goal.at.lay_index-next-requires c).In-Some) in
    let size : c.loop-directory.to + 256 - c.loop-directory.to ≡ 256 = omega arith in (
      part_length c.loop-directory.target c.loop-directory.to (c.loop-directory.to + 256 - c.loop-directory.to) (omega (arith, size, fit)) ∙ size,
      rw c.sector_of.ensures (part_short c.args.source.now _ 256),
      omega (arith, fit),
    )

pub loop-directory-preserved : goal.loop-directory-preserved
loop-directory-preserved c =
    let l = c.loop-directory in
    elim c.match-index_at.branch [
      | in-Some w ↦
          let old = w.sector_of.ensures in
          let laid = w.lay_index-next.ensures in
          let ahead = found_here _ _ l.directory (omega arith) c.index_at.ensures w.in-Some.is in
          let room = (fits (goal.at.loop-directory-preserved c).In-loop-directory ahead).0 in
          rw (w.target-is, w.next-is, w.to-is) (indexed_step l.invariant ahead {size = l.to + 256 - l.to} room (omega arith) (rw old at laid.value) (rw old at laid.index_after))
      | in_default w ↦ rw (w.target-is, w.next-is, w.to-is, ← found_none _ _ l.directory (omega arith) c.index_at.ensures w.in_default.is) l.invariant
    ]

pub returns : goal.returns
returns c =
    let a = c.args in
    let end = indexed_end c.loop-directory.invariant (from_past a.layout a.source.now _ (omega (arith, directories_few a.layout a.source.now))) in
    record { value = rw c.requires.2 (end.0); target_after = rw c.requires.2 (end.1) }

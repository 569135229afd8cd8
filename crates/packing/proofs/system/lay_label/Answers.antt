-- `packing::system::lay_label` meets its contract. The loop's invariant: the numbers that are left, put into the entries from this directory on, give the label of the packed form (`Labelled`).
-- Assumes nothing.
use mathlib.Core.Path.{◌≡◌, refl, ap, ◌∙◌}
use mathlib.Core.List.{List}
use Prim.Native.Nat.{ℕ}
use native.Mathlib.Omega.{arith}
use Rattle.rules.specs.Bytes.{part, splice}
use Rattle.rules.specs.Sectors.{sector_of}
use Rattle.packing.proofs.LabelSteps.{index_there, index_absent, labelled_start, labelled_absent, labelled_there, labelled_end}
use Rattle.packing.proofs.system.lay_label.Goals as goal
use Rattle.packing.proofs.system.lay_label.Goals.{After-lay, then-is_some, else-is_some}

-- those bytes
front : (c : After-lay) → c.lay.new.buffer ≡ splice c.args.target.now 0 (part (sector_of c.args.source.now 0) 0 56)
front c = c.lay.ensures ∙ ap (splice c.args.target.now 0) (c.part.ensures ∙ ap (λ (l : List ℕ). part l 0 56) c.sector_of.ensures)

pub loop-directory-init : goal.loop-directory-init
loop-directory-init c =
    labelled_start _ _ c.requires.0 c.args.target.now _ (front (goal.at.loop-directory-init c).After-lay) c.requires.1

pub loop-directory-preserved : goal.loop-directory-preserved
loop-directory-preserved c =
    let here = rw c.index_at.ensures at c.is_some.ensures in
    elim c.if-is_some.branch [
      | then-is_some w ↦ rw (w.target-is, w.number-is) (labelled_there _ _ c.requires.0 c.loop-directory.invariant refl (index_there _ _ here w.if-is_some.true) w.lay_number.ensures)
      | else-is_some w ↦ rw (w.target-is, w.number-is) (labelled_absent _ _ c.requires.0 c.loop-directory.invariant refl (index_absent _ _ here w.if-is_some.false))
    ]

pub returns : goal.returns
returns c =
    let end = labelled_end _ _ c.requires.0 c.args.target.now _ (front (goal.at.returns c).After-lay) c.loop-directory.invariant (omega arith) in
    record { value = end.0; target_after = end.1 }

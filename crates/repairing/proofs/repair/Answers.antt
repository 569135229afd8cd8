-- `repairing::repair` meets its contract: what its tests refuse changes nothing; else the indexes are written in name order, and then the map of the holders. Assumes nothing.
use mathlib.Core.Path.{◌≡◌, refl, sym, ap, ◌∙◌}
use Prim.Native.Nat.{◌≤◌}
use native.Mathlib.Omega.{arith}
use lib.ListN.{length}
use Rattle.rules.specs.Outcome.{AnswerSays, Meets, listed}
use Rattle.rules.specs.Answers.Answer.{Refused}
use Rattle.rules.specs.Calls.Repair.{repair_of}
use Rattle.rules.specs.Refusal.{fault_number}
use Rattle.rules.proofs.Outcome.{meets_refusal, meets_done}
use Rattle.rules.proofs.Refusals.{fault_some, err_is}
use Rattle.rules.proofs.Repair.{mendable}
use Rattle.rules.proofs.Written.{written-length}
use Rattle.repairing.proofs.RepairLaws.{repair_refused, repair_done, map_laid, order_mended}
use Rattle.repairing.proofs.repair.Goals as goal
use Rattle.repairing.proofs.repair.Goals.{After-from_residual, After-order_indexes-many}

refused : (c : After-from_residual) → let a = c.args in
    let number = fault_number c.in_err-examine.field-0.0 in
    Meets AnswerSays (repair_of a.layout a.image.now) (Refused number) a.image.now a.image.now × (a.changes.now ≡ listed (repair_of a.layout a.image.now) a.changes.now)
unfolding AnswerSays
refused c =
    let f = c.in_err-examine.field-0.0 in
    meets_refusal AnswerSays _ _ _ _ (fault_number f) (refl, fault_some f) (repair_refused _ _ _ (fault_some f) c.in_err-examine.ensures.value)

pub returns-in_err-examine-clause-meets : goal.returns-in_err-examine-clause-meets
returns-in_err-examine-clause-meets c = rw (err_is c.from_residual.result _ c.from_residual.ensures.1) (refused c).0

pub returns-in_err-examine-clause-order : goal.returns-in_err-examine-clause-order
returns-in_err-examine-clause-order c = (refused c).1

pub order_indexes-many-requires : goal.order_indexes-many-requires
order_indexes-many-requires c = mendable _ _ (sym c.in_ok-examine.ensures.value)

large : (c : After-order_indexes-many) → 256 ≤ length c.order_indexes-many.new.image
large c =
    let is = mendable c.args.layout c.args.image.now (sym c.in_ok-examine.ensures.value) in
    omega (arith, ap length c.order_indexes-many.ensures.image_after ∙ written-length _ _, is.whole, is.size)

pub slice_bounds-copy_from_slice-end : goal.slice_bounds-copy_from_slice-end
slice_bounds-copy_from_slice-end c = large (goal.at.slice_bounds-copy_from_slice-end c).After-order_indexes-many

pub list-requires : goal.list-requires
list-requires c = omega (arith, c.order_indexes-many.ensures.order.2)

pub returns : goal.returns
unfolding AnswerSays
returns c =
    let is = mendable c.args.layout c.args.image.now (sym c.in_ok-examine.ensures.value) in
    let both = meets_done AnswerSays _ _ _ _ _ _ _ refl (repair_done _ _ c.in_ok-examine.ensures.value)
    (map_laid _ _ _ c.order_indexes-many.ensures.image_after _ (c.copy_from_slice.ensures.after ∙ c.in_ok-examine.ensures.map_after refl) (omega (arith, is.whole, is.size)))
    (c.list.ensures ∙ order_mended _ _ _ _ _ c.order_indexes-many.ensures.order.0 c.order_indexes-many.ensures.order.1) in
    record { meets = both.0; order = both.1 }

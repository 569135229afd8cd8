-- `index::order_numbers` meets its contract. The loop's invariant: the numbers in the first places are in order, and putting the others in among them gives all of them in order. Assumes nothing.
use mathlib.Core.Path.{◌≡◌, sym, ◌∙◌}
use mathlib.Core.Bool.{not}
use mathlib.Core.List.{[], ◌∷◌}
use Prim.Native.Nat.{◌+◌, ◌*◌}
use native.Mathlib.Omega.{arith}
use lib.ListN.{drop}
use borrow.Author.Tests.{not-true, not-false}
use Rattle.rules.specs.Index.{numbers}
use Rattle.rules.specs.Volume.{name_in}
use Rattle.rules.specs.Calls.Repair.{named_in}
use Rattle.rules.proofs.Index.{numbers_step, numbers_end}
use Rattle.index.proofs.Ordering.{nothing_ordered, all_distinct, all_ordered, next_ten, not_distinct, one_ordered}
use Rattle.index.proofs.order_numbers.Goals as goal
use Rattle.index.proofs.order_numbers.Goals.{After-settle, Then-k-eq0, Else-k-eq0}

pub loop-place-init : goal.loop-place-init
loop-place-init c = nothing_ordered _ _ c.requires.1

-- the number that is read is the next, and at a zero none is left
next : (c : Else-k-eq0) → let at = 2 * c.loop-place.place in numbers (drop at c.loop-place.index) ≡ c.word-k.result ∷ numbers (drop (at + 2) c.loop-place.index)
next c = rw c.word-k.ensures (numbers_step c.loop-place.index (2 * c.loop-place.place) (omega arith) (λ z. c.if-k-eq0.false (c.word-k.ensures ∙ z)))

none : (c : Then-k-eq0) → numbers (drop (2 * c.loop-place.place) c.loop-place.index) ≡ []
none c = numbers_end c.loop-place.index (2 * c.loop-place.place) (omega arith) (sym c.word-k.ensures ∙ c.if-k-eq0.true)

pub settle-requires : goal.settle-requires
settle-requires c = (c.loop-place-test.true, next_ten _ _ _ _ c.loop-place.invariant _ (next (goal.at.settle-requires c).Else-k-eq0) c.requires.0)

-- the answer: whether its name is not among those in front
settled : (c : After-settle) → let a = c.args in
    not (named_in a.image.now (name_in a.image.now c.word-k.result) c.loop-place.invariant.front) ≡ c.settle.result
settled c = sym (c.settle.ensures c.loop-place.invariant.front c.loop-place.invariant.ordered-front).0

pub returns-then-not-settle-clause-value : goal.returns-then-not-settle-clause-value
returns-then-not-settle-clause-value c =
    let at = goal.at.returns-then-not-settle-clause-value c in
    sym (not_distinct _ _ _ _ c.loop-place.invariant _ (next at.Else-k-eq0) (not-false _ (settled at.After-settle ∙ c.if-not-settle.true)))

pub loop-place-preserved : goal.loop-place-preserved
loop-place-preserved c =
    let at = goal.at.loop-place-preserved c in
    let so_far = c.loop-place.invariant in
    let e : 2 * (c.loop-place.place + 1) ≡ 2 * c.loop-place.place + 2 = omega arith in
    rw e (one_ordered _ _ _ _ so_far _ (next at.Else-k-eq0) _ c.requires.0 (not-true _ (settled at.After-settle ∙ c.if-not-settle.false)) ((c.settle.ensures so_far.front so_far.ordered-front).1 c.if-not-settle.false))

pub returns-then-k-eq0-clause-value : goal.returns-then-k-eq0-clause-value
returns-then-k-eq0-clause-value c = sym (all_distinct _ _ _ _ c.loop-place.invariant (none (goal.at.returns-then-k-eq0-clause-value c).Then-k-eq0))

pub returns-then-k-eq0-clause-index_after : goal.returns-then-k-eq0-clause-index_after
returns-then-k-eq0-clause-index_after c = λ e. all_ordered _ _ _ _ c.loop-place.invariant (omega arith) c.requires.1 (none (goal.at.returns-then-k-eq0-clause-index_after c).Then-k-eq0)

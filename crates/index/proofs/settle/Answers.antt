-- `index::settle` meets its contract. The loop's invariant: whatever numbers stand in front, those from `place` on have moved up by one place, and their names come after. Assumes nothing.
use mathlib.Core.Path.{◌≡◌, refl, sym, ap, ◌∙◌}
use mathlib.Core.Bool.{not}
use mathlib.Core.List.{List}
use Prim.Native.Nat.{ℕ, suc, ◌-◌}
use native.Mathlib.Omega.{arith}
use Rattle.rules.specs.Bytes.{same}
use Rattle.rules.specs.Name.{precedes}
use Rattle.rules.specs.Volume.{name_in}
use Rattle.rules.proofs.Tests.{absurd_test}
use Rattle.index.proofs.Named.{named}
use Rattle.index.proofs.Settling.{none_shifted, one_shifted, named_there, none_behind, all_behind, named_nowhere, laid_down}
use Rattle.index.proofs.settle.Goals as goal
use Rattle.index.proofs.settle.Goals.{After-name-other, At-loop-place}

pub loop-place-init : goal.loop-place-init
loop-place-init c = λ front is. none_shifted _ _ _ front is _ _ refl

-- the name of k, and that of the number that was read
own_name : (l : At-loop-place) → let a = l.args in l.name-name.result.now ≡ name_in a.image.now a.k
own_name l = named _ _ _ _ l.descriptor_of.ensures l.name-name.ensures

their_name : (c : After-name-other) → let a = c.args in c.name-other.result.now ≡ name_in a.image.now c.word-j.result
their_name c = named _ _ _ _ c.descriptor_of-in-loop-place.ensures c.name-other.ensures

next : (c : After-name-other) → c.loop-place.place ≡ suc (c.loop-place.place - 1)
next c = omega (arith, c.loop-place-test.true)

pub returns-then-same : goal.returns-then-same
returns-then-same c front is =
    let at = (goal.at.returns-then-same c).After-name-other in
    let alike = ap (λ (n : List ℕ). same n c.name-other.result.now) (own_name (goal.at.returns-then-same c).At-loop-place) ∙ ap (same _) (their_name at) in
    let found = named_there _ _ _ front is _ c.loop-place.index _ _ c.word-j.result (c.loop-place.invariant front is) (next at) c.word-j.ensures
    (sym alike ∙ sym c.same.ensures ∙ c.if-same.true) in
    (ap not (sym found), λ e. absurd_test (sym e))

pub returns-then-not-precedes : goal.returns-then-not-precedes
returns-then-not-precedes c front is =
    let at = (goal.at.returns-then-not-precedes c).After-name-other in
    let shifted = c.loop-place.invariant front is in
    let own = own_name (goal.at.returns-then-not-precedes c).At-loop-place in
    let comes = ap (λ (n : List ℕ). precedes n c.name-other.result.now) own ∙ ap (precedes _) (their_name at) in
    let alike = ap (λ (n : List ℕ). same n c.name-other.result.now) own ∙ ap (same _) (their_name at) in
    let low = all_behind _ _ _ front is _ c.loop-place.index _ _ c.word-j.result shifted (next at) c.word-j.ensures c.requires.1
    (sym comes ∙ sym c.precedes.ensures ∙ c.if-not-precedes.true) (sym alike ∙ sym c.same.ensures ∙ c.if-same.false) in (
      ap not (sym (named_nowhere _ _ _ front is _ _ c.loop-place.index shifted low c.requires.1)),
      λ e. c.lay_number.ensures ∙ laid_down _ _ _ front is _ _ c.loop-place.index shifted low _ _ (omega (arith, next at)) (omega arith),
    )

pub loop-place-preserved : goal.loop-place-preserved
loop-place-preserved c front is =
    let at = (goal.at.loop-place-preserved c).After-name-other in
    let comes = ap (λ (n : List ℕ). precedes n c.name-other.result.now) (own_name (goal.at.loop-place-preserved c).At-loop-place) ∙ ap (precedes _) (their_name at) in
    one_shifted _ _ _ front is _ c.loop-place.index _ _ c.word-j.result (c.loop-place.invariant front is) (next at) c.word-j.ensures
    _ c.lay_number-in-loop-place.ensures (sym comes ∙ sym c.precedes.ensures ∙ c.if-not-precedes.false)

pub returns : goal.returns
returns c front is =
    let shifted = c.loop-place.invariant front is in
    let none : c.loop-place.place ≡ 0 = omega (arith, c.loop-place-test.false) in
    let low = none_behind _ _ _ front is _ _ none in (
      ap not (sym (named_nowhere _ _ _ front is _ _ c.loop-place.index shifted low c.requires.1)),
      λ e. c.lay_number-2.ensures ∙ laid_down _ _ _ front is _ _ c.loop-place.index shifted low _ _ (omega (arith, none)) (omega arith),
    )

-- `map::bits::clear_file` meets its contract: the descriptor's bit, then those of the chain. The loop's invariant: clearing the places that are still to come gives what clearing all of
-- them gives. Assumes nothing.
use mathlib.Core.Path.{refl, sym, ap, ◌∙◌}
use mathlib.Core.List.{List}
use Prim.Native.Nat.{ℕ}
use lib.ListN.{length}
use Rattle.rules.specs.Map.{marked_all}
use Rattle.rules.specs.Chain.{places}
use Rattle.rules.proofs.Marking.{marked-length}
use Rattle.map.proofs.bits.clear_file.Goals as goal

pub loop-place-init : goal.loop-place-init
loop-place-init c =
    let same = c.into_iter-place-iterator.ensures.into_iter_gives in
    rw same (c.places_of-place-items.ensures.steady, refl, rw c.places_of-place-items.ensures.all)

pub loop-place-preserved : goal.loop-place-preserved
unfolding marked_all
loop-place-preserved c =
    let l = c.loop-place in
    let step = c.in-Some.ensures.steps in
    let bit = rw c.from.ensures at c.mark_as-in-loop-place.ensures in (
      step.steady,
      ap length bit ∙ marked-length 0 l.sector0 _ ∙ l.invariant.1,
      rw bit (sym (ap (marked_all 0 l.sector0) step.is) ∙ l.invariant.2),
    )

pub returns : goal.returns
unfolding marked_all
returns c =
    let none = c.in-None.ensures.steps.is.0 in
    sym (ap (marked_all 0 c.loop-place.sector0) none) ∙ c.loop-place.invariant.2 ∙ ap (λ (s : List ℕ). marked_all 0 s (places c.args.chain.now)) c.mark_as.ensures

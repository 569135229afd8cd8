-- `index::copy_numbers` meets its contract. The loop's invariant: laying the numbers that are still to come from `to` on gives what laying all of them gives. Assumes nothing.
use mathlib.Core.Path.{sym, ap, ◌∙◌}
use native.Mathlib.Omega.{arith}
use lib.ListN.{length}
use Rattle.rules.proofs.Indexed.{laid_none, laid_number}
use Rattle.index.proofs.copy_numbers.Goals as goal

pub loop-k-preserved : goal.loop-k-preserved
loop-k-preserved c =
    let l = c.loop-k in
    let next = c.in-Some.ensures.steps in
    (omega (arith, l.invariant.0, ap length next), laid_number l.index l.to _ _ _ _ next c.lay_number.ensures ∙ l.invariant.1)

pub returns : goal.returns
returns c = let l = c.loop-k in sym (laid_none l.index l.to _ c.in-None.ensures.steps.0) ∙ l.invariant.1

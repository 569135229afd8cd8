-- `index::index_without` meets its contract. The loop's invariant: laying the numbers that are still to come but k, from `at` on, gives what laying all of them but k gives.
-- The measure is how many are still to come. Assumes nothing.
use mathlib.Core.Path.{◌≡◌, sym, ap, ◌∙◌}
use mathlib.Core.List.{List}
use Prim.Native.Nat.{ℕ}
use native.Mathlib.Omega.{arith}
use lib.ListN.{length}
use Rattle.rules.specs.Bytes.{splice}
use Rattle.rules.specs.Index.{numbers_bytes, without}
use Rattle.rules.proofs.Indexed.{laid_number, laid_index, without_none, without_here, without_later}
use Rattle.sector.specs.Numbers.{numbers_left}
use Rattle.rules.proofs.Index.{numbers_inside}
use Rattle.index.proofs.index_without.Goals as goal
use Rattle.index.proofs.index_without.Goals.{in-Some+then-from-k, in_default}

pub loop-j-init : goal.loop-j-init
loop-j-init c = rw (c.numbers_of-left.ensures, c.requires) (omega (arith, numbers_inside c.args.old.now), laid_index _)

pub loop-j-preserved : goal.loop-j-preserved
loop-j-preserved c =
    let l = c.loop-j in
    let next = c.in-Some.ensures.steps in
    (omega (arith, l.invariant.0, ap length next), laid_number l.index l.at _ _ _ _ (ap (without c.args.k) next ∙ without_later _ _ _ (λ e. c.if-from-k.false (c.from.ensures ∙ e))) c.lay_number.ensures ∙ l.invariant.1)

-- where the loop is left, what is left to lay is what is still to come
pub returns : goal.returns
returns c =
    let l = c.loop-j in
    let k = c.args.k in
    let behind : without k (numbers_left l.left) ≡ numbers_left c.next.new.self =
    elim c.match-next.branch [
      | in-Some+then-from-k found ↦ ap (without k) found.in-Some.ensures.steps ∙ without_here k _ _ (sym found.from.ensures ∙ found.if-from-k.true)
      | in_default none ↦ ap (without k) none.in_default.ensures.steps.0 ∙ without_none k ∙ sym none.in_default.ensures.steps.1
    ]
    in
    c.copy_numbers.ensures ∙ ap (λ (ks : List ℕ). splice l.index l.at (numbers_bytes ks)) (sym behind) ∙ l.invariant.1

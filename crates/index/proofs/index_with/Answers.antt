-- `index::index_with` meets its contract. The loop's invariant: laying the numbers that are still to come, with k put in among them, from `at` on gives what laying all of them with k gives.
-- The measure is how many are still to come. Assumes nothing.
use mathlib.Core.Path.{◌≡◌, refl, sym, ap, ◌∙◌}
use mathlib.Core.List.{[]}
use Prim.Native.Nat.{◌+◌}
use native.Mathlib.Omega.{arith}
use lib.ListN.{length}
use Rattle.rules.specs.Name.{precedes}
use Rattle.rules.specs.Volume.{placed}
use Rattle.rules.proofs.Indexed.{laid_none, laid_number, laid_index, placed_last, placed_here, placed_later}
use Rattle.rules.proofs.Index.{numbers_inside}
use Rattle.index.proofs.Named.{named}
use Rattle.index.proofs.index_with.Goals as goal

pub loop-j-init : goal.loop-j-init
loop-j-init c = rw (c.numbers_of-left.ensures, c.requires) (omega (arith, numbers_inside c.args.old.now), laid_index _)

-- k goes before the number met
pub returns-then-precedes : goal.returns-then-precedes
returns-then-precedes c =
    let a = c.args in
    let l = c.loop-j in
    let there = named a.image.now _ _ _ c.descriptor_of.ensures c.name.ensures in
    let before = ap (precedes a.name.now) (sym there) ∙ sym c.precedes.ensures ∙ c.if-precedes.true in
    let rest = ap (placed a.image.now a.name.now a.k) c.in-Some.ensures.steps ∙ placed_here a.image.now a.name.now a.k _ _ before in
    let e : l.at + 4 ≡ l.at + 2 + 2 = omega arith in
    c.copy_numbers.ensures
    ∙ rw e (laid_number c.lay_number.new.buffer (l.at + 2) _ _ _ _ refl c.lay_number-then-precedes.ensures)
    ∙ laid_number l.index l.at _ _ _ _ rest c.lay_number.ensures
    ∙ l.invariant.1

pub loop-j-preserved : goal.loop-j-preserved
loop-j-preserved c =
    let a = c.args in
    let l = c.loop-j in
    let next = c.in-Some.ensures.steps in
    let there = named a.image.now _ _ _ c.descriptor_of.ensures c.name.ensures in
    let after = ap (precedes a.name.now) (sym there) ∙ sym c.precedes.ensures ∙ c.if-precedes.false in
    let rest = ap (placed a.image.now a.name.now a.k) next ∙ placed_later a.image.now a.name.now a.k _ _ after in
    (omega (arith, l.invariant.0, ap length next), laid_number l.index l.at _ _ _ _ rest c.lay_number-in-Some.ensures ∙ l.invariant.1)

-- k goes behind all
pub returns : goal.returns
returns c =
    let a = c.args in
    let l = c.loop-j in
    let last = ap (placed a.image.now a.name.now a.k) c.in_default.ensures.steps.0 ∙ placed_last a.image.now a.name.now a.k in
    sym (laid_none c.lay_number-2.new.buffer (l.at + 2) [] refl) ∙ laid_number l.index l.at _ _ _ _ last c.lay_number-2.ensures ∙ l.invariant.1

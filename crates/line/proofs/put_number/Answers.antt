-- `line::put_number` meets its contract. The loop's invariant: the digits of what is left of the number, and those set already with the mark behind them, are the number's with the mark.
-- The measure is what is left of the number. Assumes nothing.
use mathlib.Core.Path.{◌≡◌, refl, ap, ◌∙◌}
use mathlib.Core.List.{List, [], ◌∷◌, ◌++◌}
use Prim.Native.Nat.{ℕ, suc, ◌-◌, ◌/◌, ◌^◌, ◌<◌}
use native.Mathlib.Omega.{arith}
use lib.ListN.{length, drop, set, length-drop, length-set}
use lib.Seq.{take_all}
use Rattle.rules.specs.Calls.Listing.{digits}
use Rattle.rules.proofs.Listing.{tenth_below, digits_decimal}
use Rattle.line.proofs.LaidLaws.{laid_as}
use Rattle.line.proofs.DigitSteps.{digit_more, digit_last, second_digit}
use Rattle.line.proofs.put_number.Goals as goal

pub loop-left-init : goal.loop-left-init
loop-left-init c =
    let number = c.args.number in
    let below : number < 10 ^ 20 = omega (arith, c.ranges.number) in
    (refl, omega arith, below, ap (λ (l : List ℕ). l ++ (c.args.mark ∷ [])) (digits_decimal 19 number below))

pub overflow_sub-first : goal.overflow_sub-first
overflow_sub-first c =
    let l = c.loop-left in
    second_digit l.first l.left c.loop-left-test.true l.invariant.2

pub loop-left-preserved : goal.loop-left-preserved
loop-left-preserved c =
    let l = c.loop-left in
    let two = c.loop-left-test.true in
    let some = second_digit l.first l.left two l.invariant.2 in
    let place : suc (l.first - 1) ≡ l.first = omega arith in (
      simp length-set l.invariant.0,
      omega arith,
      rw place (tenth_below l.first l.left l.invariant.2),
      ap (λ (k : ℕ). digits k (l.left / 10) ++ drop k (set l.figures l.first c.digit.result)) place
          ∙ digit_more l.figures l.first l.left c.digit.result (omega (arith, l.invariant.0, l.invariant.1)) two c.digit.ensures
          ∙ l.invariant.3,
    )

pub returns : goal.returns
returns c =
    let l = c.loop-left in
    let figures = set l.figures l.first c.digit-2.result in
    let long : length (drop l.first figures) ≡ 21 - l.first = simp (length-drop, length-set) (omega (arith, l.invariant.0)) in
    let all = take_all (21 - l.first) (drop l.first figures) (omega (arith, long)) in
    let last = digit_last l.figures l.first l.left c.digit-2.result (omega (arith, l.invariant.0, l.invariant.1)) c.loop-left-test.false c.digit-2.ensures in
    laid_as (all ∙ last ∙ l.invariant.3) (rw all (omega (arith, long))) c.put.ensures

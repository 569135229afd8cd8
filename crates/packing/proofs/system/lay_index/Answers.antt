-- `packing::system::lay_index` meets its contract. The loop's invariant: the numbers from `number` on are left, and go behind those before them, into what began as zeros (`Numbered`). Assumes nothing.
use mathlib.Core.Path.{◌≡◌, ap, ◌∙◌}
use mathlib.Core.Logic.{inl}
use mathlib.Core.List.{List}
use Prim.Native.Nat.{ℕ, ◌+◌, ◌≤◌}
use native.Mathlib.Omega.{arith}
use lib.ListN.{length, replicate}
use Rattle.std.proofs.lemmas.Iterator.Consumers.{YieldsList-from_first, count_from_yields_List}
use Rattle.rules.specs.Index.{numbers}
use Rattle.rules.proofs.Index.{numbers_inside}
use Rattle.sector.specs.Numbers.{numbers_left}
use Rattle.packing.proofs.IndexSteps.{numbered_start, numbered_step, numbered_end}
use Rattle.packing.proofs.system.lay_index.Goals as goal
use Rattle.packing.proofs.system.lay_index.Goals.{After-count}

-- the numbers of the source's index, and that they are few
many : (c : After-count) → c.count.result ≡ length (numbers c.args.old.now)
many c = count_from_yields_List _ _ c.count.ensures.ran (YieldsList-from_first (λ x. x) numbers_left _ c.numbers_of.ensures)

few : (c : After-count) → c.count.result ≤ 128
few c = omega (arith, many c, numbers_inside c.args.old.now, c.requires.1)

pub count-requires-clause-fits : goal.count-requires-clause-fits
count-requires-clause-fits c =
    let same = ap (λ (ks : List ℕ). length ks) c.numbers_of.ensures in
    inl (omega (arith, same, numbers_inside c.args.old.now, c.requires.1))

pub overflow_cast-end : goal.overflow_cast-end
overflow_cast-end c = omega (arith, few (goal.at.overflow_cast-end c).After-count)

pub overflow_add-end : goal.overflow_add-end
overflow_add-end c = omega (arith, few (goal.at.overflow_add-end c).After-count, c.requires.2)

pub loop-number-init : goal.loop-number-init
loop-number-init c = numbered_start _ _ _ (c.fill.ensures.after (λ y same. same) ∙ ap (λ (n : ℕ). replicate n 0) c.requires.0)

pub loop-number-preserved : goal.loop-number-preserved
loop-number-preserved c = numbered_step c.loop-number.invariant (omega arith) (omega arith) c.from.ensures c.lay_number.ensures

pub returns : goal.returns
returns c =
    let all = many (goal.at.returns c).After-count in
    let end = ap (λ (n : ℕ). c.args.first + n) all in
    record { value = end; index_after = numbered_end c.loop-number.invariant _ end c.loop-number-test.false }

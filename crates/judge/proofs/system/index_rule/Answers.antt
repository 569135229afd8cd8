-- `judge::system::index_rule` meets its contract. The loop's invariant: the numbers that are left are in range exactly where all are, and with the bytes before `at` they are all. Assumes nothing.
use mathlib.Core.Path.{◌≡◌, ap}
use Prim.Native.Nat.{◌*◌, ◌≤◌, ◌<◌}
use native.Mathlib.Omega.{arith}
use lib.ListN.{length}
use borrow.Author.Tests.{le-leb, lt-leb, lt-ltb, le-ltb}
use Rattle.rules.specs.Index.{numbers, range_rule, index_rule}
use Rattle.rules.proofs.Index.{numbers_inside}
use Rattle.judge.proofs.system.index_rule.Goals as goal
use Rattle.judge.proofs.system.index_rule.Goals.{In-None}

pub returns-then-k-lt2 : goal.returns-then-k-lt2
unfolding index_rule range_rule
returns-then-k-lt2 c = rw (← c.loop-k.invariant.rule, c.in-Some.ensures.steps, lt-leb _ _ c.if-k-lt2.true)

pub returns-then-from-n : goal.returns-then-from-n
unfolding index_rule range_rule
returns-then-from-n c = rw (← c.loop-k.invariant.rule, c.in-Some.ensures.steps, ← c.from.ensures, le-leb 2 c.from.result (omega arith), le-ltb c.from.result c.args.n (omega (arith, c.if-from-n.true)))

pub overflow_add-at : goal.overflow_add-at
overflow_add-at c = omega (arith, c.loop-k.invariant.behind, ap length c.in-Some.ensures.steps, numbers_inside c.args.index.now)

pub loop-k-preserved : goal.loop-k-preserved
unfolding range_rule
loop-k-preserved c = record {
  behind = omega (arith, c.loop-k.invariant.behind, ap length c.in-Some.ensures.steps);
  rule = rw (← c.loop-k.invariant.rule, c.in-Some.ensures.steps, ← c.from.ensures, le-leb 2 c.from.result (omega arith), lt-ltb _ _ c.if-from-n.false);
}

-- how many numbers there are
all : (c : In-None) → 2 * length (numbers c.args.index.now) ≡ c.loop-k.at
all c = omega (arith, c.loop-k.invariant.behind, ap length c.in-None.ensures.steps.0)

pub returns-then-at-ge256 : goal.returns-then-at-ge256
unfolding index_rule range_rule
returns-then-at-ge256 c =
    let many : 128 ≤ length (numbers c.args.index.now) = omega (arith, all (goal.at.returns-then-at-ge256 c).In-None, c.if-at-ge256.true) in
    rw (← c.loop-k.invariant.rule, c.in-None.ensures.steps.0, le-ltb _ _ many)

pub returns : goal.returns
unfolding index_rule range_rule
returns c =
    let same = all (goal.at.returns c).In-None in
    let few : length (numbers c.args.index.now) < 128 = omega (arith, same, c.if-at-ge256.false) in
    rw (c.all_are.ensures, ← c.loop-k.invariant.rule, c.in-None.ensures.steps.0, lt-ltb _ _ few, same)

-- `judge::files::chain_rule` meets its contract. The loop's invariant: the blocks that are left keep their rules from file sector `next` on exactly where all do from 0 on,
-- and with the bytes before `at` they are all. Assumes nothing.
use mathlib.Core.Path.{◌≡◌, ap, ◌∙◌}
use mathlib.Core.Bool.{Bool}
use mathlib.Core.List.{List}
use Prim.Native.Nat.{ℕ, ◌*◌}
use native.Mathlib.Omega.{arith}
use lib.ListN.{length, drop}
use borrow.Author.Tests.{eq-eqb, ne_eqb, le-leb, lt-leb, lt-ltb, le-ltb}
use Rattle.rules.specs.Bytes.{all_are}
use Rattle.rules.specs.Chain.{blocks, blocks_rule, chain_rule}
use Rattle.judge.proofs.ChainSteps.{blocks_inside}
use Rattle.judge.proofs.files.chain_rule.Goals as goal

pub returns-then-block-lt2 : goal.returns-then-block-lt2
unfolding chain_rule blocks_rule
returns-then-block-lt2 c = rw (← c.loop-block.invariant.rule, c.in-Some.ensures.steps.is, lt-leb _ _ c.if-block-lt2.true)

pub returns-then-block-next : goal.returns-then-block-next
unfolding chain_rule blocks_rule
returns-then-block-next c = rw (← c.loop-block.invariant.rule, c.in-Some.ensures.steps.is, le-leb _ _ c.if-block-lt2.false, lt-leb _ _ c.if-block-next.true)

pub returns-then-block-next-2 : goal.returns-then-block-next-2
unfolding chain_rule blocks_rule
returns-then-block-next-2 c =
    rw (← c.loop-block.invariant.rule, c.in-Some.ensures.steps.is, le-leb _ _ c.if-block-lt2.false, le-leb _ _ c.if-block-next.false, le-ltb _ _ c.if-block-next-2.true)

pub overflow_add-at : goal.overflow_add-at
overflow_add-at c = omega (arith, c.loop-block.invariant.behind, ap length c.in-Some.ensures.steps.is, blocks_inside c.args.chain.now)

pub loop-block-preserved : goal.loop-block-preserved
unfolding blocks_rule
loop-block-preserved c = record {
  behind = omega (arith, c.loop-block.invariant.behind, ap length c.in-Some.ensures.steps.is);
  rule = rw (← c.loop-block.invariant.rule, c.in-Some.ensures.steps.is, le-leb _ _ c.if-block-lt2.false, le-leb _ _ c.if-block-next.false, lt-ltb _ _ c.if-block-next-2.false);
}

pub returns-then-next-c : goal.returns-then-next-c
unfolding chain_rule blocks_rule
returns-then-next-c c = rw (← c.loop-block.invariant.rule, c.in-None.ensures.steps.is.0, ne_eqb _ _ c.if-next-c.true)

-- the bytes from where they are looked at on are those behind the blocks
behind : (chain : List ℕ) {said : Bool} {from : ℕ} → said ≡ all_are 0 (drop from chain) → from ≡ 3 * length (blocks chain) → said ≡ all_are 0 (drop (3 * length (blocks chain)) chain)
behind chain is same = is ∙ ap (λ (at : ℕ). all_are 0 (drop at chain)) same

pub returns : goal.returns
unfolding chain_rule blocks_rule
returns c =
    rw (behind c.args.chain.now c.all_are.ensures (omega (arith, c.loop-block.invariant.behind, ap length c.in-None.ensures.steps.is.0)), ← c.loop-block.invariant.rule, c.in-None.ensures.steps.is.0, eq-eqb _ _ c.if-next-c.false)

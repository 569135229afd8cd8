-- `repairing::catalogues_rule` meets its contract. The loop's invariant: the indexes that are left keep test 4 exactly where all do, and they lie in the image and keep their own rule.
-- Assumes nothing.
use mathlib.Core.Path.{◌≡◌}
use mathlib.Core.Bool.{true}
use mathlib.Core.List.{List, ◌∷◌}
use Prim.Native.Nat.{ℕ, ◌<◌}
use native.Mathlib.Omega.{arith}
use Rattle.rules.specs.Sectors.{sector_of, sector_count}
use Rattle.rules.specs.Index.{range_rule, index_rule}
use Rattle.rules.specs.Volume.{every, files_in}
use Rattle.rules.proofs.Tests.{both}
use Rattle.rules.proofs.Index.{index_is}
use Rattle.judge.proofs.DirectorySteps.{below_step}
use Rattle.repairing.proofs.catalogues_rule.Goals as goal
use Rattle.repairing.proofs.catalogues_rule.Goals.{After-from-i}

-- an index that keeps its rule, and those behind it
indexed_step : (n i : ℕ) (image is more : List ℕ) → is ≡ i ∷ more → every (λ j. index_rule n (sector_of image j)) is ≡ true
    → (index_rule n (sector_of image i) ≡ true) × (every (λ j. index_rule n (sector_of image j)) more ≡ true)
unfolding every
indexed_step n i image is more here indexed = both (index_rule n (sector_of image i)) (every (λ j. index_rule n (sector_of image j)) more) (rw here at indexed)

-- the index that stands here
ruled : (c : After-from-i) → let i = c.from-i.result in (i < c.args.n) × (index_rule c.args.n (sector_of c.args.image.now i) ≡ true)
ruled c =
    rw c.from-i.ensures (
      (below_step _ _ _ _ c.loop-i.invariant.below c.in-Some.ensures.steps).0,
      (indexed_step _ _ _ _ _ c.in-Some.ensures.steps c.loop-i.invariant.indexed).0,
    )

pub each_rule-requires : goal.each_rule-requires
unfolding index_rule files_in
each_rule-requires c =
    let is = ruled (goal.at.each_rule-requires c).After-from-i in
    (is.0, c.requires.0, (both (range_rule c.args.n (files_in c.args.image.now c.from-i.result)) _ is.1).0)

pub distinct_rule-requires : goal.distinct_rule-requires
distinct_rule-requires c =
    let is = ruled (goal.at.distinct_rule-requires c).After-from-i in
    let many : sector_count c.args.image.now ≡ c.args.n = omega (arith, c.requires.0) in
    rw many (c.requires.0, is.0, index_is c.args.n (sector_of c.args.image.now c.from-i.result) is.1)

pub returns-then-not-each_rule : goal.returns-then-not-each_rule
unfolding every
returns-then-not-each_rule c = rw (← c.loop-i.invariant.rule, c.in-Some.ensures.steps, ← c.from-i.ensures, ← c.each_rule.ensures, c.if-not-each_rule.true)

pub returns-then-not-distinct_rule : goal.returns-then-not-distinct_rule
unfolding every
returns-then-not-distinct_rule c =
    rw (← c.loop-i.invariant.rule, c.in-Some.ensures.steps, ← c.from-i.ensures, ← c.each_rule.ensures, c.if-not-each_rule.false, ← c.distinct_rule.ensures, c.if-not-distinct_rule.true)

pub loop-i-preserved : goal.loop-i-preserved
unfolding every
loop-i-preserved c = record {
  rule = rw (← c.loop-i.invariant.rule, c.in-Some.ensures.steps, ← c.from-i.ensures, ← c.each_rule.ensures, c.if-not-each_rule.false, ← c.distinct_rule.ensures, c.if-not-distinct_rule.false);
  below = (below_step _ _ _ _ c.loop-i.invariant.below c.in-Some.ensures.steps).1;
  indexed = (indexed_step _ _ _ _ _ c.in-Some.ensures.steps c.loop-i.invariant.indexed).1;
}

pub returns : goal.returns
unfolding every
returns c = rw (← c.loop-i.invariant.rule, c.in-None.ensures.steps.0)

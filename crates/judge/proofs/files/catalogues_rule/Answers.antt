-- `judge::files::catalogues_rule` meets its contract. The loop's invariant: the descriptors that the indexes that are left lead to keep their rules exactly where all do,
-- and those indexes lie in the image and keep theirs. Assumes nothing.
use mathlib.Core.Path.{◌≡◌}
use mathlib.Core.Bool.{true}
use mathlib.Core.List.{List, ◌∷◌}
use Prim.Native.Nat.{ℕ, ◌<◌}
use native.Mathlib.Omega.{arith}
use Rattle.rules.specs.Sectors.{sector_of}
use Rattle.rules.specs.Index.{range_rule, index_rule}
use Rattle.rules.specs.Volume.{every, files_in}
use Rattle.rules.proofs.Tests.{both}
use Rattle.judge.proofs.DirectorySteps.{below_step}
use Rattle.judge.proofs.files.catalogues_rule.Goals as goal

-- an index that keeps its rule, and those behind it
indexed_step : (n i : ℕ) (image is more : List ℕ) → is ≡ i ∷ more → every (λ j. index_rule n (sector_of image j)) is ≡ true
    → (range_rule n (files_in image i) ≡ true) × (every (λ j. index_rule n (sector_of image j)) more ≡ true)
unfolding every index_rule files_in
indexed_step n i image is more here indexed =
    let parts = both (index_rule n (sector_of image i)) (every (λ j. index_rule n (sector_of image j)) more) (rw here at indexed) in
    ((both (range_rule n (files_in image i)) _ parts.0).0, parts.1)

pub descriptors_rule-requires : goal.descriptors_rule-requires
descriptors_rule-requires c =
    rw c.from.ensures (
      (below_step _ _ _ _ c.loop-i.invariant.below c.in-Some.ensures.steps).0,
      c.requires.0,
      (indexed_step _ _ c.args.image.now _ _ c.in-Some.ensures.steps c.loop-i.invariant.indexed).0,
    )

pub returns-then-not-descriptors_rule : goal.returns-then-not-descriptors_rule
unfolding every
returns-then-not-descriptors_rule c =
    rw (← c.loop-i.invariant.rule, c.in-Some.ensures.steps, ← c.from.ensures, ← c.descriptors_rule.ensures, c.if-not-descriptors_rule.true)

pub loop-i-preserved : goal.loop-i-preserved
unfolding every
loop-i-preserved c = record {
  rule = rw (← c.loop-i.invariant.rule, c.in-Some.ensures.steps, ← c.from.ensures, ← c.descriptors_rule.ensures, c.if-not-descriptors_rule.false);
  below = (below_step _ _ _ _ c.loop-i.invariant.below c.in-Some.ensures.steps).1;
  indexed = (indexed_step _ _ c.args.image.now _ _ c.in-Some.ensures.steps c.loop-i.invariant.indexed).1;
}

pub returns : goal.returns
unfolding every
returns c = rw (← c.loop-i.invariant.rule, c.in-None.ensures.steps.0)

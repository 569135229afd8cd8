-- `judge::directories::indexes_rule` meets its contract. The loop's invariant: the indexes that are still to come lie in the image, and keep their rules exactly where all do. Assumes nothing.
use mathlib.Core.Path.{◌≡◌, refl, sym, ap, ◌∙◌}
use mathlib.Core.Bool.{Bool, true, false, ◌&&◌}
use Prim.Native.Nat.{ℕ, ◌<◌}
use native.Mathlib.Omega.{arith}
use Rattle.rules.specs.Sectors.{sector_of}
use Rattle.rules.specs.Index.{index_rule}
use Rattle.rules.specs.Volume.{indexes, every}
use Rattle.sector.specs.Directories.{indexes_left}
use Rattle.judge.specs.Claim.{Below}
use Rattle.judge.proofs.DirectorySteps.{below_step, every_none, every_step}
use Rattle.judge.proofs.directories.indexes_rule.Goals as goal
use Rattle.judge.proofs.directories.indexes_rule.Goals.{After-index_rule, At-loop-i, In-Some}

abbrev rule : At-loop-i → ℕ → Bool
rule c i = index_rule c.args.n (sector_of c.args.image.now i)

pub loop-i-init : goal.loop-i-init
loop-i-init c = rw (c.into_iter-i-iterator.ensures.into_iter_gives, c.indexes_of-i-items.ensures) (c.requires.1, refl)

inside : (c : In-Some) → (c.in-Some.i < c.args.n) × Below c.args.n (indexes_left c.next.new.self)
inside c = below_step c.args.n c.in-Some.i _ _ c.loop-i.invariant.0 c.in-Some.ensures.steps

pub sector_in-requires : goal.sector_in-requires
sector_in-requires c = omega (arith, c.requires.0, c.from.ensures, (inside (goal.at.sector_in-requires c).In-Some).0)

-- this index and those behind it, by what its rule gave
stepped : (c : After-index_rule) (good : Bool) → c.index_rule.result ≡ good →
    let a = c.args in
    every (rule (goal.at.After-index_rule c).At-loop-i) (indexes a.layout a.image.now) ≡ (good && every (rule (goal.at.After-index_rule c).At-loop-i) (indexes_left c.next.new.self))
stepped c good e =
    sym c.loop-i.invariant.1
    ∙ every_step (rule (goal.at.After-index_rule c).At-loop-i) _ good _ _ c.in-Some.ensures.steps
    (sym e ∙ c.index_rule.ensures ∙ ap (index_rule c.args.n) (c.sector_in.ensures ∙ ap (sector_of c.args.image.now) c.from.ensures))

pub returns-then-not-index_rule : goal.returns-then-not-index_rule
returns-then-not-index_rule c = sym (stepped (goal.at.returns-then-not-index_rule c).After-index_rule false (c.if-not-index_rule.true))

pub loop-i-preserved : goal.loop-i-preserved
loop-i-preserved c = ((inside (goal.at.loop-i-preserved c).In-Some).1, sym (stepped (goal.at.loop-i-preserved c).After-index_rule true (c.if-not-index_rule.false)))

pub returns : goal.returns
returns c = sym (sym c.loop-i.invariant.1 ∙ every_none (rule (goal.at.returns c).At-loop-i) _ c.in-None.ensures.steps.0)

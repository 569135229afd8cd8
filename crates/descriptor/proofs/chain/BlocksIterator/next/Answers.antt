-- The iterator over the blocks of a chain gives the first of those that are left: too few bytes, three zeros, or a block, by the law of the blocks for each. Assumes nothing.
use mathlib.Core.Path.{sym, ◌∙◌}
use Prim.Native.Nat.{◌≤◌}
use native.Mathlib.Omega.{arith}
use lib.ListN.{length}
use borrow.Author.Tests.{eq-eqb, ne_eqb}
use Rattle.rules.proofs.Chain.{blocks_step, blocks_end, blocks_short}
use Rattle.sector.proofs.Yields.{yields_progress}
use Rattle.descriptor.specs.Walk.{blocks_left}
use Rattle.descriptor.proofs.Blocks.{InFront, in_front, no_block}
use Rattle.descriptor.proofs.chain.BlocksIterator.next.Goals as goal
use Rattle.descriptor.proofs.chain.BlocksIterator.next.Goals.{After-fields_of-fields}

-- three bytes are there
long : (c : After-fields_of-fields) → 3 ≤ length c.args.self.now.chain.now
long c = omega (arith, c.in-Some.ensures.cases)

front : (c : After-fields_of-fields) → InFront c.args.self.now.chain.now c.in-Some.block.now
front c = in_front _ _ (long c) c.in-Some.ensures.cases.0

pub returns-in_default-clause-steps : goal.returns-in_default-clause-steps
returns-in_default-clause-steps c = no_block _ (blocks_short c.args.self.now.chain.now 0 c.in_default.ensures.cases)

pub returns-then-fields-eq0-clause-steps : goal.returns-then-fields-eq0-clause-steps
returns-then-fields-eq0-clause-steps c =
    let at = (goal.at.returns-then-fields-eq0-clause-steps c).After-fields_of-fields in
    let f = front at in
    no_block _ (blocks_end c.args.self.now.chain.now 0 (long at) (rw (← f.first, ← f.second, ← f.third) (sym c.fields_of-fields.ensures.0 ∙ eq-eqb _ 0 c.if-fields-eq0.true)))

pub returns-clause-steps : goal.returns-clause-steps
returns-clause-steps c =
    let at = (goal.at.returns-clause-steps c).After-fields_of-fields in
    let f = front at in
    let fields = c.fields_of-fields.ensures in
    record {
      is = rw (c.in-Some.ensures.cases.1, fields.1, f.first, f.second, f.third) (blocks_step c.args.self.now.chain.now 0 (long at) (rw (← f.first, ← f.second, ← f.third) (sym fields.0 ∙ ne_eqb _ 0 c.if-fields-eq0.false)));
      small = record { start = omega arith; last = omega (arith, fields.2) };
    }

pub returns-clause-goes : goal.returns-clause-goes
returns-clause-goes c = yields_progress blocks_left _ _ _ (returns-clause-steps c).is

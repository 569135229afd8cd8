-- `descriptor::name::precedes` meets its contract. The loop's invariant: the order of what is left of the two names is the order of the names.
-- Assumes nothing.
use mathlib.Core.Path.{◌≡◌}
use native.Mathlib.Omega.{arith}
use lib.ListN.{length}
use borrow.Author.Tests.{eq-eqb, ne_eqb}
use Rattle.rules.proofs.Name.{precedes_step, precedes_short, precedes_end}
use Rattle.descriptor.proofs.name.precedes.Goals as goal

pub returns-then-i-second : goal.returns-then-i-second
returns-then-i-second c = rw (← c.loop-i.invariant, precedes_short _ _ _ c.loop-i-test.true c.if-i-second.true)

pub returns-then-a-b : goal.returns-then-a-b
returns-then-a-b c = rw (← c.loop-i.invariant, precedes_step _ _ _ c.loop-i-test.true c.if-i-second.false, ne_eqb _ _ c.if-a-b.true)

pub loop-i-preserved : goal.loop-i-preserved
loop-i-preserved c = rw (← c.loop-i.invariant, precedes_step _ _ _ c.loop-i-test.true c.if-i-second.false, eq-eqb _ _ c.if-a-b.false)

pub returns : goal.returns
returns c =
    let end : c.loop-i.i ≡ length c.args.first.now = omega arith in
    rw (← c.loop-i.invariant, precedes_end _ _ _ c.loop-i-test.false, end)

-- `storing::spread` meets its contract. The loop's invariant: what is left to take gives, with what is taken, what all of it gives. Assumes nothing.
use mathlib.Core.Path.{◌≡◌}
use Prim.Native.Nat.{◌+◌, ◌-◌, ◌<◌}
use native.Mathlib.Omega.{arith}
use Rattle.extension.proofs.Tips.{tip_none}
use Rattle.storing.proofs.Spreading.{spreading_first, too_many_blocks, room_for, spreading_on, all_taken}
use Rattle.storing.proofs.spread.Goals as goal
use Rattle.storing.proofs.spread.Goals.{After-next-search}

-- some are left to take
more : (c : After-next-search) → 0 < c.args.many - c.loop.counter
more c = omega (arith, c.loop-test.true)

pub loop-init : goal.loop-init
loop-init c =
    let none = c.default-tip.ensures in
    let all : c.args.many - 0 ≡ c.args.many = omega arith in
    rw (all, tip_none _ none.0 none.1.0 none.1.1.0 none.1.1.1) (spreading_first _ c.told-sector0 (λ i. omega (arith, c.type_inv.chain i)) c.requires.0 (c.first-search.ensures.1 _))

pub with-requires : goal.with-requires
with-requires c =
    let is = c.loop.invariant in
    (omega (arith, is.built.tip_is.used, is.built.size), omega (arith, is.number, c.requires.1))

pub returns-then-with-gt76 : goal.returns-then-with-gt76
returns-then-with-gt76 c =
    too_many_blocks c.loop.invariant (more (goal.at.returns-then-with-gt76 c).After-next-search) c.next-search.ensures.0 c.with.ensures c.if-with-gt76.true

pub extend-tip-requires : goal.extend-tip-requires
extend-tip-requires c =
    room_for c.loop.invariant (more (goal.at.extend-tip-requires c).After-next-search) c.next-search.ensures.0 c.requires.1 c.with.ensures c.if-with-gt76.false

pub loop-preserved : goal.loop-preserved
loop-preserved c =
    let l = c.loop in
    let one_less : c.args.many - l.counter - 1 ≡ c.args.many - (l.counter + 1) = omega arith in
    rw (c.mark.ensures, ← one_less)
    (spreading_on l.invariant (more (goal.at.loop-preserved c).After-next-search) c.next-search.ensures.0 c.next-search.ensures.1 c.extend-tip.ensures (λ i. omega (arith, c.type_inv.chain i)))

pub returns : goal.returns
returns c = all_taken c.loop.invariant (omega (arith, c.loop-test.false))

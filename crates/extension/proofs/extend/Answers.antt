-- `extension::extend` meets its contract: the block of the new tip, laid in its place, lays all blocks. Assumes nothing.
use mathlib.Core.Path.{◌≡◌, ap, ◌∙◌}
use Prim.Native.Nat.{◌+◌, ◌-◌, ◌*◌, ◌≤◌, ◌<◌}
use native.Mathlib.Omega.{arith}
use Rattle.rules.specs.Bytes.{splice}
use Rattle.extension.proofs.Building.{longer_numbers, extends}
use Rattle.std.proofs.Common.{rules}
use Rattle.extension.proofs.extend.Goals as goal
use Rattle.extension.proofs.extend.Goals.{After-with-longer}

-- the numbers of the new tip, as they are known where it is made
numbers : (c : After-with-longer) →
    let a = c.args in
    let longer = c.with-longer.result in
    (1 ≤ longer.used) × (longer.used ≤ 76) × (longer.start < 4096) × (longer.next ≡ a.tip.next + 1) × (a.tip.next < 4096)
numbers c =
    let a = c.args in
    let f = longer_numbers a.chain.now a.tip a.k c.requires c.with-longer.result c.with-longer.ensures in
    (f.1, f.2, f.3, f.4, c.requires.next)

pub overflow_sub-number : goal.overflow_sub-number
overflow_sub-number c = let f = numbers (goal.at.overflow_sub-number c).After-with-longer in omega arith

pub overflow_sub-last : goal.overflow_sub-last
overflow_sub-last c = let f = numbers (goal.at.overflow_sub-last c).After-with-longer in omega arith

pub block_bytes-block-requires : goal.block_bytes-block-requires
block_bytes-block-requires c = let f = numbers (goal.at.block_bytes-block-requires c).After-with-longer in (omega arith, omega arith)

pub returns : goal.returns
returns c =
    let a = c.args in
    extends a.chain.now a.tip a.k c.requires c.with-longer.result c.with-longer.ensures
    (λ i. search rules)
    c.lay.new.buffer
    (c.lay.ensures ∙ ap (splice a.chain.now (3 * (c.with-longer.result.used - 1))) c.block_bytes-block.ensures)

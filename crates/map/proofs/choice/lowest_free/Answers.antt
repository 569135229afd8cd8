-- `map::choice::lowest_free` meets its contract. The loop's invariant: all sectors from `from` up to k are taken. The measure is what is left.
-- Assumes nothing.
use mathlib.Core.Path.{◌≡◌, sym, ◌∙◌}
use Prim.Native.Nat.{suc, ◌+◌, ◌-◌, ◌/◌, ◌%◌, ◌^◌}
use native.Mathlib.Omega.{arith}
use Rattle.rules.specs.Bytes.{byte_at}
use Rattle.rules.specs.Map.{map_bit}
use Rattle.rules.proofs.Choice.{lowest_end, lowest_here}
use Rattle.map.proofs.SearchLaws.{full_on, full_sector, full_byte, lowest_on}
use Rattle.map.proofs.choice.lowest_free.Goals as goal
use Rattle.map.proofs.choice.lowest_free.Goals.{Else-value}

pub loop-k-init : goal.loop-k-init
loop-k-init c = (omega arith, λ i low high free. omega arith)

pub loop-k-preserved-then-value : goal.loop-k-preserved-then-value
loop-k-preserved-then-value c =
    let l = c.loop-k in
    let a = c.args in
    let full : byte_at a.sector0.now (56 + l.k / 8) ≡ 255 = omega (arith, c.byte-value.ensures, c.if-value.true) in
    (omega arith, full_on a.sector0.now a.from l.k _ l.invariant.1 (full_byte a.sector0.now l.k full))

-- the bit of a sector in a byte that is not full
bit_is : (c : Else-value) →
    map_bit c.args.sector0.now c.loop-k.k ≡ c.byte-value.result / 2 ^ (c.loop-k.k % 8) % 2
unfolding map_bit
bit_is c = rw (← c.byte-value.ensures)

pub loop-k-preserved : goal.loop-k-preserved
loop-k-preserved c =
    let l = c.loop-k in
    let a = c.args in
    (omega arith, full_on a.sector0.now a.from l.k _ l.invariant.1 (full_sector a.sector0.now l.k (bit_is (goal.at.loop-k-preserved c).Else-value ∙ c.if-value-k-eq1.true)))

pub returns-else-value-k-eq1 : goal.returns-else-value-k-eq1
returns-else-value-k-eq1 c =
    let l = c.loop-k in
    let a = c.args in
    let e : a.end - l.k ≡ suc (a.end - (l.k + 1)) = omega arith in
    let free : map_bit a.sector0.now l.k ≡ 0 = omega (arith, bit_is (goal.at.returns-else-value-k-eq1 c).Else-value, c.if-value-k-eq1.false) in
    (sym (rw e (lowest_here a.sector0.now _ l.k free)) ∙ lowest_on a.sector0.now a.from l.k a.end l.invariant.0 (omega arith) l.invariant.1, omega arith)

pub returns : goal.returns
returns c =
    let a = c.args in
    let e : a.end - a.end ≡ 0 = omega arith in
    let whole = lowest_on a.sector0.now a.from a.end a.end c.requires.0 (omega arith) (λ i low high. c.loop-k.invariant.1 i low (omega arith)) in
    (sym (rw e (lowest_end a.sector0.now a.end)) ∙ whole, omega arith)

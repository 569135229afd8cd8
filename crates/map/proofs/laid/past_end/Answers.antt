-- `map::laid::past_end` meets its contract: 255 shifted up by the number of the eight sectors that are below the end. Assumes nothing.
use Prim.Native.Nat.{◌-◌}
use native.Mathlib.Omega.{arith}
use Rattle.map.proofs.HeldBytes.{past_byte, all_past, none_past}
use Rattle.map.proofs.laid.past_end.Goals as goal

pub returns-then-n-k : goal.returns-then-n-k
returns-then-n-k c = all_past _ _ c.if-n-k.true

pub returns-then-n-k-ge8 : goal.returns-then-n-k-ge8
returns-then-n-k-ge8 c = none_past _ _ (omega arith)

pub returns : goal.returns
returns c =
    let a = c.args in
    past_byte a.n a.k (a.n - a.k) (omega arith) (λ j h. omega arith) (λ j h l. omega arith)

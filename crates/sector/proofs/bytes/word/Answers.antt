-- `sector::bytes::word` meets its contract: it is the sum of its two bytes, and past the end both are zero. Assumes nothing.
use Prim.Native.Nat.{◌+◌}
use native.Mathlib.Omega.{arith}
use lib.ListN.{get_or-eq_default}
use Rattle.std.proofs.Common.{rules}
use Rattle.sector.proofs.bytes.word.Goals as goal

pub returns-then-bytes-i : goal.returns-then-bytes-i
returns-then-bytes-i c =
    let a = c.args in
    let high = get_or-eq_default a.bytes.now 0 c.if-bytes-i.true in
    let low = get_or-eq_default a.bytes.now 0 {n = a.i + 1} (omega arith) in
    omega arith

pub returns : goal.returns
returns c = search rules

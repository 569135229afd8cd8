-- `judge::marks::take` meets its contract: the neighbours' bits in their byte, tested and added at once, by the laws of neighbours. Assumes nothing.
use mathlib.Core.Path.{refl}
use native.Mathlib.Omega.{arith}
use Rattle.judge.proofs.MarkLaws.{some_taken, none_taken}
use Rattle.judge.proofs.marks.take.Goals as goal

pub returns-then-byte-bits-ne0 : goal.returns-then-byte-bits-ne0
returns-then-byte-bits-ne0 c =
    (some_taken _ _ _ _ c.requires.0 c.requires.1 (omega arith) c.ones.ensures c.if-byte-bits-ne0.true, refl)

pub returns : goal.returns
returns c =
    none_taken _ _ _ _ c.requires.0 c.requires.1 (omega arith) c.ones.ensures c.if-byte-bits-ne0.false

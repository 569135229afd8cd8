-- `masters::hex_digit` meets its contract: the test is the definition's. Assumes nothing.
use Rattle.std.proofs.Common.{refl, le-ltb, lt-ltb}
use Rattle.masters.specs.Line.{hex_digit}
use Rattle.masters.proofs.hex_digit.Goals as goal

pub returns-then-value-lt10 : goal.returns-then-value-lt10
unfolding hex_digit
returns-then-value-lt10 c = rw (lt-ltb _ _ c.if-value-lt10.true) refl

pub returns : goal.returns
unfolding hex_digit
returns c = rw (le-ltb _ _ c.if-value-lt10.false) refl

-- `descriptor::name::name_byte` meets its contract: each way out is a bound of the test, in its order. Assumes nothing.
use borrow.Author.Tests.{le-leb, lt-leb}
use Rattle.rules.specs.Name.{name_byte}
use Rattle.descriptor.proofs.name.name_byte.Goals as goal

pub returns-then-b-lt33 : goal.returns-then-b-lt33
unfolding name_byte
returns-then-b-lt33 c = rw (lt-leb _ _ c.if-b-lt33.true)

pub returns-then-b-gt126 : goal.returns-then-b-gt126
unfolding name_byte
returns-then-b-gt126 c = rw (le-leb _ _ c.if-b-lt33.false, lt-leb _ _ c.if-b-gt126.true)

pub returns : goal.returns
unfolding name_byte
returns c = rw (le-leb _ _ c.if-b-lt33.false, le-leb _ _ c.if-b-gt126.false)

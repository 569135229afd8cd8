-- `pnoelithe::crossing::kind_number` meets its contract: a case of the code for each case of the definition. Assumes nothing.
use Rattle.pnoelithe.specs.Crossing.{kind_number}
use Rattle.pnoelithe.proofs.crossing.kind_number.Goals as goal

pub returns-then-internal : goal.returns-then-internal
unfolding kind_number
returns-then-internal c = rw (c.in-Fixed.is, c.if-internal.true)

pub returns-then-internal-2 : goal.returns-then-internal-2
unfolding kind_number
returns-then-internal-2 c = rw (c.in-Variable.is, c.if-internal-2.true)

pub returns-in-Program : goal.returns-in-Program
unfolding kind_number
returns-in-Program c = rw c.in-Program.is

pub returns-else-internal : goal.returns-else-internal
unfolding kind_number
returns-else-internal c = rw (c.in-Fixed.is, c.if-internal.false)

pub returns-else-internal-2 : goal.returns-else-internal-2
unfolding kind_number
returns-else-internal-2 c = rw (c.in-Variable.is, c.if-internal-2.false)

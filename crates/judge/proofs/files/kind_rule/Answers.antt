-- `judge::files::kind_rule` meets its contract: a case for each kind, and of a program one for c = 0. Assumes nothing.
use borrow.Author.Tests.{eq-eqb, ne_eqb}
use Rattle.rules.specs.Kind.{kind_rule}
use Rattle.judge.proofs.files.kind_rule.Goals as goal

pub returns-then-c-ne0 : goal.returns-then-c-ne0
unfolding kind_rule
returns-then-c-ne0 c = rw (c.in-Program.is, ne_eqb _ 0 c.if-c-ne0.true)

pub returns-else-c-ne0 : goal.returns-else-c-ne0
unfolding kind_rule
returns-else-c-ne0 c = rw (c.in-Program.is, eq-eqb _ 0 c.if-c-ne0.false)

pub returns-in-Fixed : goal.returns-in-Fixed
unfolding kind_rule
returns-in-Fixed c = rw c.in-Fixed.is

pub returns-in-Variable : goal.returns-in-Variable
unfolding kind_rule
returns-in-Variable c = rw c.in-Variable.is

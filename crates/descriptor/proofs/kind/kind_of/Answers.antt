-- `descriptor::kind::kind_of` meets its contract: each way out is a case of the definition, by the program bit and the variable bit. Assumes nothing.
use mathlib.Core.Path.{ap}
use native.Mathlib.Nat.{div-one}
use borrow.Author.Tests.{eq-eqb, ne_eqb}
use Rattle.rules.specs.Kind.{kind_of}
use Rattle.rules.specs.declared.Kind.TheVariants.{Program}
use Rattle.descriptor.proofs.kind.kind_of.Goals as goal

pub returns-then-status-eq1 : goal.returns-then-status-eq1
unfolding kind_of
returns-then-status-eq1 c = rw (div-one c.args.status, eq-eqb _ _ c.if-status-eq1.true) (ap Program c.program_length.ensures)

pub returns-then-status-eq1-2 : goal.returns-then-status-eq1-2
unfolding kind_of
returns-then-status-eq1-2 c = rw (div-one c.args.status, ne_eqb _ _ c.if-status-eq1.false, eq-eqb _ _ c.if-status-eq1-2.true)

pub returns : goal.returns
unfolding kind_of
returns c = rw (div-one c.args.status, ne_eqb _ _ c.if-status-eq1.false, ne_eqb _ _ c.if-status-eq1-2.false)

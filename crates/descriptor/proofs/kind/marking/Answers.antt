-- `descriptor::kind::marking` meets its contract: by the rule with marks the bit that is not there is added. Assumes nothing.
use native.Mathlib.Omega.{arith}
use Rattle.rules.specs.Bytes.{with_bit}
use Rattle.rules.specs.Kind.{marking}
use Rattle.descriptor.proofs.kind.marking.Goals as goal

pub returns-then-status-eq0 : goal.returns-then-status-eq0
unfolding marking with_bit
returns-then-status-eq0 c = rw c.if-layout.true (omega arith)

pub returns-else-status-eq0 : goal.returns-else-status-eq0
unfolding marking with_bit
returns-else-status-eq0 c = rw c.if-layout.true (omega (arith, c.if-status-eq0.false))

pub returns-else-layout : goal.returns-else-layout
unfolding marking
returns-else-layout c = rw c.if-layout.false

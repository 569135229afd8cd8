-- `descriptor::kind::status_rule` meets its contract: each way out is a test of the rule, in its order, by the bits as the code reads them. Assumes nothing.
use mathlib.Core.Path.{◌≡◌}
use mathlib.Core.Bool.{true}
use native.Mathlib.Nat.{div-one}
use lib.Dec.{eqb}
use borrow.Author.Tests.{eq-eqb, ne_eqb, not-true, not-false}
use Rattle.rules.specs.Kind.{allowed_bits, within, status_rule}
use Rattle.rules.proofs.Status.{plain_allowed, mark_allowed, mark_forbidden, other_forbidden}
use Rattle.descriptor.proofs.kind.status_rule.Goals as goal
use Rattle.descriptor.proofs.kind.status_rule.Goals.{Joined-status-plain, then-status-plain+else-not-layout+else-status-plain-2, else-status-plain}

pub returns-then-not-layout : goal.returns-then-not-layout
unfolding status_rule
returns-then-not-layout c =
    let a = c.args in
    rw (ne_eqb _ _ (mark_forbidden a.layout a.status (not-true _ c.if-not-layout.true) (rw (div-one a.status) c.if-status-plain.true)))

pub returns-then-status-plain-2 : goal.returns-then-status-plain-2
unfolding status_rule
returns-then-status-plain-2 c =
    let a = c.args in
    rw (ne_eqb _ _ (other_forbidden a.layout a.status (rw (div-one a.status) c.if-status-plain.true) (rw (div-one a.status) c.if-status-plain-2.true)))

-- past those tests the status has allowed bits alone
allowed : (c : Joined-status-plain) →
    let a = c.args in
    eqb a.status (within (allowed_bits a.layout) a.status) ≡ true
allowed c =
    let a = c.args in
    elim c.if-status-plain.branch [
      | then-status-plain+else-not-layout+else-status-plain-2 marked ↦
          eq-eqb _ _ (mark_allowed a.layout a.status (not-false _ marked.if-not-layout.false) (rw (div-one a.status) marked.if-status-plain-2.false))
      | else-status-plain plain ↦ eq-eqb _ _ (plain_allowed a.layout a.status (rw (div-one a.status) plain.if-status-plain.false))
    ]

pub returns-then-internal-eq1 : goal.returns-then-internal-eq1
unfolding status_rule
returns-then-internal-eq1 c =
    rw (allowed (goal.at.returns-then-internal-eq1 c).Joined-status-plain, div-one c.args.status, eq-eqb _ _ c.if-program-eq1.true, eq-eqb _ _ c.if-internal-eq1.true)

pub returns-then-program-eq1 : goal.returns-then-program-eq1
unfolding status_rule
returns-then-program-eq1 c =
    rw (allowed (goal.at.returns-then-program-eq1 c).Joined-status-plain, div-one c.args.status, eq-eqb _ _ c.if-program-eq1.true, ne_eqb _ _ c.if-internal-eq1.false)

pub returns : goal.returns
unfolding status_rule
returns c = rw (allowed (goal.at.returns c).Joined-status-plain, div-one c.args.status, ne_eqb _ _ c.if-program-eq1.false)

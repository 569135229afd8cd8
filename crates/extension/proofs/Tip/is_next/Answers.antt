-- `extension::Tip::is_next` meets its contract: k lies so many behind the block's start exactly where it is the start and so many more; a tip without blocks has no next. Assumes nothing.
use mathlib.Core.Path.{◌≡◌}
use Prim.Native.Nat.{ℕ, ◌+◌, ◌-◌, ◌≤◌, ◌<◌}
use native.Mathlib.Omega.{arith}
use lib.Dec.{eqb}
use borrow.Author.Tests.{eq-eqb, ne_eqb, eqb-true, lt-ltb, le-ltb}
use Rattle.rules.proofs.Tests.{same_test}
use Rattle.extension.specs.Tip.{is_next}
use Rattle.extension.proofs.Tip.is_next.Goals as goal
use Rattle.extension.proofs.Tip.is_next.Goals.{then-self-eq0-via-then-self-eq0, then-self-eq0-via-else-self-eq0+then-k-self}

-- k is many behind start
behind : (k start many : ℕ) → start ≤ k → eqb (k - start) many ≡ eqb k (start + many)
behind k start many h =
    same_test (eqb (k - start) many) (eqb k (start + many))
    (λ e. let is = eqb-true (k - start) many e in eq-eqb k (start + many) (omega arith))
    (λ e. let is = eqb-true k (start + many) e in eq-eqb (k - start) many (omega arith))

pub returns-then-self-eq0 : goal.returns-then-self-eq0
unfolding is_next
returns-then-self-eq0 c =
    let tip = c.args.self in
    elim c.then-self-eq0.branch [
      | then-self-eq0-via-then-self-eq0 w ↦ rw (le-ltb 0 tip.used (omega (arith, w.if-self-eq0.true)))
      | then-self-eq0-via-else-self-eq0+then-k-self w ↦
          let some : 0 < tip.used = omega (arith, w.if-self-eq0.false) in
          rw (lt-ltb 0 tip.used some, ne_eqb c.args.k (tip.start + (tip.next - tip.first)) (λ e. omega (arith, w.if-k-self.true)))
    ]

pub returns : goal.returns
unfolding is_next
returns c =
    let tip = c.args.self in
    let some : 0 < tip.used = omega (arith, c.if-self-eq0.false) in
    rw (lt-ltb 0 tip.used some, c.saturating_sub.ensures) (behind c.args.k tip.start (tip.next - tip.first) c.if-k-self.false)

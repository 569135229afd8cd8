-- The iterator over the numbers of an index gives the first of those that are left: too few bytes, a zero, or a number, by the law of the numbers for each. Assumes nothing.
use mathlib.Core.Path.{◌≡◌, sym, ◌∙◌}
use Prim.Native.Nat.{◌≤◌}
use native.Mathlib.Omega.{arith}
use lib.ListN.{length}
use Rattle.rules.specs.Bytes.{word_at}
use Rattle.rules.proofs.Index.{numbers_step, numbers_end, numbers_short}
use Rattle.sector.proofs.NumberLaws.{front_word}
use Rattle.sector.proofs.Yields.{yields_progress}
use Rattle.sector.specs.Numbers.{numbers_left}
use Rattle.sector.proofs.numbers.NumbersIterator.next.Goals as goal
use Rattle.sector.proofs.numbers.NumbersIterator.next.Goals.{After-from_be_bytes-k}

-- two bytes are there
long : (c : After-from_be_bytes-k) → 2 ≤ length c.args.self.now.index.now
long c = omega (arith, c.in-Some.ensures.cases)

is : (c : After-from_be_bytes-k) → c.from_be_bytes-k.result ≡ word_at c.args.self.now.index.now 0
is c = front_word _ _ _ (long c) c.in-Some.ensures.cases.0 c.from_be_bytes-k.ensures

pub returns-in_default-clause-steps : goal.returns-in_default-clause-steps
returns-in_default-clause-steps c = let none = numbers_short c.args.self.now.index.now 0 c.in_default.ensures.cases in (none, none)

pub returns-then-k-eq0-clause-steps : goal.returns-then-k-eq0-clause-steps
returns-then-k-eq0-clause-steps c =
    let at = (goal.at.returns-then-k-eq0-clause-steps c).After-from_be_bytes-k in
    let none = numbers_end c.args.self.now.index.now 0 (long at) (sym (is at) ∙ c.if-k-eq0.true) in
    (none, none)

pub returns-clause-steps : goal.returns-clause-steps
returns-clause-steps c =
    let at = (goal.at.returns-clause-steps c).After-from_be_bytes-k in
    let e = is at in
    rw (e, c.in-Some.ensures.cases.1) (numbers_step c.args.self.now.index.now 0 (long at) (λ z. c.if-k-eq0.false (e ∙ z)))

pub returns-clause-goes : goal.returns-clause-goes
returns-clause-goes c = yields_progress numbers_left _ _ _ (returns-clause-steps c)

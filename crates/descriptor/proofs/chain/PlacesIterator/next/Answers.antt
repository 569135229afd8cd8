-- The iterator over the places of a chain gives the next place of the present block, or the first of the next one, by the law of what is ahead for each. Assumes nothing.
use mathlib.Core.Path.{◌≡◌, refl}
use native.Mathlib.Omega.{arith}
use Rattle.sector.proofs.Yields.{steps_progress}
use Rattle.descriptor.specs.Ahead.{Steady, places_left}
use Rattle.descriptor.proofs.Ahead.{in_block, none_ahead, next_block}
use Rattle.descriptor.proofs.chain.PlacesIterator.next.Goals as goal

pub returns-then-self-gt0-clause-steps : goal.returns-then-self-gt0-clause-steps
returns-then-self-gt0-clause-steps c =
    let s = c.args.self.now in
    record { is = in_block s.place s.left s.next s.blocks.chain.now c.if-self-gt0.true; steady = omega (arith, c.requires); follows = (refl, omega (arith, c.requires)) }

pub returns-then-self-gt0-clause-goes : goal.returns-then-self-gt0-clause-goes
returns-then-self-gt0-clause-goes c =
    let steps = returns-then-self-gt0-clause-steps c in
    steps_progress Steady places_left _ _ _ steps.is steps.steady

pub returns-in_default-clause-steps : goal.returns-in_default-clause-steps
returns-in_default-clause-steps c =
    let s = c.args.self.now in
    let none = c.in_default.ensures.steps.is in
    let done : s.left ≡ 0 = omega (arith, c.if-self-gt0.false) in
    record {
      is = (none_ahead s.place s.left s.next _ done none.0, none_ahead s.place s.left s.next _ done none.1);
      steady = c.requires;
      follows = tt;
    }

pub returns-clause-steps : goal.returns-clause-steps
returns-clause-steps c =
    let s = c.args.self.now in
    let met = c.in-Some.ensures.steps in
    let done : s.left ≡ 0 = omega (arith, c.if-self-gt0.false) in
    record {
      is = rw c.saturating_sub-self.ensures (next_block s.place s.left s.next s.blocks.chain.now done c.in-Some.block c.next.new.self.chain.now met.is);
      steady = omega (arith, c.saturating_sub-self.ensures, met.small.start, met.small.last);
      follows = (refl, omega (arith, met.small.start));
    }

pub returns-clause-goes : goal.returns-clause-goes
returns-clause-goes c =
    let steps = returns-clause-steps c in
    steps_progress Steady places_left _ _ _ steps.is steps.steady

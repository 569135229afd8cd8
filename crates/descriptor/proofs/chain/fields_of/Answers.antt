-- `descriptor::chain::fields_of` meets its contract: a sum of bytes by their places is zero where each of them is, and twelve bits of it are the definition's sums. Assumes nothing.
use mathlib.Core.Bool.{◌&&◌}
use Prim.Native.Nat.{◌+◌, ◌*◌}
use native.Mathlib.Omega.{arith}
use lib.Dec.{eqb}
use borrow.Author.Tests.{eq-eqb, eqb-true}
use Rattle.rules.specs.Chain.{block_of, ends_chain}
use Rattle.rules.proofs.Tests.{both, same_test}
use Rattle.rules.proofs.Chain.{same_block}
use Rattle.descriptor.proofs.chain.fields_of.Goals as goal

pub returns : goal.returns
unfolding block_of ends_chain
returns c =
    let a = c.args.a in
    let b = c.args.b in
    let d = c.args.c in
    let sum = a + 256 * b + 65536 * d in
    rw (c.from.ensures, c.from-2.ensures, c.from-3.ensures) (
      same_test (eqb sum 0) (eqb a 0 && (eqb b 0 && eqb d 0))
          (λ e.
          let none = eqb-true sum 0 e in
          rw (eq-eqb a 0 (omega arith), eq-eqb b 0 (omega arith), eq-eqb d 0 (omega arith)))
          (λ e.
          let first = both (eqb a 0) (eqb b 0 && eqb d 0) e in
          let second = both (eqb b 0) (eqb d 0) first.1 in
          eq-eqb sum 0 (omega (arith, eqb-true a 0 first.0, eqb-true b 0 second.0, eqb-true d 0 second.1))),
      same_block _ _ _ _ (omega arith) (omega arith),
      omega arith,
    )

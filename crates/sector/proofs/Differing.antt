-- Differences of bytes gathered by or: the sum is zero exactly where each is, and a difference is zero exactly where its two bytes are equal.
use mathlib.Core.Path.{◌≡◌}
use mathlib.Core.Bool.{Bool, ◌&&◌}
use Prim.Native.Nat.{ℕ, zero, suc, ◌≤◌}
use native.Mathlib.Omega.{arith}
use lib.Dec.{eqb}
use lib.Bits.{bit_or, bit_xor, or_add_and, and_le_r, or_zero_l, and_le_l, xor_add_and, xor_self}
use borrow.Author.Tests.{eq-eqb, ne_eqb, eqb-true}
use Rattle.rules.proofs.Tests.{same_test}

or_zero : (a b : ℕ) (t : Bool) → (eqb (bit_or a b) 0 && t) ≡ (eqb a 0 && (eqb b 0 && t))
or_zero zero b t = rw (or_zero_l b)
or_zero (suc a) b t =
    let h : 1 ≤ bit_or (suc a) b = omega (arith, or_add_and (suc a) b, and_le_r (suc a) b) in
    rw (ne_eqb (bit_or (suc a) b) 0 (λ e. omega (arith, e, h)), ne_eqb (suc a) 0 (λ e. omega (arith, e)))

xor_zero : (a b : ℕ) → eqb (bit_xor a b) 0 ≡ eqb a b
xor_zero a b =
    same_test (eqb (bit_xor a b) 0) (eqb a b)
    (λ e. eq-eqb a b (omega (arith, eqb-true (bit_xor a b) 0 e, xor_add_and a b, and_le_l a b, and_le_r a b)))
    (λ e. let same = eqb-true a b e in eq-eqb (bit_xor a b) 0 (rw same (xor_self b)))

pub differing_more : (differing b value : ℕ) (t : Bool) → (eqb (bit_or differing (bit_xor b value)) 0 && t) ≡ (eqb differing 0 && (eqb b value && t))
differing_more differing b value t = rw (or_zero differing (bit_xor b value) t, xor_zero b value)

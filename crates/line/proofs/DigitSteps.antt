-- A turn of the loop over the digits of a number.
use mathlib.Core.Path.{◌≡◌, ◌∙◌}
use mathlib.Core.List.{List, ◌∷◌, ◌++◌, append_assoc}
use Prim.Native.Nat.{ℕ, zero, suc, ◌+◌, ◌/◌, ◌%◌, ◌^◌, ◌≤◌, ◌<◌}
use native.Mathlib.Omega.{arith}
use lib.ListN.{length, drop, set, length-set}
use lib.Seq.{drop-cons, drop-set-lt, get_or-set_same}
use Rattle.rules.specs.Calls.Listing.{digits}
use Rattle.rules.proofs.Listing.{digits_one, digits_more}

-- digits are set from the end of a list on
drop-set_here : (l : List ℕ) (i v : ℕ) → i < length l → drop i (set l i v) ≡ v ∷ drop (suc i) l
drop-set_here l i v h =
    let k : i < length (set l i v) = rw length-set h in
    drop-cons (set l i v) i 0 k ∙ rw (get_or-set_same l i v 0 h, drop-set-lt (suc i) l i v (omega arith))

module _ (l : List ℕ) (first x v : ℕ) (here : first < length l) where
  pub digit_more : 10 ≤ x → v ≡ 48 + x % 10 → digits first (x / 10) ++ drop first (set l first v) ≡ digits (suc first) x ++ drop (suc first) l
  digit_more h e = rw (digits_more first x h, append_assoc, drop-set_here l first v here, e)

  pub digit_last : x < 10 → v ≡ 48 + x → drop first (set l first v) ≡ digits (suc first) x ++ drop (suc first) l
  digit_last h e = rw (digits_one first x h, drop-set_here l first v here, e)

-- a number of two digits has room for a second
pub second_digit : (first x : ℕ) → 10 ≤ x → x < 10 ^ suc first → 1 ≤ first
second_digit zero x h l = absurd (omega arith)
second_digit (suc first) x h l = omega arith

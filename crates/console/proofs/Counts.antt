-- An image that is counted is one more, as long as the counts have room for it.
use mathlib.Core.Path.{◌≡◌, ◌∙◌}
use mathlib.Core.List.{List}
use Prim.Native.Nat.{ℕ, ◌+◌, ◌<◌}
use native.Mathlib.Omega.{arith}
use native.Mathlib.Decide.{dec_lt}
use lib.ListN.{length, length-set}
use borrow.Author.Tests.{lt-ltb, le-ltb}
use Rattle.std.proofs.lemmas.List.Sums.{sum_by-set, get_or-le-sum_by}
use Rattle.rules.specs.Bytes.{byte_at}
use Rattle.console.specs.Tally.{place_of, more, counted, images_in}

place_small : (mark : ℕ) → place_of mark < 8
unfolding place_of
place_small mark =
    elim (dec_lt mark 0x30) [
      | yes low ↦ rw (lt-ltb mark 0x30 low) (omega arith)
      | no high ↦ elim (dec_lt 0x36 mark) [
        | yes past ↦ rw (le-ltb mark 0x30 (omega arith), lt-ltb 0x36 mark past) (omega arith)
        | no inside ↦ rw (le-ltb mark 0x30 (omega arith), le-ltb 0x36 mark (omega arith)) (omega arith)
      ]
    ]

pub one_more : (tally : List ℕ) (mark : ℕ) → length tally ≡ 8 → images_in tally < 18446744073709551615 → images_in (counted tally mark) ≡ images_in tally + 1
unfolding counted more
one_more tally mark long room =
    let inside : place_of mark < length tally = omega (arith, place_small mark) in
    let count = byte_at tally (place_of mark) in
    let low = get_or-le-sum_by (λ (n : ℕ). n) tally (place_of mark) 0 inside in
    rw (lt-ltb count 18446744073709551615 (omega (arith, low)))
    (omega (arith, sum_by-set (λ (n : ℕ). n) tally (place_of mark) (count + 1) 0 inside))

pub counts_stay : (tally : List ℕ) (mark : ℕ) → length tally ≡ 8 → length (counted tally mark) ≡ 8
unfolding counted
counts_stay tally mark long = length-set tally (place_of mark) _ ∙ long

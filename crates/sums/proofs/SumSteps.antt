-- The sum of what is left from byte i on: one byte more, and the end. By the definition, at a byte that is there and at none. And a part of the bytes that is the whole.
use mathlib.Core.Path.{◌≡◌}
use mathlib.Core.List.{List}
use Prim.Native.Nat.{ℕ, ◌+◌, ◌*◌, ◌%◌, ◌≤◌, ◌<◌}
use lib.ListN.{length, take, drop, get_or}
use lib.Seq.{take_all}
use Rattle.std.proofs.lemmas.List.{at_drop_more, at_drop_all}
use Rattle.sums.specs.Sum.{prime, sum_from}

pub sum_step : (sum : ℕ) (bytes : List ℕ) (i : ℕ) → i < length bytes
    → sum_from sum (drop i bytes) ≡ sum_from ((sum * 256 + get_or bytes i 0) % prime) (drop (i + 1) bytes)
unfolding sum_from
sum_step sum bytes i h = at_drop_more (sum_from sum) bytes i 0 h

pub sum_end : (sum : ℕ) (bytes : List ℕ) (i : ℕ) → length bytes ≤ i → sum_from sum (drop i bytes) ≡ sum
unfolding sum_from
sum_end sum bytes i h = at_drop_all (sum_from sum) bytes i h

-- a part that is the whole, whose sum is that of the bytes
pub part_whole : (n : ℕ) (bytes : List ℕ) → length bytes ≤ n → take n bytes ≡ bytes
part_whole n bytes h = take_all n bytes h

-- The sum so far, with the bytes that are left behind it, gives the sum of the whole, and it is below the prime.
use mathlib.Core.Path.{◌≡◌}
use Prim.Native.Nat.{◌<◌}
use lib.ListN.{drop}
use Rattle.sums.specs.Sum.{prime, sum_from, sum_of}
use Rattle.sums.proofs.sum.sum_of.Given as goal

abbrev pub invariant-loop-byte : goal.invariant-loop-byte
invariant-loop-byte l = (sum_from l.sum (drop l.byte-index l.bytes) ≡ sum_of l.bytes) × (l.sum < prime)

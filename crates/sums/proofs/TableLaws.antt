-- What a caller keeps a table by: with zeros for every bucket nothing is entered, and a table up to a place is one up to any later place.
use mathlib.Core.Path.{◌≡◌}
use mathlib.Core.List.{List, []}
use Prim.Native.Nat.{ℕ, ◌%◌, ◌≤◌}
use native.Mathlib.Omega.{arith}
use native.Mathlib.Decide.{dec_lt}
use lib.ListN.{length, get_or, replicate, get_or-replicate, length-replicate, get_or-eq_default}
use Rattle.sums.specs.Table.{chain, under, Table}

zeros : (n i : ℕ) → ◌≡◌ {A = ℕ} (get_or (replicate n 0) i 0) 0
zeros n i =
    elim (dec_lt i n) [
      | yes h ↦ get_or-replicate n i 0 0 h
      | no h ↦ get_or-eq_default (replicate n 0) 0 {n = i} (rw length-replicate (omega arith))
    ]

pub table_empty : (buckets : ℕ) → Table (replicate buckets 0) 1
table_empty buckets = record { below = λ b. rw (zeros buckets b) (omega arith) }

pub under_empty : (sum buckets : ℕ) (earlier sums : List ℕ) → under sum (replicate buckets 0) earlier sums ≡ []
unfolding under chain
under_empty sum buckets earlier sums = let none : List ℕ = replicate buckets 0 in rw (zeros buckets (sum % length none))

pub table_later : {last : List ℕ} {next : ℕ} (later : ℕ) → Table last next → next ≤ later → Table last later
table_later later table h = record { below = λ b. omega (arith, table.below b) }

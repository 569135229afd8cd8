use mathlib.Core.Path.{◌≡◌}
use Prim.Native.Nat.{◌+◌, ◌*◌, ◌≤◌}
use lib.ListN.{length}
use Rattle.rules.specs.Bytes.{splice}
use Rattle.rules.specs.Index.{numbers, numbers_bytes, index_of, without}
use Rattle.sector.specs.Numbers.{numbers_left}
use Rattle.index.proofs.index_without.Given as goal

abbrev pub invariant-loop-j : goal.invariant-loop-j
invariant-loop-j l =
    (l.at + 2 * length (numbers_left l.left) ≤ length l.old)
    × (splice l.index l.at (numbers_bytes (without l.k (numbers_left l.left))) ≡ index_of (without l.k (numbers l.old)))

abbrev pub decreases-loop-j : goal.decreases-loop-j
decreases-loop-j l = length (numbers_left l.left)

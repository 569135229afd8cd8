use mathlib.Core.Path.{◌≡◌}
use Prim.Native.Nat.{◌+◌, ◌*◌}
use lib.ListN.{length}
use Rattle.rules.specs.Bytes.{splice}
use Rattle.rules.specs.Index.{numbers_bytes}
use Rattle.sector.specs.Numbers.{numbers_left}
use Rattle.index.proofs.copy_numbers.Given as goal

abbrev pub invariant-loop-k : goal.invariant-loop-k
invariant-loop-k l =
    (l.to + 2 * length (numbers_left l.k-iterator) ≡ l.at + 2 * length (numbers_left l.left))
    × (splice l.index l.to (numbers_bytes (numbers_left l.k-iterator)) ≡ splice l.initial.index l.at (numbers_bytes (numbers_left l.left)))

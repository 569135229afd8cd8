use mathlib.Core.Path.{◌≡◌}
use Prim.Native.Nat.{◌+◌, ◌*◌}
use lib.ListN.{length, drop}
use Rattle.rules.specs.Bytes.{splice}
use Rattle.rules.specs.Sectors.{written}
use Rattle.rules.specs.Chain.{places}
use Rattle.rules.specs.Calls.Store.{data_writes}
use Rattle.descriptor.specs.Ahead.{places_left}
use Rattle.storing.proofs.write_data.Given as goal

abbrev pub invariant-loop-number : goal.invariant-loop-number
invariant-loop-number l =
    let count = l.number-iterator.count in
    let left = places_left l.number-iterator.iter in
    (goal.iterator-loop-number).can_next l.number-iterator × (count + length left ≡ length (places l.chain))
    × (written l.image (data_writes (drop (256 * count) l.bytes) left) ≡ written l.initial.image (data_writes l.bytes (places l.chain)))
    × (splice l.changes (2 + count) left ≡ splice l.initial.changes 2 (places l.chain))

use mathlib.Core.Path.{◌≡◌}
use Prim.Native.Nat.{◌+◌, ◌*◌, ◌≤◌, ◌<◌}
use lib.ListN.{length}
use Rattle.rules.specs.Chain.{blocks}
use Rattle.descriptor.specs.Walk.{blocks_left}
use Rattle.extension.specs.Tip.{tip_from, tip_of}
use Rattle.extension.proofs.Tip.of.Given as goal

abbrev pub invariant-loop-block : goal.invariant-loop-block
invariant-loop-block l =
    (3 * (l.tip.used + length (blocks_left l.block-iterator)) ≤ length l.chain)
    × (l.tip.start < 4096)
    × (l.tip.next ≤ 4096)
    × (tip_from l.tip (blocks_left l.block-iterator) ≡ tip_of (blocks l.chain))

use mathlib.Core.Path.{◌≡◌}
use Rattle.std.specs.Prelude.{slice_get}
use Rattle.rules.specs.Chain.{places_from, places}
use Rattle.descriptor.specs.Walk.{blocks_left}
use Rattle.descriptor.proofs.chain.place_at.Given as goal

abbrev pub invariant-loop-block : goal.invariant-loop-block
invariant-loop-block l = slice_get (places_from l.next (blocks_left l.block-iterator)) l.left ≡ slice_get (places l.chain) l.offset

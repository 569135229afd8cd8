use mathlib.Core.Path.{◌≡◌}
use lib.ListN.{length}
use Rattle.rules.specs.Map.{marked_all}
use Rattle.rules.specs.Chain.{places}
use Rattle.descriptor.specs.Ahead.{places_left}
use Rattle.map.proofs.bits.clear_file.Given as goal

abbrev pub invariant-loop-place : goal.invariant-loop-place
invariant-loop-place l =
    (goal.iterator-loop-place).can_next l.place-iterator × (length l.sector0 ≡ length l.initial.sector0) × (marked_all 0 l.sector0 (places_left l.place-iterator) ≡ marked_all 0 l.initial.sector0 (places l.chain))

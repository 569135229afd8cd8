use mathlib.Core.List.{List}
use Prim.Native.Nat.{ℕ, ◌*◌}
use Rattle.rules.specs.Volume.{name_in}
use Rattle.index.specs.Front.{InFront}
use Rattle.index.proofs.Settling.{Shifted}
use Rattle.index.proofs.settle.Given as goal

abbrev pub invariant-loop-place : goal.invariant-loop-place
invariant-loop-place l =
    (front : List ℕ) → InFront l.image l.initial.index (2 * l.places) front → Shifted l.image (name_in l.image l.k) l.initial.index front l.place l.index

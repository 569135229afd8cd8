use mathlib.Core.Path.{◌≡◌}
use Prim.Native.Nat.{◌-◌}
use lib.ListN.{length}
use Rattle.bench.proofs.create_files.Given as goal

abbrev pub invariant-loop-i : goal.invariant-loop-i
invariant-loop-i l = length l.image ≡ length l.initial.image

abbrev pub decreases-loop-i : goal.decreases-loop-i
decreases-loop-i l = 127 - l.i

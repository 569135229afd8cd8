-- The first bytes are the source's, and the length is as it was.
use mathlib.Core.Path.{◌≡◌}
use lib.ListN.{length, take}
use Rattle.sector.proofs.buffer.copy.Given as goal

abbrev pub invariant-loop-i : goal.invariant-loop-i
invariant-loop-i l = (length l.target ≡ length l.source) × (take l.i l.target ≡ take l.i l.source)

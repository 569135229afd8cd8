use mathlib.Core.Path.{◌≡◌}
use mathlib.Core.List.{[], ◌∷◌, ◌++◌}
use Prim.Native.Nat.{suc, ◌^◌, ◌≤◌, ◌<◌}
use lib.ListN.{length, drop}
use Rattle.rules.specs.Calls.Listing.{digits, decimal}
use Rattle.line.proofs.put_number.Given as goal

abbrev pub invariant-loop-left : goal.invariant-loop-left
invariant-loop-left l = (length l.figures ≡ 21) × (l.first ≤ 19) × (l.left < 10 ^ suc l.first) × (digits (suc l.first) l.left ++ drop (suc l.first) l.figures ≡ decimal l.number ++ (l.mark ∷ []))

abbrev pub decreases-loop-left : goal.decreases-loop-left
decreases-loop-left l = l.left

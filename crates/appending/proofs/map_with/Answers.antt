-- `appending::map_with` meets its contract: a copy of sector 0, with the bit that `mark` makes. Assumes nothing.
use mathlib.Core.Path.{ap, ◌∙◌}
use mathlib.Core.List.{List}
use Prim.Native.Nat.{ℕ}
use Rattle.rules.specs.Map.{marked}
use Rattle.appending.proofs.map_with.Goals as goal

pub returns : goal.returns
returns c =
    rw c.from.ensures at c.mark.ensures ∙ ap (λ (s : List ℕ). marked 1 s c.args.new) (c.copy_from_slice.ensures.after ∙ c.sector_of.ensures)

-- `judge::marks::ones` meets its contract: the rule of the table, tried at each of its eight places. Assumes nothing.
use mathlib.Core.Path.{◌≡◌, refl}
use mathlib.Core.List.{List, [], ◌∷◌}
use Prim.Native.Nat.{ℕ, ◌+◌, ◌-◌, ◌^◌}
use lib.ListN.{get_or}
use Rattle.rules.proofs.Map.{by_eight}
use Rattle.std.proofs.Common.{rules}
use Rattle.judge.proofs.marks.ones.Goals as goal

abbrev table : List ℕ
table = 1 ∷ (3 ∷ (7 ∷ (15 ∷ (31 ∷ (63 ∷ (127 ∷ (255 ∷ [])))))))

pub returns : goal.returns
returns c = by_eight (λ (more : ℕ). get_or table more 0 ≡ 2 ^ (more + 1) - 1) refl refl refl refl refl refl refl refl c.args.more (search rules)

-- The three entries of a volume with directories, as the judge goes over them.
use Rattle.std.specs.Prelude.{List, [], ◌∷◌, ℕ}
use Rattle.rules.specs.Bytes.{part}

unfoldable pub three_entries : List ℕ → List (List ℕ)
three_entries sector0 = part sector0 20 12 ∷ (part sector0 32 12 ∷ (part sector0 44 12 ∷ []))

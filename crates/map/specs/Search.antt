-- How far the search for data has come.
use Rattle.std.specs.Prelude.{◌≡◌, List, ℕ, ◌≤◌, ◌<◌}
use Rattle.rules.specs.Map.{map_bit}
use Rattle.map.specs.declared.choice.Search.{Search}

-- nothing is passed yet
abbrev pub first : Search
first = record { sector = 0; high = 34; low = 2 }

-- all sectors from 34 up to `high`, and from 2 up to `low`, are taken
pub record Searched (sector0 : List ℕ) (search : Search) : Type 0 where
  pub high : (34 ≤ search.high) × (search.high ≤ 1600)
  pub low : (2 ≤ search.low) × (search.low ≤ 34)
  pub above : (k : ℕ) → 34 ≤ k → k < search.high → map_bit sector0 k ≡ 0 → ⊥
  pub below : (k : ℕ) → 2 ≤ k → k < search.low → map_bit sector0 k ≡ 0 → ⊥

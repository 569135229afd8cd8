-- Where a descriptor and data go, by the map in sector 0. Its bits from n on are one, so whatever is free is below n.
use Rattle.std.specs.Prelude.{cond, List, [], ◌∷◌, ℕ, zero, suc, ◌+◌, eqb, ltb}
use Rattle.rules.specs.Map.{map_bit, marked}

-- the lowest free sector among the `many` from k on, or the one behind them
unfoldable pub lowest_free : List ℕ → ℕ → ℕ → ℕ
lowest_free sector0 zero k = k
lowest_free sector0 (suc many) k = cond (eqb (map_bit sector0 k) 0) k (lowest_free sector0 many (k + 1))

-- a new descriptor takes the lowest free sector from 2 up
unfoldable pub descriptor_choice : List ℕ → ℕ
descriptor_choice sector0 = lowest_free sector0 1598 2

-- data takes the lowest free sector from 34 up; when none is left there, the lowest free from 2 to 33
unfoldable pub data_choice : List ℕ → ℕ
data_choice sector0 = cond (ltb (lowest_free sector0 1566 34) 1600) (lowest_free sector0 1566 34) (lowest_free sector0 32 2)

-- several are taken one after another by this rule
unfoldable pub data_choices : ℕ → List ℕ → List ℕ
data_choices zero sector0 = []
data_choices (suc many) sector0 = data_choice sector0 ∷ data_choices many (marked 1 sector0 (data_choice sector0))

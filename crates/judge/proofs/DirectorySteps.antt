-- The entries, by their places, and the indexes: a turn of each loop over them.
use mathlib.Core.Path.{◌≡◌, refl}
use mathlib.Core.Bool.{Bool, true, false, ◌&&◌, ◌||◌}
use mathlib.Core.List.{List, [], ◌∷◌}
use Prim.Native.Nat.{ℕ, zero, suc, ◌+◌, ◌*◌, ◌≤◌, ◌<◌}
use native.Mathlib.Omega.{arith}
use lib.ListN.{drop, drop_of_length-le}
use Rattle.rules.specs.Bytes.{part, same}
use Rattle.rules.specs.Directory.{entries, entry_name, is_absent, is_named, entry_rule, entries_rule}
use Rattle.rules.specs.Volume.{every}
use Rattle.rules.specs.declared.Layout.{Layout}
use Rattle.rules.proofs.Map.{count_here, count_more}
use Rattle.judge.specs.Entered.{three_entries}
use Rattle.judge.specs.Claim.{Below}

-- the three entries, and none where the layout has no directories
module _ (layout : Layout) (sector0 : List ℕ) where
  pub entries_three : layout.directories ≡ true → entries layout sector0 ≡ three_entries sector0
  unfolding entries three_entries
  entries_three second = rw second

  pub entries_none : layout.directories ≡ false → entries layout sector0 ≡ []
  unfolding entries
  entries_none first = rw first

-- the entry at a place, and those behind it
entries_step : (sector0 : List ℕ) (place : ℕ) → place < 3 → drop place (three_entries sector0) ≡ part sector0 (20 + 12 * place) 12 ∷ drop (place + 1) (three_entries sector0)
unfolding three_entries
entries_step sector0 zero h = refl
entries_step sector0 (suc zero) h = refl
entries_step sector0 (suc (suc zero)) h = refl
entries_step sector0 (suc (suc (suc place))) h = absurd (omega arith)

entries_past : (sector0 : List ℕ) (place : ℕ) → 3 ≤ place → drop place (three_entries sector0) ≡ []
unfolding three_entries
entries_past sector0 place h = drop_of_length-le (three_entries sector0) {i = place} (omega arith)

module _ (name sector0 : List ℕ) (place : ℕ) where
  pub named_step : (found : Bool) (there : List ℕ) → place < 3 → there ≡ entry_name (part sector0 (20 + 12 * place) 12) → found ≡ same name there
      → is_named name (drop place (three_entries sector0)) ≡ (found || is_named name (drop (place + 1) (three_entries sector0)))
  unfolding is_named
  named_step found there h e is = rw (entries_step sector0 place h, is, e)

  pub named_past : 3 ≤ place → is_named name (drop place (three_entries sector0)) ≡ false
  unfolding is_named
  named_past h = rw (entries_past sector0 place h)

module _ (n : ℕ) (sector0 : List ℕ) (place : ℕ) where
  pub rule_step : (good : Bool) → place < 3 →
      let entry = part sector0 (20 + 12 * place) 12 in
      let more = drop (place + 1) (three_entries sector0) in
      good ≡ (is_absent entry || entry_rule n entry more) → entries_rule n (drop place (three_entries sector0)) ≡ (good && entries_rule n more)
  unfolding entries_rule
  rule_step good h e = rw (entries_step sector0 place h, e)

  pub rule_past : 3 ≤ place → entries_rule n (drop place (three_entries sector0)) ≡ true
  unfolding entries_rule
  rule_past h = rw (entries_past sector0 place h)

-- a number below an end, and those behind it
pub below_step : (n k : ℕ) (ks more : List ℕ) → Below n ks → ks ≡ k ∷ more → (k < n) × Below n more
below_step n k ks more below here =
    let all : Below n (k ∷ more) = rw here at below in
    (all k (omega (arith, count_here k more)), λ j some. all j (omega (arith, some, count_more j k more)))

-- a test of each of them
module _ (test : ℕ → Bool) (is : List ℕ) where
  pub every_none : is ≡ [] → every test is ≡ true
  unfolding every
  every_none none = rw none

  pub every_step : (good : Bool) (i : ℕ) (more : List ℕ) → is ≡ i ∷ more → good ≡ test i → every test is ≡ (good && every test more)
  unfolding every
  every_step good i more here e = rw (here, e)

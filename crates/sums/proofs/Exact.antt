-- The table is exact: under a sum it has the places that were entered under it and no other, the latest first. By induction on what was entered.
use mathlib.Core.Path.{◌≡◌, refl, sym, ap, ◌∙◌}
use mathlib.Core.List.{List, ◌∷◌}
use Prim.Native.Nat.{ℕ}
use native.Mathlib.Decide.{ℕ_discrete}
use borrow.Author.Tests.{eq-eqb, ne_eqb}
use Rattle.sums.specs.Table.{under}
use Rattle.sums.specs.History.{Entry, places_under, History, begun, more}
use Rattle.sums.proofs.TableLaws.{under_empty}

-- where the sums are equal
same_sum : (last earlier sums : List ℕ) (entries : List Entry) (entry : Entry) (sum : ℕ) → sum ≡ entry.sum → under entry.sum last earlier sums ≡ entry.place ∷ places_under entry.sum entries
    → under sum last earlier sums ≡ places_under sum (entry ∷ entries)
unfolding places_under
same_sum last earlier sums entries entry sum is own = rw (eq-eqb entry.sum sum (sym is)) (ap (λ (s : ℕ). under s last earlier sums) is ∙ own ∙ ap (λ (s : ℕ). entry.place ∷ places_under s entries) (sym is))

pub exact : {last earlier sums : List ℕ} {entries : List Entry} → History last earlier sums entries → (sum : ℕ) → under sum last earlier sums ≡ places_under sum entries
unfolding places_under
exact {earlier = earlier} {sums = sums} (begun buckets zeros) sum = rw zeros (under_empty sum buckets earlier sums)
exact (more entry before entered) sum =
    elim (ℕ_discrete sum entry.sum) [
      | yes h ↦ same_sum _ _ _ _ entry sum h (entered.own refl ∙ ap (λ (places : List ℕ). entry.place ∷ places) (exact before entry.sum))
      | no h ↦ rw (ne_eqb entry.sum sum (λ e. h (sym e))) (entered.others sum h ∙ exact before sum)
    ]

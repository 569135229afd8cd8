-- Numbers ordered by the names that they lead to: they are the same numbers, they ascend where no two names are equal, and they stand so where the names stand.
use mathlib.Core.Path.{◌≡◌, refl, sym, ◌∙◌}
use mathlib.Core.List.{List, [], ◌∷◌}
use Prim.Native.Nat.{ℕ, suc, ◌+◌, ◌≤◌, ◌<◌}
use native.Mathlib.Omega.{arith}
use native.Mathlib.Decide.{ℕ_discrete}
use lib.ListN.{length, get_or}
use Rattle.rules.specs.Map.{count}
use Rattle.rules.specs.Volume.{name_in, places_in, file_holders, placed}
use Rattle.rules.specs.Calls.Repair.{ordered_onto, ordered}
use Rattle.rules.proofs.Map.{count_none, count_here, count_other, count_more, count_append}
use Rattle.rules.proofs.Indexed.{placed-count, placed-length, placed_all, placed_ascending, Ascending}
use Rattle.rules.proofs.Staying.{placed_agree, holders_placed}

-- no two of them lead to one name
abbrev pub Distinct : List ℕ → List ℕ → Type 0
Distinct image ks = (p q : ℕ) → p < q → q < length ks → name_in image (get_or ks p 0) ≡ name_in image (get_or ks q 0) → ⊥

module _ (image : List ℕ) where
  onto_count : (j : ℕ) (first ks : List ℕ) → count j (ordered_onto image first ks) ≡ count j first + count j ks
  unfolding ordered_onto count
  onto_count j first [] = omega arith
  onto_count j first (k ∷ ks) = omega (arith, onto_count j (placed image (name_in image k) k first) ks, placed-count k j image (name_in image k) first)

  pub ordered-count : (j : ℕ) (ks : List ℕ) → count j (ordered image ks) ≡ count j ks
  unfolding ordered
  ordered-count j ks = omega (arith, onto_count j [] ks, count_none j)

  onto_length : (first ks : List ℕ) → length (ordered_onto image first ks) ≡ length first + length ks
  unfolding ordered_onto
  onto_length first [] = omega arith
  onto_length first (k ∷ ks) = omega (arith, onto_length (placed image (name_in image k) k first) ks, placed-length k image (name_in image k) first)

  pub ordered-length : (ks : List ℕ) → length (ordered image ks) ≡ length ks
  unfolding ordered
  ordered-length ks = omega (arith, onto_length [] ks)

  -- what holds of each of them
  onto_all : (P : ℕ → Type 0) (first ks : List ℕ) → ((p : ℕ) → p < length first → P (get_or first p 0)) → ((p : ℕ) → p < length ks → P (get_or ks p 0))
      → (p : ℕ) → p < length (ordered_onto image first ks) → P (get_or (ordered_onto image first ks) p 0)
  unfolding ordered_onto
  onto_all P first [] here all = here
  onto_all P first (k ∷ ks) here all =
      onto_all P (placed image (name_in image k) k first) ks (placed_all P k image (name_in image k) first (all 0 (omega arith)) here) (λ p h. all (suc p) (omega arith))

  pub ordered_all : (P : ℕ → Type 0) (ks : List ℕ) → ((p : ℕ) → p < length ks → P (get_or ks p 0)) → (p : ℕ) → p < length (ordered image ks) → P (get_or (ordered image ks) p 0)
  unfolding ordered
  ordered_all P ks all = onto_all P [] ks (λ p h. absurd (omega arith)) all

  -- what they hold, in any image
  onto_holders : (volume : List ℕ) (j : ℕ) (first ks : List ℕ) → count j (file_holders volume (ordered_onto image first ks)) ≡ count j (file_holders volume first) + count j (file_holders volume ks)
  unfolding ordered_onto file_holders
  onto_holders volume j first [] = omega (arith, count_none j)
  onto_holders volume j first (k ∷ ks) =
      omega (
        arith,
        onto_holders volume j (placed image (name_in image k) k first) ks,
        holders_placed volume image (name_in image k) k j first,
        count_append j (k ∷ places_in volume k) (file_holders volume ks),
      )

  pub ordered_holders : (volume : List ℕ) (j : ℕ) (ks : List ℕ) → count j (file_holders volume (ordered image ks)) ≡ count j (file_holders volume ks)
  unfolding ordered file_holders
  ordered_holders volume j ks = omega (arith, onto_holders volume j [] ks, count_none j)

  -- names of ten bytes, no two of them equal, ascend
  onto_ascending : (first ks : List ℕ) → Ascending image first → ((p : ℕ) → p < length first → length (name_in image (get_or first p 0)) ≡ 10)
      → ((p : ℕ) → p < length ks → length (name_in image (get_or ks p 0)) ≡ 10) → Distinct image ks
      → ((p q : ℕ) → p < length first → q < length ks → name_in image (get_or first p 0) ≡ name_in image (get_or ks q 0) → ⊥) → Ascending image (ordered_onto image first ks)
  unfolding ordered_onto
  onto_ascending first [] up long long' distinct apart = up
  onto_ascending first (k ∷ ks) up long long' distinct apart =
      let ten = long' 0 (omega arith) in
      let more = placed_all (λ (i : ℕ). length (name_in image i) ≡ 10) k image (name_in image k) first ten long in
      onto_ascending (placed image (name_in image k) k first) ks
      (placed_ascending image image (name_in image k) k refl first up (λ p h. long p h ∙ sym ten) (λ p h. apart p 0 h (omega arith)) (λ j h. refl))
      more (λ p h. long' (suc p) (omega arith)) (λ p q h l. distinct (suc p) (suc q) (omega arith) (omega arith))
      (λ p q h l.
      placed_all (λ (i : ℕ). name_in image i ≡ name_in image (get_or ks q 0) → ⊥) k image (name_in image k) first (distinct 0 (suc q) (omega arith) (omega arith))
      (λ r s. apart r (suc q) s (omega arith)) p h)

  pub ordered_ascending : (ks : List ℕ) → ((p : ℕ) → p < length ks → length (name_in image (get_or ks p 0)) ≡ 10) → Distinct image ks → Ascending image (ordered image ks)
  unfolding ordered
  ordered_ascending ks long distinct = onto_ascending [] ks (λ p q h l. absurd (omega arith)) (λ p h. absurd (omega arith)) long distinct (λ p q h l. absurd (omega arith))

-- the order where the names stand
onto_agree : (image after first ks : List ℕ) → ((j : ℕ) → 1 ≤ count j first → name_in after j ≡ name_in image j) → ((j : ℕ) → 1 ≤ count j ks → name_in after j ≡ name_in image j)
    → ordered_onto after first ks ≡ ordered_onto image first ks
unfolding ordered_onto
onto_agree image after first [] here all = refl
onto_agree image after first (k ∷ ks) here all =
    let own = all k (omega (arith, count_here k ks)) in
    rw (own, placed_agree image after (name_in image k) k first here)
    (onto_agree image after (placed image (name_in image k) k first) ks
    (λ j some.
    elim (ℕ_discrete k j) [
      | yes e ↦ rw e at own
      | no other ↦ here j (omega (arith, some, placed-count k j image (name_in image k) first, count_other j k first other))
    ])
    (λ j some. all j (omega (arith, some, count_more j k ks))))

pub ordered_agree : (image after ks : List ℕ) → ((j : ℕ) → 1 ≤ count j ks → name_in after j ≡ name_in image j) → ordered after ks ≡ ordered image ks
unfolding ordered
ordered_agree image after ks = onto_agree image after [] ks (λ j some. absurd (omega (arith, some, count_none j)))

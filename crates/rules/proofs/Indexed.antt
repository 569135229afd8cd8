-- An index made anew: its numbers laid one behind the other; a number taken out and one put in its place by name, which count as they should and
-- keep the name order; and that what is laid is an index with those numbers.
use mathlib.Core.Path.{◌≡◌, refl, sym, ap, ◌∙◌}
use mathlib.Core.Logic.{◌⊎◌, inl, inr}
use mathlib.Core.Bool.{Bool, true, false, cond}
use mathlib.Core.List.{List, [], ◌∷◌}
use Prim.Native.Nat.{ℕ, zero, suc, ◌+◌, ◌*◌, ◌/◌, ◌%◌, ◌≤◌, ◌<◌}
use native.Mathlib.Omega.{arith}
use native.Mathlib.Decide.{dec_lt, ℕ_discrete}
use lib.Dec.{eqb}
use lib.ListN.{length, get_or, replicate, get_or-replicate, get_or-eq_default}
use borrow.Author.Tests.{eq-eqb, ne_eqb}
use Rattle.rules.specs.Bytes.{byte_at, word_bytes, over, splice}
use Rattle.rules.specs.Name.{precedes, Before}
use Rattle.rules.specs.Map.{count}
use Rattle.rules.specs.Index.{numbers, numbers_bytes, index_of, without, IsIndex}
use Rattle.rules.specs.Volume.{files_in, name_in, placed}
use Rattle.rules.specs.Sound.{SoundIndex}
use Rattle.rules.specs.declared.Layout.{Layout}
use Rattle.rules.proofs.Tests.{absurd_test}
use Rattle.rules.proofs.Splice.{splice-length, splice_none, splice_above, splice_append}
use Rattle.rules.proofs.Name.{precedes_is, is_precedes, not_precedes, before_trans, before_total}
use Rattle.rules.proofs.Map.{counted_all, count_none, count_here, count_other, count_more, count_at}

-- numbers laid into a buffer: where none are left it stands as it is to be, and one is followed by the rest
module _ (buffer : List ℕ) (at : ℕ) (left : List ℕ) where
  pub laid_none : left ≡ [] → splice buffer at (numbers_bytes left) ≡ buffer
  unfolding numbers_bytes
  laid_none e = rw e (splice_none buffer at)

  pub laid_number : (k : ℕ) (rest laid : List ℕ) → left ≡ k ∷ rest → laid ≡ splice buffer at (word_bytes k)
      → splice laid (at + 2) (numbers_bytes rest) ≡ splice buffer at (numbers_bytes left)
  unfolding numbers_bytes
  laid_number k rest laid e f = rw (e, f) (splice_append buffer at (word_bytes k) (numbers_bytes rest))

pub laid_index : (ks : List ℕ) → splice (replicate 256 0) 0 (numbers_bytes ks) ≡ index_of ks
unfolding index_of splice
laid_index ks = refl

-- a number taken out, a number at a time
module _ (k : ℕ) where
  pub without_none : without k [] ≡ []
  unfolding without
  without_none = refl

  pub without_here : (j : ℕ) (js : List ℕ) → j ≡ k → without k (j ∷ js) ≡ js
  unfolding without
  without_here j js e = rw (eq-eqb j k e)

  pub without_later : (j : ℕ) (js : List ℕ) → (j ≡ k → ⊥) → without k (j ∷ js) ≡ j ∷ without k js
  unfolding without
  without_later j js e = rw (ne_eqb j k e)

-- a number put in, a number at a time
module _ (image name : List ℕ) (k : ℕ) where
  pub placed_last : placed image name k [] ≡ k ∷ []
  unfolding placed
  placed_last = refl

  pub placed_here : (j : ℕ) (js : List ℕ) → precedes name (name_in image j) ≡ true → placed image name k (j ∷ js) ≡ k ∷ (j ∷ js)
  unfolding placed
  placed_here j js e = rw e

  pub placed_later : (j : ℕ) (js : List ℕ) → precedes name (name_in image j) ≡ false → placed image name k (j ∷ js) ≡ j ∷ placed image name k js
  unfolding placed
  placed_later j js e = rw e

-- how often each number stands there afterwards
module _ (k j : ℕ) where
  pub without-count : (ks : List ℕ) → 1 ≤ count k ks → count j ks ≡ count j (k ∷ without k ks)
  unfolding count
  without-count [] h = absurd (omega arith)
  without-count (i ∷ is) h =
      elim (ℕ_discrete i k) [
        | yes here ↦ rw (without_here k i is here, here)
        | no there ↦ rw (without_later k i is there) (omega (arith, without-count is (omega (arith, h, count_other k i is there))))
      ]

  pub placed-count : (image name ks : List ℕ) → count j (placed image name k ks) ≡ count j (k ∷ ks)
  unfolding placed count
  placed-count image name [] = refl
  placed-count image name (i ∷ is) = go (precedes name (name_in image i)) (placed-count image name is)
    where
      go : (t : Bool) → count j (placed image name k is) ≡ count j (k ∷ is) → count j (cond t (k ∷ (i ∷ is)) (i ∷ placed image name k is)) ≡ count j (k ∷ (i ∷ is))
      go true e = refl
      go false e = omega (arith, e)

-- how many there are afterwards
module _ (k : ℕ) where
  pub without-length : (ks : List ℕ) → 1 ≤ count k ks → length ks ≡ 1 + length (without k ks)
  without-length [] h = absurd (omega (arith, h, count_none k))
  without-length (i ∷ is) h =
      elim (ℕ_discrete i k) [
        | yes here ↦ rw (without_here k i is here) (omega arith)
        | no there ↦ rw (without_later k i is there) (omega (arith, without-length is (omega (arith, h, count_other k i is there))))
      ]

  pub placed-length : (image name ks : List ℕ) → length (placed image name k ks) ≡ 1 + length ks
  unfolding placed
  placed-length image name [] = refl
  placed-length image name (i ∷ is) = go (precedes name (name_in image i)) (placed-length image name is)
    where
      go : (t : Bool) → length (placed image name k is) ≡ 1 + length is → length (cond t (k ∷ (i ∷ is)) (i ∷ placed image name k is)) ≡ 1 + length (i ∷ is)
      go true e = omega arith
      go false e = omega (arith, e)

  -- what is not there is not taken out
  pub without_absent : (ks : List ℕ) → count k ks ≡ 0 → without k ks ≡ ks
  without_absent [] e = without_none k
  without_absent (i ∷ is) e =
      elim (ℕ_discrete i k) [
        | yes here ↦ absurd (omega (arith, rw here at e, count_here k is))
        | no there ↦ without_later k i is there ∙ ap (λ (l : List ℕ). i ∷ l) (without_absent is (sym (count_other k i is there) ∙ e))
      ]

-- lists in which each number stands equally often are equally long
pub counts_length : (ks js : List ℕ) → ((j : ℕ) → count j ks ≡ count j js) → length ks ≡ length js
unfolding count
counts_length [] [] same = refl
counts_length [] (j ∷ js) same = absurd (omega (arith, same j, count_here j js))
counts_length (k ∷ ks) js same =
    let there : 1 ≤ count k js = omega (arith, same k, count_here k ks) in
    let less = counts_length ks (without k js) (λ j. omega (arith, same j, without-count k j js there)) in
    omega (arith, less, without-length k js there)

-- what holds of all the numbers holds of those that are left; and of those with k among them, if it holds of k
module _ (P : ℕ → Type 0) (k : ℕ) where
  pub without_all : (ks : List ℕ) → ((p : ℕ) → p < length ks → P (get_or ks p 0)) → (p : ℕ) → p < length (without k ks) → P (get_or (without k ks) p 0)
  unfolding without
  without_all [] all = all
  without_all (i ∷ is) all = go (eqb i k) (without_all is (λ p h. all (suc p) (omega arith)))
    where
      go : (t : Bool) → ((p : ℕ) → p < length (without k is) → P (get_or (without k is) p 0))
          → (p : ℕ) → p < length (cond t is (i ∷ without k is)) → P (get_or (cond t is (i ∷ without k is)) p 0)
      go true more p h = all (suc p) (omega arith)
      go false more zero h = all 0 (omega arith)
      go false more (suc p) h = more p (omega arith)

  pub placed_all : (image name ks : List ℕ) → P k → ((p : ℕ) → p < length ks → P (get_or ks p 0)) → (p : ℕ) → p < length (placed image name k ks) → P (get_or (placed image name k ks) p 0)
  unfolding placed
  placed_all image name [] is all zero h = is
  placed_all image name [] is all (suc p) h = absurd (omega arith)
  placed_all image name (j ∷ js) is all p h = go (precedes name (name_in image j)) (placed_all image name js is (λ q l. all (suc q) (omega arith))) p h
    where
      go : (t : Bool) → ((q : ℕ) → q < length (placed image name k js) → P (get_or (placed image name k js) q 0))
          → (q : ℕ) → q < length (cond t (k ∷ (j ∷ js)) (j ∷ placed image name k js)) → P (get_or (cond t (k ∷ (j ∷ js)) (j ∷ placed image name k js)) q 0)
      go true more zero l = is
      go true more (suc q) l = all q (omega arith)
      go false more zero l = all 0 (omega arith)
      go false more (suc q) l = more q (omega arith)

-- the name order of the numbers, as a sound volume has it of its files
abbrev pub Ascending : List ℕ → List ℕ → Type 0
Ascending image ks = (p q : ℕ) → p < q → q < length ks → Before (name_in image (get_or ks p 0)) (name_in image (get_or ks q 0))

ascending_first : (image : List ℕ) (k : ℕ) (ks : List ℕ) → ((q : ℕ) → q < length ks → Before (name_in image k) (name_in image (get_or ks q 0))) → Ascending image ks → Ascending image (k ∷ ks)
ascending_first image k ks first up p zero h l = absurd (omega arith)
ascending_first image k ks first up zero (suc q) h l = first q (omega arith)
ascending_first image k ks first up (suc p) (suc q) h l = up p q (omega arith) (omega arith)

pub without_ascending : (image : List ℕ) (k : ℕ) (ks : List ℕ) → Ascending image ks → Ascending image (without k ks)
unfolding without
without_ascending image k [] up = up
without_ascending image k (j ∷ js) up = go (eqb j k) (without_ascending image k js later)
  where
    later : Ascending image js
    later p q h l = up (suc p) (suc q) (omega arith) (omega arith)

    go : (t : Bool) → Ascending image (without k js) → Ascending image (cond t js (j ∷ without k js))
    go true rest = later
    go false rest =
        ascending_first image j (without k js) (without_all (λ (i : ℕ). Before (name_in image j) (name_in image i)) k js (λ q l. up 0 (suc q) (omega arith) (omega arith))) rest

-- The names are those of an image afterwards, in which k has the new name and the others have kept theirs.
module _ (image image' name : List ℕ) (k : ℕ) (named : name_in image' k ≡ name) where
  pub placed_ascending : (ks : List ℕ) → Ascending image ks → ((p : ℕ) → p < length ks → length (name_in image (get_or ks p 0)) ≡ length name)
      → ((p : ℕ) → p < length ks → name_in image (get_or ks p 0) ≡ name → ⊥) → ((j : ℕ) → 1 ≤ count j ks → name_in image' j ≡ name_in image j)
      → Ascending image' (placed image name k ks)
  unfolding placed
  placed_ascending [] up long other kept = λ p q h l. absurd (omega arith)
  placed_ascending (j ∷ js) up long other kept =
      go (precedes name (name_in image j)) refl
      (placed_ascending js (λ p q h l. up (suc p) (suc q) (omega arith) (omega arith)) (λ p l. long (suc p) (omega arith)) (λ p l. other (suc p) (omega arith)) (λ i h. kept i (omega (arith, h, count_more i j js))))
    where
      same : (p : ℕ) → p < length (j ∷ js) → name_in image' (get_or (j ∷ js) p 0) ≡ name_in image (get_or (j ∷ js) p 0)
      same p h = kept (get_or (j ∷ js) p 0) (count_at (j ∷ js) p h)

      after : Ascending image' (j ∷ js)
      after p q h l = rw (same p (omega arith), same q l) (up p q h l)

      before_first : precedes name (name_in image j) ≡ true → Before (name_in image' k) (name_in image' j)
      before_first e = rw (named, same 0 (omega arith)) (precedes_is name (name_in image j) (sym (long 0 (omega arith))) e)

      before_all : precedes name (name_in image j) ≡ true → (q : ℕ) → q < length (j ∷ js) → Before (name_in image' k) (name_in image' (get_or (j ∷ js) q 0))
      before_all e zero l = before_first e
      before_all e (suc q) l = before_trans (name_in image' k) (name_in image' j) (name_in image' (get_or js q 0)) (before_first e) (after 0 (suc q) (omega arith) l)

      behind : precedes name (name_in image j) ≡ false → (name ≡ name_in image j) ⊎ (Before name (name_in image j) ⊎ Before (name_in image j) name) → Before (name_in image j) name
      behind e (inl is) = absurd (other 0 (omega arith) (sym is))
      behind e (inr (inl is)) = absurd_test (sym (is_precedes name (name_in image j) is) ∙ e)
      behind e (inr (inr is)) = is

      behind_first : precedes name (name_in image j) ≡ false → Before (name_in image' j) (name_in image' k)
      behind_first e = rw (named, same 0 (omega arith)) (behind e (before_total name (name_in image j) (sym (long 0 (omega arith)))))

      go : (t : Bool) → precedes name (name_in image j) ≡ t → Ascending image' (placed image name k js) → Ascending image' (cond t (k ∷ (j ∷ js)) (j ∷ placed image name k js))
      go true e rest = ascending_first image' k (j ∷ js) (before_all e) after
      go false e rest =
          ascending_first image' j (placed image name k js)
          (placed_all (λ (i : ℕ). Before (name_in image' j) (name_in image' i)) k image name js (behind_first e) (λ q l. after 0 (suc q) (omega arith) (omega arith)))
          rest

-- a number taken out and put in again under the same name stands where it stood
module _ (image : List ℕ) (k : ℕ) where
  put_first : (ks : List ℕ) → ((p : ℕ) → p < length ks → Before (name_in image k) (name_in image (get_or ks p 0))) → placed image (name_in image k) k ks ≡ k ∷ ks
  put_first [] before = placed_last image (name_in image k) k
  put_first (j ∷ js) before = placed_here image (name_in image k) k j js (is_precedes (name_in image k) (name_in image j) (before 0 (omega arith)))

  pub placed_back : (ks : List ℕ) → Ascending image ks → 1 ≤ count k ks → placed image (name_in image k) k (without k ks) ≡ ks
  placed_back [] up some = absurd (omega (arith, some, count_none k))
  placed_back (j ∷ js) up some =
      elim (ℕ_discrete j k) [
        | yes here ↦ rw (without_here k j js here, here) (put_first js (λ p h. rw here at (up 0 (suc p) (omega arith) (omega arith))))
        | no there ↦
            let more : 1 ≤ count k js = omega (arith, some, count_other k j js there) in
            rw (without_later k j js there, placed_later image (name_in image k) k j (without k js) (behind more))
            (ap (λ (l : List ℕ). j ∷ l) (placed_back js (λ p q h l. up (suc p) (suc q) (omega arith) (omega arith)) more))
      ]
    where
      behind : 1 ≤ count k js → precedes (name_in image k) (name_in image j) ≡ false
      behind more = not_precedes (name_in image j) (name_in image k) (counted_all (λ (i : ℕ). Before (name_in image j) (name_in image i)) js (λ p h. up 0 (suc p) (omega arith) (omega arith)) k more)

-- an index with those numbers: its length, its numbers and its rule
pub numbers_bytes-length : (ks : List ℕ) → length (numbers_bytes ks) ≡ 2 * length ks
unfolding numbers_bytes
numbers_bytes-length [] = refl
numbers_bytes-length (k ∷ ks) = omega (arith, numbers_bytes-length ks)

pub index_length : (ks : List ℕ) → length (index_of ks) ≡ 256
index_length ks = ap length (sym (laid_index ks)) ∙ splice-length (replicate 256 0) 0 (numbers_bytes ks)

numbers-over : (m : ℕ) (ks : List ℕ) → ((p : ℕ) → p < length ks → 1 ≤ get_or ks p 0) → 2 * length ks ≤ m → numbers (over (replicate m 0) (numbers_bytes ks)) ≡ ks
unfolding numbers over numbers_bytes
numbers-over zero [] some few = refl
numbers-over (suc zero) [] some few = refl
numbers-over (suc (suc m)) [] some few = refl
numbers-over zero (k ∷ ks) some few = absurd (omega arith)
numbers-over (suc zero) (k ∷ ks) some few = absurd (omega arith)
numbers-over (suc (suc m)) (k ∷ ks) some few =
    let whole : 256 * (k / 256) + k % 256 ≡ k = omega arith in
    let first = some 0 (omega arith) in
    rw (whole, ne_eqb k 0 (λ z. omega (arith, z, first))) (ap (λ (l : List ℕ). k ∷ l) (numbers-over m ks (λ p h. some (suc p) (omega arith)) (omega arith)))

pub numbers_index : (ks : List ℕ) → ((p : ℕ) → p < length ks → 1 ≤ get_or ks p 0) → length ks ≤ 128 → numbers (index_of ks) ≡ ks
unfolding index_of
numbers_index ks some few = numbers-over 256 ks some (omega arith)

index_past : (ks : List ℕ) (i : ℕ) → 2 * length ks ≤ i → byte_at (index_of ks) i ≡ 0
index_past ks i h =
    ap (λ (l : List ℕ). byte_at l i) (sym (laid_index ks))
    ∙ splice_above (replicate 256 0) 0 (numbers_bytes ks) i (omega (arith, numbers_bytes-length ks))
    ∙ elim (dec_lt i 256) [
      | yes l ↦ get_or-replicate 256 i 0 0 l
      | no l ↦ get_or-eq_default (replicate 256 0) 0 {n = i} (omega arith)
    ]

pub index_is_index : (n : ℕ) (ks : List ℕ) → ((p : ℕ) → p < length ks → (2 ≤ get_or ks p 0) × (get_or ks p 0 < n)) → length ks ≤ 127 → IsIndex n (index_of ks)
index_is_index n ks range few =
    let e = numbers_index ks (λ p h. omega (arith, (range p h).0)) (omega arith) in
    record { range = rw e range; few = rw e few; rest = rw e (index_past ks) }

-- an index without a number, read back
without_short : (k : ℕ) (ks : List ℕ) → length (without k ks) ≤ length ks
without_short k ks =
    elim (dec_lt 0 (count k ks)) [
      | yes there ↦ omega (arith, without-length k ks there)
      | no there ↦ rw (without_absent k ks (omega arith)) (omega arith)
    ]

pub left_numbers : (layout : Layout) (image : List ℕ) (i k : ℕ) → SoundIndex layout image i → numbers (index_of (without k (files_in image i))) ≡ without k (files_in image i)
unfolding files_in
left_numbers layout image i k is =
    numbers_index (without k (files_in image i))
    (without_all (λ (j : ℕ). 1 ≤ j) k (files_in image i) (λ p h. omega (arith, (is.index.range p h).0)))
    (omega (arith, without_short k (files_in image i), is.index.few))

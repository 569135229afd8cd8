-- The files that a sound volume lists, by their numbers: where their descriptors and places are, that no sector is held twice, and what is left of the holders
-- where one file is taken out.
use mathlib.Core.Path.{◌≡◌, refl, sym, ap}
use mathlib.Core.List.{List, [], ◌∷◌, ◌++◌}
use Prim.Native.Nat.{ℕ, suc, ◌+◌, ◌*◌, ◌≤◌, ◌<◌}
use native.Mathlib.Omega.{arith}
use native.Mathlib.Decide.{dec_lt, ℕ_discrete}
use lib.ListN.{length, get_or}
use Rattle.rules.specs.Sectors.{sector_of, sector_count}
use Rattle.rules.specs.Name.{Before}
use Rattle.rules.specs.Map.{map_bit, count, taken}
use Rattle.rules.specs.Descriptor.{IsDescriptor}
use Rattle.rules.specs.Index.{without}
use Rattle.rules.specs.Volume.{files_in, name_in, places_in, file_holders, holders}
use Rattle.rules.specs.Sound.{IsIndexed, Sound}
use Rattle.rules.specs.declared.Layout.{Layout}
use Rattle.rules.proofs.Sectors.{sector_length}
use Rattle.rules.proofs.Name.{before_trans, before_irrefl}
use Rattle.rules.proofs.Map.{bits_taken, counted_all, count_none, count_here, count_other, count_more, count_at, count_append}
use Rattle.rules.proofs.Volume.{file_holders_inside}
use Rattle.rules.proofs.Staying.{holders_without, file_holds}
use Rattle.rules.proofs.Opening.{IsOpened}
use Rattle.rules.proofs.Indexed.{Ascending}
use Rattle.rules.proofs.Indexes.{index_inside, others, holders_seen}

-- names ascend, so two files of one name are one
pub one_of_name : (image ks : List ℕ) → Ascending image ks → (j k : ℕ) → 1 ≤ count j ks → 1 ≤ count k ks → name_in image j ≡ name_in image k → j ≡ k
one_of_name image ks up j k some more =
    counted_all (λ (i : ℕ). name_in image i ≡ name_in image k → i ≡ k) ks
    (λ p h. counted_all (λ (i : ℕ). name_in image (get_or ks p 0) ≡ name_in image i → get_or ks p 0 ≡ i) ks (λ q l e. at p q h l e) k more) j some
  where
    at : (p q : ℕ) → p < length ks → q < length ks → name_in image (get_or ks p 0) ≡ name_in image (get_or ks q 0) → get_or ks p 0 ≡ get_or ks q 0
    at p q h l e =
        elim (dec_lt p q) [
          | yes low ↦ absurd (before_irrefl (name_in image (get_or ks q 0)) (rw e at (up p q low l)))
          | no low ↦
              elim (dec_lt q p) [
                | yes high ↦ absurd (before_irrefl (name_in image (get_or ks q 0)) (rw e at (up q p high h)))
                | no high ↦ let z : p ≡ q = omega arith in ap (λ (i : ℕ). get_or ks i 0) z
              ]
        ]

-- and two lists of the same numbers in name order are one
pub one_order : (image ks js : List ℕ) → Ascending image ks → Ascending image js → ((i : ℕ) → count i ks ≡ count i js) → ks ≡ js
one_order image [] [] up up' same = refl
one_order image [] (j ∷ js) up up' same = absurd (omega (arith, same j, count_none j, count_here j js))
one_order image (k ∷ ks) [] up up' same = absurd (omega (arith, same k, count_none k, count_here k ks))
one_order image (k ∷ ks) (j ∷ js) up up' same =
    elim (ℕ_discrete k j) [
      | yes here ↦ rw here (ap (λ (l : List ℕ). j ∷ l) (one_order image ks js (later k ks up) (later j js up') (λ i. omega (arith, rw here at (same i), count_append i (j ∷ []) ks, count_append i (j ∷ []) js))))
      | no there ↦
          absurd
          (before_irrefl (name_in image j)
          (before_trans (name_in image j) (name_in image k) (name_in image j)
          (first j js up' k (omega (arith, same k, count_here k ks, count_other k j js (λ e. there (sym e)))))
          (first k ks up j (omega (arith, same j, count_here j js, count_other j k ks there)))))
    ]
  where
    later : (i : ℕ) (is : List ℕ) → Ascending image (i ∷ is) → Ascending image is
    later i is up p q h l = up (suc p) (suc q) (omega arith) (omega arith)

    first : (i : ℕ) (is : List ℕ) → Ascending image (i ∷ is) → (m : ℕ) → 1 ≤ count m is → Before (name_in image i) (name_in image m)
    first i is up = counted_all (λ (m : ℕ). Before (name_in image i) (name_in image m)) is (λ q l. up 0 (suc q) (omega arith) (omega arith))

-- the holders are two system sectors and what the files hold
pub system_and : (i j : ℕ) (hs : List ℕ) → count j (0 ∷ (i ∷ hs)) ≡ count j (0 ∷ (i ∷ [])) + count j hs
system_and i j hs = count_append j (0 ∷ (i ∷ [])) hs

system_zero : (i j : ℕ) → j ≡ 0 → 1 ≤ count j (0 ∷ (i ∷ []))
system_zero i j e = rw e (omega (arith, count_here 0 (i ∷ [])))

system_index : (i j : ℕ) → j ≡ i → 1 ≤ count j (0 ∷ (i ∷ []))
system_index i j e = rw e (omega (arith, count_more i 0 (i ∷ []), count_here i []))

module _ (layout : Layout) (image : List ℕ) (is : Sound layout image) where
  pub label_long : length (sector_of image 0) ≡ 256
  label_long = sector_length image 0 (omega (arith, is.whole, is.size))

  pub sector_inside : (j : ℕ) → j < sector_count image → 256 * j + 256 ≤ length image
  sector_inside j h = omega (arith, is.whole)

  -- every bit of the map
  pub map_is : (k : ℕ) → k < 1600 → map_bit (sector_of image 0) k ≡ taken (sector_count image) (holders layout image) k
  map_is = bits_taken (sector_count image) (holders layout image) (sector_of image 0) is.marked is.filled

  -- an index is a sector of the volume
  pub index_low : (i : ℕ) → IsIndexed layout image i → (1 ≤ i) × (i < sector_count image)
  index_low = index_inside layout image (omega (arith, is.size)) is.entered

  -- as seen from one of the indexes
  module _ (i : ℕ) (indexed : IsIndexed layout image i) where
    holders_single : (j : ℕ) → count j (0 ∷ (i ∷ [])) + (count j (file_holders image (files_in image i)) + count j (others layout image i)) ≤ 1
    holders_single j =
        omega (
          arith,
          is.single j,
          holders_seen layout image i indexed j,
          system_and i j (file_holders image (files_in image i) ++ others layout image i),
          count_append j (file_holders image (files_in image i)) (others layout image i),
        )

    pub file_once : (j : ℕ) → count j (file_holders image (files_in image i)) ≤ 1
    file_once j = omega (arith, holders_single j)

    -- a file's descriptor
    pub listed_range : (k : ℕ) → 1 ≤ count k (files_in image i) → (2 ≤ k) × (k < sector_count image)
    unfolding files_in
    listed_range = counted_all (λ (k : ℕ). (2 ≤ k) × (k < sector_count image)) (files_in image i) (is.each i indexed).index.range

    pub listed_descriptor : (k : ℕ) → 1 ≤ count k (files_in image i) → IsDescriptor layout (sector_count image) (sector_of image k)
    listed_descriptor = counted_all (λ (k : ℕ). IsDescriptor layout (sector_count image) (sector_of image k)) (files_in image i) (is.each i indexed).descriptors

    pub listed_name : (j k : ℕ) → 1 ≤ count j (files_in image i) → 1 ≤ count k (files_in image i) → name_in image j ≡ name_in image k → j ≡ k
    listed_name = one_of_name image (files_in image i) (is.each i indexed).ascending

    -- a sector that a file holds is neither sector 0 nor the index, nor held by the others
    pub held_inside : (j : ℕ) → 1 ≤ count j (file_holders image (files_in image i)) → (2 ≤ j) × (j < sector_count image)
    unfolding files_in
    held_inside j h = file_holders_inside layout (sector_count image) image (files_in image i) j (is.each i indexed).index.range (is.each i indexed).descriptors h

    pub held_apart : (j : ℕ) → 1 ≤ count j (file_holders image (files_in image i)) → (j ≡ i → ⊥) × (count j (others layout image i) ≡ 0)
    held_apart j h = (λ e. omega (arith, h, holders_single j, system_index i j e), omega (arith, h, holders_single j))

    -- and so is nothing that is held besides
    pub besides_apart : (j : ℕ) → 1 ≤ count j (file_holders image (files_in image i) ++ others layout image i) → (j ≡ 0 → ⊥) × (j ≡ i → ⊥)
    besides_apart j h =
        let split = count_append j (file_holders image (files_in image i)) (others layout image i) in
        (λ e. omega (arith, h, split, holders_single j, system_zero i j e), λ e. omega (arith, h, split, holders_single j, system_index i j e))

    -- one file taken out
    module _ (k : ℕ) (there : 1 ≤ count k (files_in image i)) where
      pub holders_split : (j : ℕ) → count j (file_holders image (files_in image i)) ≡ count j (k ∷ places_in image k) + count j (file_holders image (without k (files_in image i)))
      holders_split j = holders_without image k j (files_in image i) there

      -- what is held besides is neither sector 0 nor the index, and the file does not hold it
      pub rest_apart : (j : ℕ) → 1 ≤ count j (file_holders image (without k (files_in image i)) ++ others layout image i) → (j ≡ 0 → ⊥) × (j ≡ i → ⊥) × (count j (k ∷ places_in image k) ≡ 0)
      rest_apart j some =
          let split = count_append j (file_holders image (without k (files_in image i))) (others layout image i) in (
            λ e. omega (arith, some, split, holders_split j, holders_single j, system_zero i j e),
            λ e. omega (arith, some, split, holders_split j, holders_single j, system_index i j e),
            omega (arith, some, split, holders_split j, holders_single j),
          )

      -- it stands in the index once
      pub not_listed : (j : ℕ) → 1 ≤ count j (without k (files_in image i)) → j ≡ k → ⊥
      not_listed j left e =
          let twice = file_holds image k k (without k (files_in image i)) (rw e at left) in
          omega (arith, twice, holders_split k, holders_single k, count_here k (places_in image k))

-- a file that was found is listed
pub opened_listed : (layout : Layout) (image name : List ℕ) (i p k : ℕ) → IsOpened layout image name i p k → 1 ≤ count k (files_in image i)
opened_listed layout image name i p k o = rw o.is at (count_at (files_in image i) p o.inside)

-- What stays where sectors stay: the holders, the files and the catalogue of an image whose descriptors and data stand as they stood; and how the holders
-- count where a file is taken out or put in.
use mathlib.Core.Path.{◌≡◌, refl, sym, ap, ◌∙◌}
use mathlib.Core.Bool.{Bool, true, false, cond}
use mathlib.Core.List.{List, [], ◌∷◌, ◌++◌, map}
use Prim.Native.Nat.{ℕ, zero, suc, ◌+◌, ◌≤◌, ◌<◌}
use native.Mathlib.Omega.{arith}
use native.Mathlib.Decide.{ℕ_discrete}
use lib.ListN.{length, get_or, set}
use lib.Dec.{eqb}
use borrow.Author.Tests.{eqb-true, eqb-false}
use Rattle.rules.specs.Sectors.{sector_of, sector_count}
use Rattle.rules.specs.Name.{precedes}
use Rattle.rules.specs.Map.{map_bit, count}
use Rattle.rules.specs.Chain.{places}
use Rattle.rules.specs.Descriptor.{name_of, chain_of}
use Rattle.rules.specs.Index.{numbers, without}
use Rattle.rules.specs.Directory.{entries, entry_index}
use Rattle.rules.specs.Volume.{directories, index_at, present, indexes, files_in, files_of, name_in, places_in, file_holders, holders, header_in, contents_in, file_in, catalogue, placed}
use Rattle.rules.specs.Sound.{SoundIndex, Sound}
use Rattle.rules.specs.declared.Layout.{Layout}
use Rattle.rules.proofs.Map.{count_none, count_here, count_other, count_more, count_at, count_append}
use Rattle.rules.proofs.Indexes.{files_of_has, other_indexes, others}

-- the places of a descriptor that stands as it stood
pub places_kept : (image after : List ℕ) (k : ℕ) → sector_of after k ≡ sector_of image k → places_in after k ≡ places_in image k
unfolding places_in
places_kept image after k e = ap (λ (s : List ℕ). places (chain_of s)) e

-- the holders of files that all have the same places, as those have whose descriptors stand
pub holders_agree : (image after ks : List ℕ) → ((k : ℕ) → 1 ≤ count k ks → places_in after k ≡ places_in image k) → file_holders after ks ≡ file_holders image ks
unfolding file_holders
holders_agree image after [] same = refl
holders_agree image after (k ∷ ks) same =
    rw (same k (omega (arith, count_here k ks)), holders_agree image after ks (λ j h. same j (omega (arith, count_more j k ks))))

pub holders_kept : (image after ks : List ℕ) → ((k : ℕ) → 1 ≤ count k ks → sector_of after k ≡ sector_of image k) → file_holders after ks ≡ file_holders image ks
holders_kept image after ks kept = holders_agree image after ks (λ k h. places_kept image after k (kept k h))

-- a list read through two functions that agree on it
pub map_agree : {B : Type 0} (f g : ℕ → B) (ks : List ℕ) → ((k : ℕ) → 1 ≤ count k ks → f k ≡ g k) → map f ks ≡ map g ks
map_agree f g [] same = refl
map_agree f g (k ∷ ks) same = rw (same k (omega (arith, count_here k ks)), map_agree f g ks (λ j h. same j (omega (arith, count_more j k ks))))

-- two that read it alike do agree on it
pub map_each : {B : Type 0} (f g : ℕ → B) (ks : List ℕ) → map f ks ≡ map g ks → (j : ℕ) → 1 ≤ count j ks → f j ≡ g j
map_each f g [] same j there = absurd (omega (arith, there, count_none j))
map_each f g (k ∷ ks) same j there =
    elim (ℕ_discrete k j) [
      | yes here ↦ rw (← here) (cc same)
      | no other ↦ map_each f g ks (cc same) j (omega (arith, there, count_other j k ks other))
    ]

-- a list read through two that agree on it but at one place, whose number stands there once
pub map_changed : {B : Type 0} (old new : ℕ → B) (ks : List ℕ) (p : ℕ) → p < length ks → count (get_or ks p 0) ks ≤ 1
    → ((k : ℕ) → 1 ≤ count k ks → (k ≡ get_or ks p 0 → ⊥) → new k ≡ old k) → map new ks ≡ set (map old ks) p (new (get_or ks p 0))
map_changed old new [] p h once others = absurd (omega arith)
map_changed old new (k ∷ ks) zero h once others =
    ap (λ l. new k ∷ l)
    (map_agree new old ks (λ j some. others j (omega (arith, some, count_more j k ks)) (λ e. omega (arith, once, count_here k ks, rw e at some))))
map_changed old new (k ∷ ks) (suc p) h once others =
    let there = count_at ks p (omega arith) in
    rw (others k (omega (arith, count_here k ks)) (λ e. omega (arith, once, there, ap (λ (j : ℕ). count (get_or ks p 0) (j ∷ ks)) e, count_here (get_or ks p 0) ks)))
    (ap (λ l. old k ∷ l)
    (map_changed old new ks p (omega arith) (omega (arith, once, count_more (get_or ks p 0) k ks)) (λ j some other. others j (omega (arith, some, count_more j k ks)) other)))

-- a file whose descriptor and places stand as they stood
pub file_kept : (image after : List ℕ) (k : ℕ) → sector_of after k ≡ sector_of image k → ((p : ℕ) → 1 ≤ count p (places_in image k) → sector_of after p ≡ sector_of image p) → file_in after k ≡ file_in image k
unfolding file_in header_in contents_in
file_kept image after k e data-kept = rw (e, places_kept image after k e, map_agree (sector_of after) (sector_of image) (places_in image k) data-kept)

pub files_kept : (image after ks : List ℕ) → ((k : ℕ) → 1 ≤ count k ks → file_in after k ≡ file_in image k) → map (file_in after) ks ≡ map (file_in image) ks
files_kept image after ks kept = map_agree (file_in after) (file_in image) ks kept

-- a number put in among files whose names stand, and so among those of an image in which the index and all its descriptors stand
pub placed_agree : (image after name : List ℕ) (k : ℕ) (ks : List ℕ) → ((j : ℕ) → 1 ≤ count j ks → name_in after j ≡ name_in image j) → placed after name k ks ≡ placed image name k ks
unfolding placed
placed_agree image after name k [] same = refl
placed_agree image after name k (j ∷ js) same =
    rw (same j (omega (arith, count_here j js)), placed_agree image after name k js (λ i h. same i (omega (arith, h, count_more i j js))))

pub placed_kept : (image after name : List ℕ) (i k : ℕ) → sector_of after i ≡ sector_of image i → ((j : ℕ) → 1 ≤ count j (files_in image i) → sector_of after j ≡ sector_of image j)
    → placed after name k (files_in after i) ≡ placed image name k (files_in image i)
unfolding files_in name_in
placed_kept image after name i k index kept =
    rw index (placed_agree image after name k (files_in image i) (λ j h. ap name_of (kept j h)))

-- the holders where a file is put in, and where one is taken out
pub holders_placed : (image names name : List ℕ) (k j : ℕ) (ks : List ℕ) → count j (file_holders image (placed names name k ks)) ≡ count j (k ∷ places_in image k) + count j (file_holders image ks)
unfolding file_holders placed
holders_placed image names name k j [] = count_append j (k ∷ places_in image k) []
holders_placed image names name k j (i ∷ is) = go (precedes name (name_in names i)) (holders_placed image names name k j is)
  where
    go : (t : Bool) → count j (file_holders image (placed names name k is)) ≡ count j (k ∷ places_in image k) + count j (file_holders image is)
        → count j (file_holders image (cond t (k ∷ (i ∷ is)) (i ∷ placed names name k is))) ≡ count j (k ∷ places_in image k) + count j (i ∷ (places_in image i ++ file_holders image is))
    go true more = count_append j (k ∷ places_in image k) (i ∷ (places_in image i ++ file_holders image is))
    go false more =
        let first = count_append j (i ∷ places_in image i) (file_holders image (placed names name k is)) in
        let second = count_append j (i ∷ places_in image i) (file_holders image is) in
        omega (arith, first, second, more)

pub holders_without : (image : List ℕ) (k j : ℕ) (ks : List ℕ) → 1 ≤ count k ks → count j (file_holders image ks) ≡ count j (k ∷ places_in image k) + count j (file_holders image (without k ks))
unfolding file_holders without
holders_without image k j [] there = absurd (omega (arith, count_none k))
holders_without image k j (i ∷ is) there = go (eqb i k) refl (holders_without image k j is)
  where
    go : (t : Bool) → eqb i k ≡ t → (1 ≤ count k is → count j (file_holders image is) ≡ count j (k ∷ places_in image k) + count j (file_holders image (without k is)))
        → count j (i ∷ (places_in image i ++ file_holders image is)) ≡ count j (k ∷ places_in image k) + count j (file_holders image (cond t is (i ∷ without k is)))
    go true e more = rw (eqb-true i k e) (count_append j (k ∷ places_in image k) (file_holders image is))
    go false e more =
        let rest = more (omega (arith, there, count_other k i is (eqb-false i k e))) in
        let first = count_append j (i ∷ places_in image i) (file_holders image is) in
        let second = count_append j (i ∷ places_in image i) (file_holders image (without k is)) in
        omega (arith, first, second, rest)

-- a file's descriptor and places are among the holders
pub file_holds : (image : List ℕ) (k j : ℕ) (ks : List ℕ) → 1 ≤ count k ks → count j (k ∷ places_in image k) ≤ count j (file_holders image ks)
file_holds image k j ks there = omega (arith, holders_without image k j ks there)

-- where an index and all that its files hold stand as they stood, so does its catalogue
pub catalogue_kept : (image after : List ℕ) (i : ℕ) → sector_of after i ≡ sector_of image i → ((k : ℕ) → 1 ≤ count k (file_holders image (files_in image i)) → sector_of after k ≡ sector_of image k)
    → catalogue after i ≡ catalogue image i
unfolding catalogue files_in
catalogue_kept image after i index kept =
    rw index
    (files_kept image after (files_in image i)
    (λ k there.
    file_kept image after k (kept k (omega (arith, file_holds image k k (files_in image i) there, count_here k (places_in image k))))
    (λ p placed. kept p (omega (arith, placed, file_holds image k p (files_in image i) there, count_more p k (places_in image k))))))

-- a sector that the map has free is nobody's
pub free_unheld : (layout : Layout) (image : List ℕ) (k : ℕ) → Sound layout image → k < sector_count image → map_bit (sector_of image 0) k ≡ 0 → count k (holders layout image) ≡ 0
free_unheld layout image k is inside free = sym (is.marked k inside) ∙ free

-- the directories stand where their entries stand
module _ (layout : Layout) (image after : List ℕ) (same : entries layout (sector_of after 0) ≡ entries layout (sector_of image 0)) where
  directories_kept : directories layout after ≡ directories layout image
  unfolding directories
  directories_kept = ap (λ (es : List (List ℕ)). 1 ∷ map entry_index es) same

  pub index_at_kept : (directory : ℕ) → index_at layout after directory ≡ index_at layout image directory
  unfolding index_at
  index_at_kept directory = ap (λ (l : List ℕ). get_or l directory 0) directories_kept

  pub indexes_kept : indexes layout after ≡ indexes layout image
  unfolding indexes
  indexes_kept = ap present directories_kept

-- several indexes that stand list the files that they listed
pub files_of_kept : (image after is : List ℕ) → ((i : ℕ) → 1 ≤ count i is → sector_of after i ≡ sector_of image i) → files_of after is ≡ files_of image is
unfolding files_of files_in
files_of_kept image after [] stands = refl
files_of_kept image after (i ∷ is) stands = rw (stands i (omega (arith, count_here i is)), files_of_kept image after is (λ j h. stands j (omega (arith, h, count_more j i is))))

-- where all that is held besides one index and its files stands as it stood, so do the other indexes with their files
module _ (layout : Layout) (image after : List ℕ) (i : ℕ) (stands : (j : ℕ) → 1 ≤ count j (others layout image i) → sector_of after j ≡ sector_of image j) where
  abbrev away : List ℕ
  away = other_indexes layout image i

  pub other_index : (j : ℕ) → 1 ≤ count j away → sector_of after j ≡ sector_of image j
  unfolding others
  other_index j among = stands j (omega (arith, among, count_append j away (file_holders image (files_of image away))))

  pub other_held : (j : ℕ) → 1 ≤ count j (file_holders image (files_of image away)) → sector_of after j ≡ sector_of image j
  unfolding others
  other_held j held = stands j (omega (arith, held, count_append j away (file_holders image (files_of image away))))

  other_file : (k : ℕ) → 1 ≤ count k (files_of image away) → sector_of after k ≡ sector_of image k
  other_file k listed = other_held k (omega (arith, file_holds image k k (files_of image away) listed, count_here k (places_in image k)))

  pub others_kept : indexes layout after ≡ indexes layout image → others layout after i ≡ others layout image i
  unfolding others
  others_kept same = rw (same, files_of_kept image after away other_index, holders_kept image after (files_of image away) other_file)

  -- the files and the catalogue of each
  module _ (j : ℕ) (among : 1 ≤ count j away) where
    pub other_files : files_in after j ≡ files_in image j
    unfolding files_in
    other_files = ap numbers (other_index j among)

    pub other_listed : (k : ℕ) → 1 ≤ count k (files_in image j) → sector_of after k ≡ sector_of image k
    other_listed k there = other_file k (omega (arith, there, files_of_has image j away among k))

    pub other_sound : sector_count after ≡ sector_count image → SoundIndex layout image j → SoundIndex layout after j
    unfolding name_in
    other_sound n is =
        record {
          index = rw (n, other_index j among) is.index;
          descriptors = rw (other_files, n) (λ p h. rw (other_listed (get_or (files_in image j) p 0) (count_at (files_in image j) p h)) (is.descriptors p h));
          ascending =
              rw other_files
              (λ p q l h.
              rw (other_listed (get_or (files_in image j) p 0) (count_at (files_in image j) p (omega arith)), other_listed (get_or (files_in image j) q 0) (count_at (files_in image j) q h))
              (is.ascending p q l h));
        }

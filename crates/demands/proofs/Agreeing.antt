-- An image that agrees with a sound volume: in the label, in the numbers of every index, and in all sectors that a file holds. It can be mended, and what repair makes of it has that volume's catalogues.
use mathlib.Core.Path.{◌≡◌, refl, sym, ap, ◌∙◌}
use mathlib.Core.List.{List, [], ◌∷◌, ◌++◌}
use Prim.Native.Nat.{ℕ, zero, suc, ◌*◌, ◌/◌, ◌≤◌, ◌<◌}
use native.Mathlib.Omega.{arith}
use lib.ListN.{length, get_or}
use Rattle.rules.specs.Bytes.{byte_at}
use Rattle.rules.specs.Sectors.{sector_of, sector_count}
use Rattle.rules.specs.Map.{count}
use Rattle.rules.specs.Descriptor.{name_of, IsDescriptor}
use Rattle.rules.specs.Index.{IsIndex}
use Rattle.rules.specs.Directory.{entries}
use Rattle.rules.specs.Volume.{indexes, files_in, files_of, name_in, places_in, file_holders, holders, catalogue, catalogues}
use Rattle.rules.specs.Sound.{file_at, IsIndexed, Sound}
use Rattle.rules.specs.Calls.Repair.{ordered, Mendable}
use Rattle.rules.specs.declared.Layout.{Layout}
use Rattle.rules.proofs.Sectors.{sector_length}
use Rattle.rules.proofs.Map.{count_here, count_more, count_at, count_append}
use Rattle.rules.proofs.Directory.{entries_kept}
use Rattle.rules.proofs.Indexes.{held_of_has, holders_inside}
use Rattle.rules.proofs.Staying.{map_agree, holders_kept, file_kept, files_kept, file_holds, indexes_kept}
use Rattle.rules.proofs.Written.{label_kept}
use Rattle.rules.proofs.Ordered.{Distinct, ordered-count, ordered_holders, ordered_ascending}
use Rattle.rules.proofs.Listed.{one_order, label_long, listed_descriptor, listed_name, file_once}
use Rattle.rules.proofs.Mended.{held_alike}
use Rattle.demands.specs.Repairing.{Mends}

pub record Agrees (layout : Layout) (volume image : List ℕ) : Type 0 where
  pub size : length image ≡ length volume
  pub label : (b : ℕ) → b < 56 → byte_at (sector_of image 0) b ≡ byte_at (sector_of volume 0) b
  pub index : (i : ℕ) → IsIndexed layout volume i → IsIndex (sector_count volume) (sector_of image i)
  pub listed : (i : ℕ) → IsIndexed layout volume i → (j : ℕ) → count j (files_in image i) ≡ count j (files_in volume i)
  pub held : (j : ℕ) → 1 ≤ count j (file_holders volume (files_of volume (indexes layout volume))) → sector_of image j ≡ sector_of volume j

pub agrees_itself : (layout : Layout) (volume : List ℕ) → Sound layout volume → Agrees layout volume volume
agrees_itself layout volume is = record { size = refl; label = λ b h. refl; index = λ i indexed. (is.each i indexed).index; listed = λ i indexed j. refl; held = λ j h. refl }

-- a number that stands at two places counts twice
counts_twice : (ks : List ℕ) (p q : ℕ) → p < q → q < length ks → get_or ks p 0 ≡ get_or ks q 0 → 2 ≤ count (get_or ks q 0) ks
counts_twice [] p q h l e = absurd (omega arith)
counts_twice (k ∷ ks) p zero h l e = absurd (omega arith)
counts_twice (k ∷ ks) zero (suc q) h l e = rw (← e) (omega (arith, count_here k ks, rw (← e) at (count_at ks q (omega arith))))
counts_twice (k ∷ ks) (suc p) (suc q) h l e = omega (arith, counts_twice ks p q (omega arith) (omega arith) e, count_more (get_or ks q 0) k ks)

-- each file's descriptor is a holder
pub descriptors_held : (image : List ℕ) (j : ℕ) (ks : List ℕ) → count j ks ≤ count j (file_holders image ks)
unfolding file_holders
descriptors_held image j [] = omega arith
descriptors_held image j (k ∷ ks) =
    omega (arith, descriptors_held image j ks, count_append j (k ∷ []) ks, count_append j (k ∷ []) (places_in image k ++ file_holders image ks), count_append j (places_in image k) (file_holders image ks))

-- what files hold on a sound volume is neither sector 0 nor an index, and inside
pub held_away : (layout : Layout) (volume : List ℕ) → Sound layout volume → (j : ℕ) → 1 ≤ count j (file_holders volume (files_of volume (indexes layout volume))) → (count j (0 ∷ indexes layout volume) ≡ 0) × (j < sector_count volume)
unfolding holders
held_away layout volume is j some =
    let all = indexes layout volume in
    let hs = file_holders volume (files_of volume all) in
    let split = count_append j (0 ∷ all) hs in
    (omega (arith, some, split, is.single j), holders_inside layout volume is j (omega (arith, some, split)))

module _ (layout : Layout) (volume image : List ℕ) (is : Sound layout volume) (a : Agrees layout volume image) where
  same_count : sector_count image ≡ sector_count volume
  same_count = ap (λ (m : ℕ). m / 256) a.size

  long : length (sector_of image 0) ≡ 256
  long = sector_length image 0 (omega (arith, a.size, is.whole, is.size))

  same_entries : entries layout (sector_of image 0) ≡ entries layout (sector_of volume 0)
  same_entries = entries_kept layout (sector_of volume 0) (sector_of image 0) (long ∙ sym (label_long layout volume is)) a.label

  same_indexes : indexes layout image ≡ indexes layout volume
  same_indexes = indexes_kept layout volume image same_entries

  -- the files of an index
  module _ (i : ℕ) (indexed : IsIndexed layout volume i) where
    was_listed : (k : ℕ) → 1 ≤ count k (files_in image i) → 1 ≤ count k (files_in volume i)
    was_listed k there = omega (arith, there, a.listed i indexed k)

    held_so : (k j : ℕ) → 1 ≤ count k (files_in volume i) → 1 ≤ count j (k ∷ places_in volume k) → 1 ≤ count j (file_holders volume (files_of volume (indexes layout volume)))
    held_so k j there here = omega (arith, here, file_holds volume k j (files_in volume i) there, held_of_has volume i (indexes layout volume) indexed j)

    file_same : (k : ℕ) → 1 ≤ count k (files_in volume i) → sector_of image k ≡ sector_of volume k
    file_same k there = a.held k (held_so k k there (omega (arith, count_here k (places_in volume k))))

    name_same : (k : ℕ) → 1 ≤ count k (files_in volume i) → name_in image k ≡ name_in volume k
    unfolding name_in
    name_same k there = ap name_of (file_same k there)

    descriptors_are : (p : ℕ) → p < length (files_in image i) → IsDescriptor layout (sector_count volume) (sector_of image (file_at image i p))
    descriptors_are p h =
        let k = file_at image i p in
        let there = was_listed k (count_at (files_in image i) p h) in
        rw (file_same k there) (listed_descriptor layout volume is i indexed k there)

    distinct_are : Distinct image (files_in image i)
    distinct_are p q h l e =
        let first = was_listed (file_at image i p) (count_at (files_in image i) p (omega arith)) in
        let second = was_listed (file_at image i q) (count_at (files_in image i) q l) in
        let same = listed_name layout volume is i indexed (file_at image i p) (file_at image i q) first second (sym (name_same (file_at image i p) first) ∙ e ∙ name_same (file_at image i q) second) in
        omega (arith, counts_twice (files_in image i) p q h l same, a.listed i indexed (file_at image i q), descriptors_held volume (file_at image i q) (files_in volume i), file_once layout volume is i indexed (file_at image i q))

    name_long : (p : ℕ) → p < length (files_in image i) → length (name_in image (file_at image i p)) ≡ 10
    unfolding name_in
    name_long p h = (descriptors_are p h).name.ten

    -- in name order they are the volume's
    agreed_order : ordered image (files_in image i) ≡ files_in volume i
    agreed_order =
        one_order image (ordered image (files_in image i)) (files_in volume i) (ordered_ascending image (files_in image i) name_long distinct_are)
        (λ p q h l. rw (name_same (file_at volume i p) (count_at (files_in volume i) p (omega arith)), name_same (file_at volume i q) (count_at (files_in volume i) q l)) ((is.each i indexed).ascending p q h l))
        (λ j. ordered-count image j (files_in image i) ∙ a.listed i indexed j)

    agreed_hold : (j : ℕ) → count j (file_holders image (files_in image i)) ≡ count j (file_holders volume (files_in volume i))
    agreed_hold j =
        ap (count j) (holders_kept volume image (files_in image i) (λ k h. file_same k (was_listed k h)))
        ∙ sym (ordered_holders image volume j (files_in image i))
        ∙ ap (λ (l : List ℕ). count j (file_holders volume l)) agreed_order

  pub agreed_mendable : Mendable layout image
  unfolding holders
  agreed_mendable =
      let n = same_count in
      let all = indexes layout volume in
      let now = file_holders image (files_of image all) in
      let was = file_holders volume (files_of volume all) in
      record {
        whole = a.size ∙ is.whole ∙ ap (λ (m : ℕ). 256 * m) (sym n);
        size = rw n is.size;
        label = rw n (label_kept (sector_count volume) (sector_of volume 0) (sector_of image 0) (label_long layout volume is) long a.label is.label);
        entered = rw (n, same_entries) is.entered;
        each = λ i indexed.
            let there = rw same_indexes at indexed in
            record { index = rw n (a.index i there); descriptors = rw n (descriptors_are i there); distinct = distinct_are i there };
        single = λ j. rw same_indexes (omega (arith, is.single j, held_alike volume image all agreed_hold j, count_append j (0 ∷ all) now, count_append j (0 ∷ all) was));
      }

  -- what repair makes of it
  module _ (after order : List ℕ) (m : Mends layout image after order) where
    after-indexes : indexes layout after ≡ indexes layout volume
    after-indexes =
        indexes_kept layout image after (entries_kept layout (sector_of image 0) (sector_of after 0) (sector_length after 0 (omega (arith, m.size, a.size, is.whole, is.size)) ∙ sym long) m.label)
        ∙ same_indexes

    stands : (j : ℕ) → 1 ≤ count j (file_holders volume (files_of volume (indexes layout volume))) → sector_of after j ≡ sector_of volume j
    stands j there =
        let away = held_away layout volume is j there in
        m.others j (omega (arith, away.1, same_count)) (ap (λ (l : List ℕ). count j (0 ∷ l)) same_indexes ∙ away.0) ∙ a.held j there

    name_stands : (i : ℕ) → IsIndexed layout volume i → (k : ℕ) → 1 ≤ count k (files_in volume i) → name_in after k ≡ name_in volume k
    unfolding name_in
    name_stands i indexed k there = ap name_of (stands k (held_so i indexed k k there (omega (arith, count_here k (places_in volume k)))))

    agreed_files : (i : ℕ) → IsIndexed layout volume i → files_in after i ≡ files_in volume i
    agreed_files i indexed =
        one_order after (files_in after i) (files_in volume i) (m.sound.each i (rw after-indexes indexed)).ascending
        (λ p q h l.
        rw (name_stands i indexed (file_at volume i p) (count_at (files_in volume i) p (omega arith)), name_stands i indexed (file_at volume i q) (count_at (files_in volume i) q l))
        ((is.each i indexed).ascending p q h l))
        (λ j. omega (arith, (m.numbers i (rw same_indexes indexed)).lists j, a.listed i indexed j))

    agreed_catalogue : (i : ℕ) → IsIndexed layout volume i → catalogue after i ≡ catalogue volume i
    unfolding catalogue
    agreed_catalogue i indexed =
        rw (agreed_files i indexed)
        (files_kept volume after (files_in volume i)
        (λ k there. file_kept volume after k (stands k (held_so i indexed k k there (omega (arith, count_here k (places_in volume k))))) (λ p placed. stands p (held_so i indexed k p there (omega (arith, placed, count_more p k (places_in volume k)))))))

    pub agreed_catalogues : catalogues layout after ≡ catalogues layout volume
    unfolding catalogues
    agreed_catalogues = rw after-indexes (map_agree (catalogue after) (catalogue volume) (indexes layout volume) agreed_catalogue)

-- What repair leaves of an image that can be mended: every index with its numbers in name order, the map of the holders, and all else as it stood; so the volume is sound.
use mathlib.Core.Path.{◌≡◌, refl, sym, ap, ◌∙◌}
use mathlib.Core.List.{List, [], ◌∷◌, ◌++◌, map}
use Prim.Native.Nat.{ℕ, suc, ◌+◌, ◌*◌, ◌/◌, ◌≤◌, ◌<◌}
use native.Mathlib.Omega.{arith}
use native.Mathlib.Decide.{ℕ_discrete}
use lib.ListN.{length, get_or}
use lib.Seq.{ext_get_or}
use Rattle.rules.specs.Bytes.{byte_at, part, splice}
use Rattle.rules.specs.Sectors.{sector_of, sector_count, Write, sectors_in, through, written, Whole}
use Rattle.rules.specs.Map.{map_bit, count, taken, map_of}
use Rattle.rules.specs.Descriptor.{name_of, IsDescriptor}
use Rattle.rules.specs.Index.{numbers, index_of}
use Rattle.rules.specs.Directory.{entries}
use Rattle.rules.specs.Volume.{indexes, files_in, files_of, name_in, places_in, file_holders, holders}
use Rattle.rules.specs.Sound.{file_at, IsIndexed, SoundIndex, Sound}
use Rattle.rules.specs.Outcome.{write}
use Rattle.rules.specs.Calls.Repair.{ordered, ordered_index, map_anew, mending, Mendable}
use Rattle.rules.specs.declared.Layout.{Layout}
use Rattle.rules.proofs.Bytes.{part_length, part_at, append_parts}
use Rattle.rules.proofs.Splice.{splice-length, splice_below, splice_inside}
use Rattle.rules.proofs.Sectors.{sector_length}
use Rattle.rules.proofs.Map.{count_none, count_here, count_other, count_more, count_at, count_append, map_of_bits, taken_same, taken_below, taken_past}
use Rattle.rules.proofs.Indexed.{Ascending, index_length, numbers_index, index_is_index}
use Rattle.rules.proofs.Indexes.{index_inside, held_append, held_of_has}
use Rattle.rules.proofs.Directory.{entries_kept}
use Rattle.rules.proofs.Formatted.{map_length}
use Rattle.rules.proofs.Written.{written-length, written_apart, label_kept}
use Rattle.rules.proofs.Through.{none_named, through_writes}
use Rattle.rules.proofs.Staying.{holders_kept, file_holds, indexes_kept}
use Rattle.rules.proofs.Ordered.{ordered-count, ordered-length, ordered_all, ordered_holders, ordered_ascending}

-- the order of repair's writes: the indexes, then sector 0
indexes_in : (image is : List ℕ) (last : List Write) → sectors_in (map (ordered_index image) is ++ last) ≡ is ++ sectors_in last
unfolding sectors_in ordered_index
indexes_in image [] last = refl
indexes_in image (i ∷ is) last = ap (λ (l : List ℕ). i ∷ l) (indexes_in image is last)

pub mending_order : (layout : Layout) (image : List ℕ) → sectors_in (mending layout image) ≡ indexes layout image ++ (0 ∷ [])
unfolding mending sectors_in
mending_order layout image = indexes_in image (indexes layout image) (write 0 (map_anew layout image) ∷ [])

through_both : (image ks js : List ℕ) → through image (ks ++ js) ≡ through image ks ++ through image js
unfolding through
through_both image [] js = refl
through_both image (k ∷ ks) js = ap (λ (l : List Write). record { sector = k; bytes = sector_of image k } ∷ l) (through_both image ks js)

through_many : {A : Type 0} (f : ℕ → A) (image ks : List ℕ) → length (through image ks) ≡ length (map f ks)
unfolding through
through_many f image [] = refl
through_many f image (k ∷ ks) = ap (λ (n : ℕ). suc n) (through_many f image ks)

through_each : (image : List ℕ) (f : ℕ → Write) (ks : List ℕ) → through image ks ≡ map f ks → (j : ℕ) → 1 ≤ count j ks → sector_of image j ≡ (f j).bytes
unfolding through
through_each image f [] same j there = absurd (omega (arith, there, count_none j))
through_each image f (k ∷ ks) same j there =
    elim (ℕ_discrete k j) [
      | yes here ↦ rw (← here) (let first : write k (sector_of image k) ≡ f k = cc same in ap (λ (w : Write). w.bytes) first)
      | no other ↦ through_each image f ks (cc same) j (omega (arith, there, count_other j k ks other))
    ]

-- what the files of several indexes hold, where those of each hold as much as before
pub held_alike : (image after is : List ℕ) → ((i : ℕ) → 1 ≤ count i is → (j : ℕ) → count j (file_holders after (files_in after i)) ≡ count j (file_holders image (files_in image i)))
    → (j : ℕ) → count j (file_holders after (files_of after is)) ≡ count j (file_holders image (files_of image is))
unfolding files_of file_holders
held_alike image after [] each j = refl
held_alike image after (i ∷ is) each j =
    omega (
      arith,
      held_append after j (files_in after i) (files_of after is),
      held_append image j (files_in image i) (files_of image is),
      each i (omega (arith, count_here i is)) j,
      held_alike image after is (λ h some. each h (omega (arith, some, count_more h i is))) j,
    )

module _ (layout : Layout) (image : List ℕ) (is : Mendable layout image) where
  abbrev n : ℕ
  n = sector_count image

  abbrev all : List ℕ
  all = indexes layout image

  abbrev held : List ℕ
  held = file_holders image (files_of image all)

  abbrev after : List ℕ
  after = written image (mending layout image)

  -- an index is a sector of the volume
  pub mendable_index : (i : ℕ) → IsIndexed layout image i → (1 ≤ i) × (i < n)
  mendable_index = index_inside layout image (omega (arith, is.size)) is.entered

  -- sector 0, the indexes and what the files hold are apart
  pub apart : (j : ℕ) → count j (0 ∷ []) + (count j all + count j held) ≤ 1
  unfolding holders
  apart j = omega (arith, is.single j, count_append j (0 ∷ []) (all ++ held), count_append j all held)

  -- the numbers of an index
  range : (i : ℕ) → IsIndexed layout image i → (p : ℕ) → p < length (files_in image i) → (2 ≤ file_at image i p) × (file_at image i p < n)
  unfolding files_in
  range i indexed = (is.each i indexed).index.range

  named : (i : ℕ) → IsIndexed layout image i → (p : ℕ) → p < length (files_in image i) → length (name_in image (file_at image i p)) ≡ 10
  unfolding name_in
  named i indexed p h = ((is.each i indexed).descriptors p h).name.ten

  zero_long : length (sector_of image 0) ≡ 256
  zero_long = sector_length image 0 (omega (arith, is.whole, is.size))

  pub anew_long : length (map_anew layout image) ≡ 256
  unfolding map_anew
  anew_long = splice-length (sector_of image 0) 56 _ ∙ zero_long

  -- the writes are whole sectors of the volume, each named once
  all_whole : (js : List ℕ) → ((i : ℕ) → 1 ≤ count i js → i < n) → (last : List Write) → Whole (length image) last → Whole (length image) (map (ordered_index image) js ++ last)
  unfolding Whole ordered_index
  all_whole [] inside last whole = whole
  all_whole (i ∷ js) inside last whole =
      (index_length (ordered image (files_in image i)), omega (arith, inside i (omega (arith, count_here i js)), is.whole), all_whole js (λ j h. inside j (omega (arith, h, count_more j i js))) last whole)

  pub mending_whole : Whole (length image) (mending layout image)
  unfolding Whole mending
  mending_whole = all_whole all (λ i h. (mendable_index i h).1) (write 0 (map_anew layout image) ∷ []) (anew_long, omega (arith, is.whole, is.size), tt)

  pub mending_once : (k : ℕ) → count k (sectors_in (mending layout image)) ≤ 1
  mending_once k = rw (mending_order layout image) (omega (arith, apart k, count_append k all (0 ∷ [])))

  pub mended_size : length after ≡ length image
  mended_size = written-length image (mending layout image)

  -- the sectors afterwards
  mending_is : mending layout image ≡ map (ordered_index image) all ++ (write 0 (map_anew layout image) ∷ [])
  unfolding mending
  mending_is = refl

  both_parts : (through after all ≡ map (ordered_index image) all) × (through after (0 ∷ []) ≡ write 0 (map_anew layout image) ∷ [])
  both_parts =
      let writes = write 0 (map_anew layout image) ∷ [] in
      append_parts (through after all) (through after (0 ∷ [])) (map (ordered_index image) all) writes (through_many (ordered_index image) after all)
      (sym (through_both after all (0 ∷ [])) ∙ rw (mending_order layout image) at (through_writes image (mending layout image) mending_whole mending_once) ∙ mending_is)

  pub mended_index : (i : ℕ) → IsIndexed layout image i → sector_of after i ≡ index_of (ordered image (files_in image i))
  unfolding ordered_index
  mended_index i indexed = through_each after (ordered_index image) all both_parts.0 i indexed

  pub mended_map : sector_of after 0 ≡ map_anew layout image
  mended_map = through_each after (λ k. write k (map_anew layout image)) (0 ∷ []) both_parts.1 0 (omega (arith, count_here 0 []))

  pub mended_other : (j : ℕ) → (j ≡ 0 → ⊥) → count j all ≡ 0 → sector_of after j ≡ sector_of image j
  mended_other j some none =
      written_apart image (mending layout image) j mending_whole
      (none_named j (mending layout image) (ap (count j) (mending_order layout image) ∙ omega (arith, none, count_append j all (0 ∷ []), count_other j 0 [] (λ e. some (sym e)), count_none j)))

  pub mended_label : (b : ℕ) → b < 56 → byte_at (sector_of after 0) b ≡ byte_at (sector_of image 0) b
  unfolding map_anew
  mended_label b h = ap (λ (s : List ℕ). byte_at s b) mended_map ∙ splice_below (sector_of image 0) 56 _ b h

  -- what the files hold stands as it stood
  pub held_stands : (j : ℕ) → 1 ≤ count j held → sector_of after j ≡ sector_of image j
  held_stands j there = mended_other j (λ e. omega (arith, apart 0, count_here 0 [], rw e at there)) (omega (arith, there, apart j))

  pub file_held : (i k j : ℕ) → IsIndexed layout image i → 1 ≤ count k (files_in image i) → 1 ≤ count j (k ∷ places_in image k) → 1 ≤ count j held
  file_held i k j indexed there here = omega (arith, here, file_holds image k j (files_in image i) there, held_of_has image i all indexed j)

  pub file_stands : (i k : ℕ) → IsIndexed layout image i → 1 ≤ count k (files_in image i) → sector_of after k ≡ sector_of image k
  file_stands i k indexed there = held_stands k (file_held i k k indexed there (omega (arith, count_here k (places_in image k))))

  -- an index afterwards
  module _ (i : ℕ) (indexed : IsIndexed layout image i) where
    abbrev ks : List ℕ
    ks = ordered image (files_in image i)

    ks_range : (p : ℕ) → p < length ks → (2 ≤ get_or ks p 0) × (get_or ks p 0 < n)
    ks_range = ordered_all image (λ (j : ℕ). (2 ≤ j) × (j < n)) (files_in image i) (range i indexed)

    ks_few : length ks ≤ 127
    unfolding files_in
    ks_few = omega (arith, (is.each i indexed).index.few, ordered-length image (files_in image i))

    pub mended_files : files_in after i ≡ ks
    unfolding files_in
    mended_files = ap numbers (mended_index i indexed) ∙ numbers_index ks (λ p h. omega (arith, (ks_range p h).0)) (omega (arith, ks_few))

    was_listed : (k : ℕ) → 1 ≤ count k ks → 1 ≤ count k (files_in image i)
    was_listed k there = omega (arith, there, ordered-count image k (files_in image i))

    name_stands : (k : ℕ) → 1 ≤ count k ks → name_in after k ≡ name_in image k
    unfolding name_in
    name_stands k there = ap name_of (file_stands i k indexed (was_listed k there))

    ks_descriptors : (p : ℕ) → p < length ks → IsDescriptor layout n (sector_of after (get_or ks p 0))
    ks_descriptors p h =
        rw (file_stands i (get_or ks p 0) indexed (was_listed (get_or ks p 0) (count_at ks p h)))
        (ordered_all image (λ (j : ℕ). IsDescriptor layout n (sector_of image j)) (files_in image i) (is.each i indexed).descriptors p h)

    ks_ascending : Ascending after ks
    ks_ascending p q h l =
        rw (name_stands (get_or ks p 0) (count_at ks p (omega arith)), name_stands (get_or ks q 0) (count_at ks q l))
        (ordered_ascending image (files_in image i) (named i indexed) (is.each i indexed).distinct p q h l)

    mended_sound_index : sector_count after ≡ n → SoundIndex layout after i
    mended_sound_index many =
        record {
          index = rw (many, mended_index i indexed) (index_is_index n ks ks_range ks_few);
          descriptors = rw (many, mended_files) ks_descriptors;
          ascending = rw mended_files ks_ascending;
        }

    -- and what its files hold
    files_hold : (j : ℕ) → count j (file_holders after (files_in after i)) ≡ count j (file_holders image (files_in image i))
    files_hold j = rw mended_files (ap (count j) (holders_kept image after ks (λ k h. file_stands i k indexed (was_listed k h))) ∙ ordered_holders image image j (files_in image i))

  pub mended_entries : entries layout (sector_of after 0) ≡ entries layout (sector_of image 0)
  mended_entries =
      entries_kept layout (sector_of image 0) (sector_of after 0) (sector_length after 0 (omega (arith, mended_size, is.whole, is.size)) ∙ sym zero_long) mended_label

  pub mended_indexes : indexes layout after ≡ all
  mended_indexes = indexes_kept layout image after mended_entries

  pub mended_holders : (j : ℕ) → count j (holders layout after) ≡ count j (holders layout image)
  unfolding holders
  mended_holders j =
      let now = file_holders after (files_of after all) in
      rw mended_indexes (omega (arith, held_alike image after all files_hold j, count_append j (0 ∷ all) now, count_append j (0 ∷ all) held))

  anew_part : part (map_anew layout image) 56 200 ≡ map_of n (holders layout image)
  unfolding map_anew
  anew_part =
      let hs = map_of n (holders layout image) in
      let long = map_length n (holders layout image) in
      let size : length (part (splice (sector_of image 0) 56 hs) 56 200) ≡ 200 = part_length (splice (sector_of image 0) 56 hs) 56 200 (omega (arith, splice-length (sector_of image 0) 56 hs, zero_long)) in
      ext_get_or 0 (part (splice (sector_of image 0) 56 hs) 56 200) hs (size ∙ sym long)
      (λ i h. part_at (splice (sector_of image 0) 56 hs) 56 200 i (omega (arith, size)) ∙ splice_inside (sector_of image 0) 56 hs i (omega (arith, size, long)) (omega (arith, size, zero_long)))

  map_after : (j : ℕ) → j < 1600 → map_bit (sector_of after 0) j ≡ taken n (holders layout after) j
  map_after j low =
      ap (λ (s : List ℕ). map_bit s j) mended_map
      ∙ map_of_bits n (holders layout image) (map_anew layout image) is.single anew_part j low
      ∙ sym (taken_same n (holders layout image) (holders layout after) mended_holders j)

  pub mended_sound : Sound layout after
  mended_sound =
      let many : sector_count after ≡ n = ap (λ (m : ℕ). m / 256) mended_size in
      record {
        whole = mended_size ∙ is.whole ∙ ap (λ (m : ℕ). 256 * m) (sym many);
        size = rw many is.size;
        label = rw many (label_kept n (sector_of image 0) (sector_of after 0) zero_long (sector_length after 0 (omega (arith, mended_size, is.whole, is.size))) mended_label is.label);
        entered = rw (many, mended_entries) is.entered;
        each = λ i indexed. mended_sound_index i (rw mended_indexes at indexed) many;
        single = λ k. rw (mended_holders k) (is.single k);
        marked = λ k h. map_after k (omega (arith, is.size, many, h)) ∙ taken_below n (holders layout after) k (omega (arith, many, h));
        filled = rw many (λ k h low. map_after k low ∙ taken_past n (holders layout after) k h);
      }

-- Repair: ours mends what it accepts; a sound volume keeps its catalogues; and there is one image that an image is mended to.
use mathlib.Core.Path.{◌≡◌, refl, sym, ap, ◌∙◌}
use mathlib.Core.List.{List, [], ◌∷◌}
use Prim.Native.Nat.{ℕ, ◌+◌, ◌-◌, ◌*◌, ◌/◌, ◌≤◌, ◌<◌}
use native.Mathlib.Omega.{arith}
use native.Mathlib.Decide.{dec_lt, ℕ_discrete}
use lib.ListN.{length}
use Rattle.rules.specs.Bytes.{byte_at, part}
use Rattle.rules.specs.Sectors.{sector_of, sector_count, sectors_in, written}
use Rattle.rules.specs.Map.{count, taken, map_of}
use Rattle.rules.specs.Descriptor.{name_of}
use Rattle.rules.specs.Index.{index_of}
use Rattle.rules.specs.Volume.{indexes, files_in, files_of, name_in, places_in, file_holders, holders}
use Rattle.rules.specs.Sound.{file_at, IsIndexed}
use Rattle.rules.specs.Calls.Repair.{repair_tests, map_anew, mending, repair_of, Mendable}
use Rattle.rules.specs.declared.Layout.{Layout}
use Rattle.rules.proofs.Tests.{unless_passed}
use Rattle.rules.proofs.Bytes.{part_length, part_same, halves}
use Rattle.rules.proofs.Splice.{splice_inside}
use Rattle.rules.proofs.Sectors.{sector_length, image_same}
use Rattle.rules.proofs.Map.{count_here, count_other, count_more, count_apart, count_at, count_append, byte_small, bytes_at, map_of_bytes, taken_once}
use Rattle.rules.proofs.Directory.{entries_kept}
use Rattle.rules.proofs.Indexes.{held_of_has}
use Rattle.rules.proofs.Formatted.{map_length}
use Rattle.rules.proofs.Staying.{holders_kept, indexes_kept, file_holds}
use Rattle.rules.proofs.Ordered.{ordered-count}
use Rattle.rules.proofs.Listed.{one_order, map_is, label_long}
use Rattle.rules.proofs.Repair.{mendable}
use Rattle.rules.proofs.Mended.{mending_order, mended_size, mended_index, mended_map, mended_other, mended_label, mended_files, mended_sound}
use Rattle.demands.specs.Repairing.{Mends}
use Rattle.demands.specs.Touches.{Others}
use Rattle.demands.proofs.Agreeing.{descriptors_held, held_away}

-- the map's 200 are bytes
map_small : (n : ℕ) (hs : List ℕ) → ((k : ℕ) → count k hs ≤ 1) → (i : ℕ) → i < 200 → byte_at (map_of n hs) i < 256
unfolding map_of
map_small n hs once i low = rw (bytes_at (taken n hs) 200 0 i low) (byte_small (taken n hs) (0 + 8 * i) (taken_once n hs once))

-- ours
mended : (layout : Layout) (image : List ℕ) → Mendable layout image → Mends layout image (written image (mending layout image)) (sectors_in (mending layout image))
unfolding map_anew
mended layout image is =
    let after = written image (mending layout image) in
    let hs = map_of (sector_count image) (holders layout image) in
    let long = map_length (sector_count image) (holders layout image) in
    record {
      sound = mended_sound layout image is;
      size = mended_size layout image is;
      label = mended_label layout image is;
      bytes = λ b low high.
          let z : 56 + (b - 56) ≡ b = omega arith in
          let at : byte_at (sector_of after 0) b ≡ byte_at hs (b - 56) =
          ap (λ (s : List ℕ). byte_at s b) (mended_map layout image is)
          ∙ rw z at (splice_inside (sector_of image 0) 56 hs (b - 56) (omega (arith, long)) (omega (arith, sector_length image 0 (omega (arith, is.whole, is.size)))))
          in
          rw at (map_small (sector_count image) (holders layout image) is.single (b - 56) (omega arith));
      numbers = λ i indexed.
          record {
            lists = λ j. omega (arith, ap (count j) (mended_files layout image is i indexed), ordered-count image j (files_in image i));
            laid = mended_index layout image is i indexed ∙ ap index_of (sym (mended_files layout image is i indexed));
          };
      others = λ j inside none. let parts = count_apart j 0 (indexes layout image) none in mended_other layout image is j parts.0 parts.1;
      writes = mending_order layout image;
    }

pub repair_mends : (layout : Layout) (image : List ℕ) → (repair_of layout image).number ≡ 0 → Mends layout image (written image (repair_of layout image).writes) (sectors_in (repair_of layout image).writes)
unfolding repair_of
repair_mends layout image zero = rw (unless_passed (repair_tests layout image) (mending layout image) [] zero) (mended layout image (mendable layout image zero))

-- the indexes are those of the image, and no sector stands twice in the order
module _ (layout : Layout) (image after order : List ℕ) (m : Mends layout image after order) where
  pub mends_count : sector_count after ≡ sector_count image
  mends_count = ap (λ (k : ℕ). k / 256) m.size

  pub mends_long : length (sector_of image 0) ≡ 256
  mends_long = sector_length image 0 (omega (arith, m.sound.whole, m.sound.size, m.size))

  pub mends_indexes : indexes layout after ≡ indexes layout image
  mends_indexes = indexes_kept layout image after (entries_kept layout (sector_of image 0) (sector_of after 0) (label_long layout after m.sound ∙ sym mends_long) m.label)

  pub mends_once : (k : ℕ) → count k order ≤ 1
  unfolding holders
  mends_once k =
      let all = indexes layout after in
      rw (m.writes, ← mends_indexes)
      (omega (arith, m.sound.single k, count_append k (0 ∷ all) (file_holders after (files_of after all)), count_append k all (0 ∷ []), count_append k (0 ∷ []) all))

  pub mends_others : Others image after order
  mends_others j inside none =
      let all = indexes layout image in
      m.others j inside (omega (arith, ap (count j) (sym m.writes) ∙ none, count_append j all (0 ∷ []), count_append j (0 ∷ []) all))

-- two that an image is mended to
module _ (layout : Layout) (image a b order order' : List ℕ) (m : Mends layout image a order) (m' : Mends layout image b order') where
  abbrev all : List ℕ
  all = indexes layout image

  -- what is neither sector 0 nor an index is the same
  same_other : (j : ℕ) → j < sector_count image → count j (0 ∷ all) ≡ 0 → sector_of a j ≡ sector_of b j
  same_other j inside none = m.others j inside none ∙ sym (m'.others j inside none)

  held_same : (j : ℕ) → 1 ≤ count j (file_holders a (files_of a (indexes layout a))) → sector_of a j ≡ sector_of b j
  held_same j there =
      let away = held_away layout a m.sound j there in
      same_other j (omega (arith, away.1, mends_count layout image a order m)) (ap (λ (l : List ℕ). count j (0 ∷ l)) (sym (mends_indexes layout image a order m)) ∙ away.0)

  module _ (i : ℕ) (indexed : IsIndexed layout image i) where
    file_same : (k : ℕ) → 1 ≤ count k (files_in a i) → sector_of a k ≡ sector_of b k
    file_same k there =
        held_same k (omega (arith, file_holds a k k (files_in a i) there, count_here k (places_in a k), held_of_has a i (indexes layout a) (rw (mends_indexes layout image a order m) indexed) k))

    name_same : (k : ℕ) → 1 ≤ count k (files_in a i) → name_in a k ≡ name_in b k
    unfolding name_in
    name_same k there = ap name_of (file_same k there)

    counts_same : (j : ℕ) → count j (files_in a i) ≡ count j (files_in b i)
    counts_same j = omega (arith, (m.numbers i indexed).lists j, (m'.numbers i indexed).lists j)

    files_same : files_in a i ≡ files_in b i
    files_same =
        one_order b (files_in a i) (files_in b i)
        (λ p q h l.
        rw (← name_same (file_at a i p) (count_at (files_in a i) p (omega (arith, h, l))), ← name_same (file_at a i q) (count_at (files_in a i) q l))
        ((m.sound.each i (rw (mends_indexes layout image a order m) indexed)).ascending p q h l))
        (m'.sound.each i (rw (mends_indexes layout image b order' m') indexed)).ascending counts_same

    index_same : sector_of a i ≡ sector_of b i
    index_same = (m.numbers i indexed).laid ∙ ap index_of files_same ∙ sym (m'.numbers i indexed).laid

  -- so the holders are the same, and the map
  all_files_lem : (is : List ℕ) → ((i : ℕ) → 1 ≤ count i is → IsIndexed layout image i) → files_of a is ≡ files_of b is
  unfolding files_of
  all_files_lem [] among = refl
  all_files_lem (i ∷ is) among = rw (files_same i (among i (omega (arith, count_here i is))), all_files_lem is (λ h some. among h (omega (arith, some, count_more h i is))))

  holders_same : holders layout a ≡ holders layout b
  unfolding holders
  holders_same =
      let same = all_files_lem all (λ i h. h) in
      let kept = holders_kept b a (files_of a all)
      (λ k there. held_same k (omega (arith, there, descriptors_held a k (files_of a all), ap (λ (l : List ℕ). count k (file_holders a (files_of a l))) (mends_indexes layout image a order m)))) in
      rw (mends_indexes layout image a order m, mends_indexes layout image b order' m') (rw (kept, same))

  map_bytes : (c after : List ℕ) → Mends layout image c after → sector_count c ≡ sector_count image → part (sector_of c 0) 56 200 ≡ map_of (sector_count image) (holders layout c)
  map_bytes c after is n =
      map_of_bytes (sector_count image) (holders layout c) (sector_of c 0) (part_length (sector_of c 0) 56 200 (omega (arith, label_long layout c is.sound)))
      (λ i low. is.bytes (56 + i) (omega arith) (omega arith)) (rw n at (map_is layout c is.sound))

  zero_same : sector_of a 0 ≡ sector_of b 0
  zero_same =
      halves 56 200 (sector_of a 0) (sector_of b 0) (label_long layout a m.sound) (label_long layout b m'.sound)
      (part_same (sector_of a 0) (sector_of b 0) 0 56 (label_long layout a m.sound ∙ sym (label_long layout b m'.sound)) (λ i low high. m.label i high ∙ sym (m'.label i high)))
      (map_bytes a order m (mends_count layout image a order m) ∙ ap (map_of (sector_count image)) holders_same ∙ sym (map_bytes b order' m' (mends_count layout image b order' m')))

  pub mends_one : a ≡ b
  mends_one =
      image_same a b (m.size ∙ sym m'.size) m.sound.whole
      (λ j low.
      elim (dec_lt 0 (count j all)) [
        | yes indexed ↦ index_same j indexed
        | no none ↦
            elim (ℕ_discrete j 0) [
              | yes here ↦ rw here zero_same
              | no other ↦ same_other j (omega (arith, low, mends_count layout image a order m)) (count_other j 0 all (λ e. other (sym e)) ∙ omega (arith, none))
            ]
      ])

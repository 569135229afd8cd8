-- The parts of the packed form laid over a target of the source's length, the map at last, are the packed form; and which test of the call gives which number.
use mathlib.Core.Path.{◌≡◌, sym, ap, ◌∙◌}
use mathlib.Core.Bool.{not}
use mathlib.Core.List.{List, [], ◌∷◌, ◌++◌, append_assoc}
use Prim.Native.Nat.{ℕ, ◌+◌, ◌-◌, ◌*◌, ◌≤◌}
use native.Mathlib.Omega.{arith}
use lib.Dec.{eqb}
use lib.ListN.{length, replicate, length-append, length-map, length-replicate}
use borrow.Rule.Slice.PartMut.{put_mid}
use borrow.Author.Tests.{eq-eqb, ne_eqb}
use Rattle.rules.specs.Bytes.{part, splice}
use Rattle.rules.specs.Sectors.{sector_count}
use Rattle.rules.specs.Map.{map_of}
use Rattle.rules.specs.Chain.{run}
use Rattle.rules.specs.Volume.{indexes, file_in, catalogue, catalogues}
use Rattle.rules.specs.Tests.{Test, refuse, first_of}
use Rattle.rules.specs.Verdict.{verdict}
use Rattle.rules.specs.Sound.{Sound}
use Rattle.rules.specs.Calls.Pack.{label_area, packed_label, packed, packed_indexes, packed_descriptors, packed_data, packed_sectors, together, pack_tests, pack_number}
use Rattle.rules.specs.declared.Layout.{Layout}
use Rattle.rules.proofs.Bytes.{part_length}
use Rattle.rules.proofs.Splice.{splice-length, splice_append, splice_whole, put_back}
use Rattle.rules.proofs.Formatted.{laid_next, map_length}
use Rattle.rules.proofs.Verdict.{unsound_first, sound_first}
use Rattle.rules.proofs.Pack.{splice_apart, with_length, label_length, descriptors_length, indexes_length, all_files, all_together, together_whole, used_inside}
use Rattle.packing.proofs.FileLaws.{data_ends}

-- how long the label is
packed_label-length : (layout : Layout) (image : List ℕ) → Sound layout image → length (packed_label layout (label_area layout image)) ≡ 56
unfolding packed_label
packed_label-length layout image is = with_length (label_area layout image) 30 _ ∙ label_length layout image is

module _ (layout : Layout) (image : List ℕ) (is : Sound layout image) {first behind used : ℕ} (first-is : first ≡ 1 + length (indexes layout image))
    (behind_is : behind ≡ first + length (all_files layout image)) (used_is : used ≡ packed_sectors (catalogues layout image)) where
  unfoldable label : List ℕ
  label = packed_label layout (label_area layout image)

  unfoldable indexing : List ℕ
  indexing = packed_indexes first (catalogues layout image)

  unfoldable descriptors : List ℕ
  descriptors = packed_descriptors behind (together (catalogues layout image))

  unfoldable stored : List ℕ
  stored = packed_data (together (catalogues layout image))

  unfoldable mapping : List ℕ
  mapping = map_of (sector_count image) (run 0 used)

  -- the sectors where parts begin, in words of the catalogues
  first_same : first ≡ 1 + length (catalogues layout image)
  unfolding catalogues
  first_same = omega (arith, first-is, length-map (indexes layout image) (catalogue image))

  behind_same : behind ≡ 1 + length (catalogues layout image) + length (together (catalogues layout image))
  behind_same = omega (arith, first_same, behind_is, ap length (all_together layout image), length-map (all_files layout image) (file_in image))

  label_long : length label ≡ 56
  unfolding label
  label_long = packed_label-length layout image is

  indexing_long : length indexing ≡ 256 * (first - 1)
  unfolding indexing
  indexing_long = indexes_length first (catalogues layout image) ∙ omega (arith, first_same)

  descriptors_long : length descriptors ≡ 256 * length (all_files layout image)
  unfolding descriptors
  descriptors_long =
      descriptors_length behind (together (catalogues layout image)) (together_whole layout image is)
      ∙ omega (arith, ap length (all_together layout image), length-map (all_files layout image) (file_in image))

  stored_long : 256 * behind + length stored ≡ 256 * used
  unfolding stored
  stored_long = omega (arith, data_ends layout image is, first-is, behind_is, used_is)

  mapping_long : length mapping ≡ 200
  unfolding mapping
  mapping_long = map_length (sector_count image) (run 0 used)

  -- the definition, as it is laid
  parts : (rest : List ℕ) → rest ≡ replicate (256 * (sector_count image - used)) 0xE5
      → label ++ (mapping ++ (((indexing ++ descriptors) ++ stored) ++ rest)) ≡ packed layout (sector_count image) (label_area layout image) (catalogues layout image)
  unfolding packed label indexing descriptors stored mapping
  parts rest e = rw (e, used_is, behind_same, first_same) (simp append_assoc)

  pub laid_packed : (target one two three four five rest map : List ℕ) → length target ≡ length image
      → one ≡ splice target 0 (packed_label layout (label_area layout image))
      → two ≡ splice one 256 (packed_indexes first (catalogues layout image))
      → three ≡ splice two (256 * first) (packed_descriptors behind (together (catalogues layout image)))
      → four ≡ splice three (256 * behind) (packed_data (together (catalogues layout image)))
      → rest ≡ replicate (length (part four (256 * used) (length four - 256 * used))) 0xE5
      → five ≡ put_mid (256 * used) (length four - 256 * used) four rest
      → map ≡ map_of (sector_count image) (run 0 used)
      → put_mid 56 200 five map ≡ packed layout (sector_count image) (label_area layout image) (catalogues layout image)
  unfolding label indexing descriptors stored mapping
  laid_packed target one two three four five rest map same one-is two_is three-is four_is rest-is five-is map_is =
      let n = sector_count image in
      let inside : used ≤ n = omega (arith, used_inside layout image is, used_is) in
      let whole = is.whole in
      let long-two : length (indexing ++ descriptors) ≡ 256 * behind - 256 = length-append indexing descriptors ∙ omega (arith, indexing_long, descriptors_long, behind_is, first-is) in
      let long-three : length ((indexing ++ descriptors) ++ stored) ≡ 256 * used - 256 = length-append (indexing ++ descriptors) stored ∙ omega (arith, long-two, stored_long, behind_is, first-is) in
      let one_long : length one ≡ 256 * n = ap length one-is ∙ splice-length target 0 label ∙ same ∙ whole in
      let up-three : three ≡ splice one 256 (indexing ++ descriptors) =
      three-is ∙ rw two_is (ap (λ (at : ℕ). splice (splice one 256 indexing) at descriptors) (omega (arith, indexing_long, first-is)) ∙ splice_append one 256 indexing descriptors)
      in
      let up-four : four ≡ splice one 256 ((indexing ++ descriptors) ++ stored) =
      four_is ∙ rw up-three (ap (λ (at : ℕ). splice (splice one 256 (indexing ++ descriptors)) at stored) (omega (arith, long-two, behind_is, first-is)) ∙ splice_append one 256 (indexing ++ descriptors) stored)
      in
      let four_long : length four ≡ 256 * n = ap length up-four ∙ splice-length one 256 _ ∙ one_long in
      let left : length four - 256 * used ≡ 256 * (n - used) = omega arith in
      let room = part_length four (256 * used) (length four - 256 * used) (omega arith) in
      let rest-same : rest ≡ replicate (256 * (n - used)) 0xE5 = rest-is ∙ ap (λ (m : ℕ). replicate m 0xE5) (room ∙ left) in
      let rest-long : length rest ≡ length four - 256 * used = ap length rest-same ∙ length-replicate {A = ℕ} (256 * (n - used)) 0xE5 ∙ sym left in
      let behind-all = ((indexing ++ descriptors) ++ stored) ++ rest in
      let up-five : five ≡ splice one 256 behind-all =
      five-is ∙ put_back four rest (256 * used) (length four - 256 * used) rest-long (omega arith)
      ∙ rw up-four (ap (λ (at : ℕ). splice (splice one 256 ((indexing ++ descriptors) ++ stored)) at rest) (omega (arith, long-three, stored_long, behind_is, first-is)) ∙ splice_append one 256 ((indexing ++ descriptors) ++ stored) rest)
      in
      let five_long : length five ≡ 256 * n = ap length up-five ∙ splice-length one 256 behind-all ∙ one_long in
      let map_long : length map ≡ 200 = ap length map_is ∙ mapping_long in
      let all-long : length (label ++ (map ++ behind-all)) ≡ length target =
      length-append label (map ++ behind-all) ∙ omega (arith, length-append map behind-all, length-append ((indexing ++ descriptors) ++ stored) rest, label_long, map_long, long-three, rest-long, four_long, stored_long, inside, same, whole, behind_is, first-is)
      in
      put_back five map 56 200 map_long (omega (arith, five_long, is.size))
      ∙ ap (λ (l : List ℕ). splice l 56 map) up-five
      ∙ splice_apart one 256 behind-all 56 map (omega (arith, map_long))
      ∙ rw one-is (ap (λ (l : List ℕ). splice l 256 behind-all) (laid_next target label map 56 label_long) ∙ laid_next target (label ++ map) behind-all 256 (length-append label map ∙ omega (arith, label_long, map_long)))
      ∙ ap (splice target 0) (append_assoc label map behind-all)
      ∙ splice_whole target (label ++ (map ++ behind-all)) all-long
      ∙ rw map_is (parts rest rest-same)

-- which test of the call gives which number
module _ (layout : Layout) (source target : List ℕ) where
  abbrev fit : List Test
  fit = refuse 15 (not (eqb (length target) (length source))) ∷ []

  pub unsound : (verdict layout source ≡ 0 → ⊥) → pack_number layout source target ≡ verdict layout source
  unfolding pack_tests
  unsound some = unsound_first layout source fit some

  pub misfit : verdict layout source ≡ 0 → (length target ≡ length source → ⊥) → pack_number layout source target ≡ 15
  unfolding pack_tests first_of
  misfit e other = sound_first layout source fit e ∙ rw (ne_eqb (length target) (length source) other)

  pub fits : verdict layout source ≡ 0 → length target ≡ length source → pack_number layout source target ≡ 0
  unfolding pack_tests first_of
  fits e same = sound_first layout source fit e ∙ rw (eq-eqb (length target) (length source) same)

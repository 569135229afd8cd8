-- Overwriting with marks, between its two writes: the volume whose descriptor has the mark and whose data stands as it stood. It is sound, and its catalogue is the old one with the bit set.
use mathlib.Core.Path.{◌≡◌, sym, ap, ◌∙◌}
use mathlib.Core.Bool.{cond}
use mathlib.Core.List.{List, [], map}
use Prim.Native.Nat.{ℕ, ◌*◌, ◌/◌, ◌≤◌}
use native.Mathlib.Omega.{arith}
use native.Mathlib.Decide.{ℕ_discrete}
use lib.Dec.{eqb}
use lib.ListN.{length}
use borrow.Author.Tests.{eq-eqb, ne_eqb}
use Rattle.rules.specs.Bytes.{splice}
use Rattle.rules.specs.Sectors.{sector_of, sector_count}
use Rattle.rules.specs.Map.{count}
use Rattle.rules.specs.Descriptor.{name_of, chain_of, IsDescriptor}
use Rattle.rules.specs.Index.{numbers}
use Rattle.rules.specs.Volume.{File, indexes, files_in, name_in, places_in, header_in, file_in, catalogue, catalogues}
use Rattle.rules.specs.Sound.{IsIndexed, Sound}
use Rattle.rules.specs.declared.Layout.{Layout}
use Rattle.rules.proofs.Sectors.{sector_length}
use Rattle.rules.proofs.Indexes.{held_of_has, other_indexes, other_indexed}
use Rattle.rules.proofs.Staying.{map_agree, catalogue_kept, indexes_kept, other_index, other_held}
use Rattle.rules.proofs.Written.{entries_stand}
use Rattle.rules.proofs.Listed.{listed_range, listed_descriptor, listed_name, sector_inside}
use Rattle.rules.proofs.Replaced.{elsewhere}
use Rattle.rules.proofs.Altered.{Altered, altered, redescribed, redescribed_file}
use Rattle.demands.specs.Catalogue.{changed}
use Rattle.demands.specs.Effects.{effect, Done, marked_file, overwritten}
use Rattle.demands.specs.Touches.{Lies}
use Rattle.demands.specs.Stop.{with_catalogue}
use Rattle.demands.proofs.Filed.{changed_at}
use Rattle.demands.proofs.Replacing.{altered_done}

module _ (layout : Layout) (image after : List ℕ) (i : ℕ) (name : List ℕ) (k offset : ℕ) (bytes : List ℕ) (is : Sound layout image) (indexed : IsIndexed layout image i) (there : 1 ≤ count k (files_in image i))
    (is_named_lem : name_in image k ≡ name) (done : Done layout image after i name (effect (changed name (λ file. overwritten offset bytes (marked_file layout file)) (catalogue image i)) 0 0))
    (lies : Lies after i name k (places_in image k) (chain_of (sector_of image k))) (same_index : sector_of after i ≡ sector_of image i) where
  abbrev d : List ℕ
  d = sector_of after k

  abbrev volume : List ℕ
  volume = splice image (256 * k) (sector_of after k)

  same_count : sector_count after ≡ sector_count image
  same_count = ap (λ (m : ℕ). m / 256) done.size

  indexed_after : IsIndexed layout after i
  indexed_after = rw (indexes_kept layout image after (entries_stand layout image after is done.size done.kept.label)) indexed

  long : length d ≡ 256
  long = sector_length after k (sector_inside layout after done.sound k (listed_range layout after done.sound i indexed_after k lies.listed).1)

  rules : IsDescriptor layout (sector_count image) d
  rules = rw same_count at (listed_descriptor layout after done.sound i indexed_after k lies.listed)

  named : name_of d ≡ name_in image k
  unfolding name_in
  named = lies.named ∙ sym is_named_lem

  changed_there : Altered layout image volume i k []
  changed_there = redescribed layout image i k is indexed there d long rules named lies.chain_is

  -- the file of the volume afterwards, and its header
  file_after : file_in after k ≡ overwritten offset bytes (marked_file layout (file_in image k))
  unfolding catalogue files_in
  file_after =
      changed_at image name k (sym is_named_lem) after (λ file. overwritten offset bytes (marked_file layout file)) (files_in image i) there (λ j listed. listed_name layout image is i indexed j k listed there)
      (ap (λ (s : List ℕ). map (file_in after) (numbers s)) (sym same_index) ∙ done.catalogue_is)

  file_between : marked_file layout (file_in image k) ≡ file_in volume k
  unfolding marked_file overwritten file_in header_in
  file_between =
      let header = ap (λ (file : File). file.header) file_after in
      sym (redescribed_file layout image i k is indexed there d long rules named lies.chain_is ∙ rw header)

  between_done : Done layout image volume i name (effect (changed name (marked_file layout) (catalogue image i)) 0 0)
  between_done = altered_done layout changed_there name (sym is_named_lem) (marked_file layout) file_between

  pub between_sound : Sound layout volume
  between_sound = between_done.sound

  pub between_catalogues : catalogues layout volume ≡ with_catalogue layout image i (changed name (marked_file layout) (catalogue image i))
  unfolding catalogues with_catalogue
  between_catalogues =
      rw (indexes_kept layout image volume (entries_stand layout image volume is between_done.size between_done.kept.label))
      (map_agree (catalogue volume) (λ j. cond (eqb j i) (changed name (marked_file layout) (catalogue image i)) (catalogue image j)) (indexes layout image) each)
    where
      each : (j : ℕ) → 1 ≤ count j (indexes layout image) → catalogue volume j ≡ cond (eqb j i) (changed name (marked_file layout) (catalogue image i)) (catalogue image j)
      each j listed =
          elim (ℕ_discrete j i) [
            | yes here ↦ rw (eq-eqb j i here, here) between_done.catalogue_is
            | no other ↦
                let among = other_indexed layout image i j indexed other listed in
                let stands = elsewhere layout (altered layout changed_there) in
                rw (ne_eqb j i other)
                (catalogue_kept image volume j (other_index layout image volume i stands j among)
                (λ p held. other_held layout image volume i stands p (omega (arith, held, held_of_has image j (other_indexes layout image i) among p))))
          ]

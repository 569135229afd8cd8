-- A version that lets free sectors show gives two forms of one volume. Most others fail on volumes of three sectors without files: one that has a zero in its free sector,
-- and one of another name. One that keeps the numbers of index sectors fails on a volume of four with a directory whose index is in the last.
use mathlib.Core.Path.{◌≡◌, refl, sym, ap, subst, ◌∙◌}
use mathlib.Core.Bool.{Bool, true, false}
use mathlib.Core.List.{List, [], ◌∷◌, ◌++◌}
use Prim.Native.Nat.{ℕ, ◌≤◌}
use native.Mathlib.Omega.{arith}
use lib.ListN.{length, get_or, replicate}
use Rattle.rules.specs.Bytes.{byte_at, part, all_are, same, over, splice}
use Rattle.rules.specs.Sectors.{sector_of}
use Rattle.rules.specs.Name.{name_byte, padded, name_rule, precedes}
use Rattle.rules.specs.Label.{label_rule}
use Rattle.rules.specs.Map.{map_bit, count, taken, bits_rule, map_rule, byte_of, bytes_of, map_of}
use Rattle.rules.specs.Chain.{run}
use Rattle.rules.specs.Index.{numbers, range_rule, index_rule}
use Rattle.rules.specs.Directory.{entries, entry_name, is_absent, is_named, entry_rule, entries_rule}
use Rattle.rules.specs.Volume.{directories, present, indexes, every, files_in, files_of, file_holders, holders, catalogue, catalogues}
use Rattle.rules.specs.Verdict.{size_rule, descriptors_rule, held_twice, volume_tests, verdict}
use Rattle.rules.specs.Tests.{first_of}
use Rattle.rules.specs.Calls.Format.{new_label, formatted}
use Rattle.rules.specs.Calls.Pack.{with_indexes, label_area}
use Rattle.rules.specs.declared.Layout.{Layout}
use Rattle.rules.proofs.Map.{count_here, count_more, count_append}
use Rattle.rules.proofs.Indexes.{held_of_has}
use Rattle.rules.proofs.Staying.{map_agree, catalogue_kept, indexes_kept}
use Rattle.rules.proofs.Verdict.{sound}
use Rattle.demands.specs.Bench.{disk_x, geometry}
use Rattle.demands.specs.CaseM.{shelf}
use Rattle.demands.specs.Packing.{all_files, Packs}
use Rattle.demands.specs.Demand3.{Packer, Packable, Demand3}
use Rattle.demands.specs.WrongPacking.{Identity, Constant, Copying, Showing, Keeping, WrongPacking}

-- where all that is held stands as it stood, so do the label area and the catalogues
module _ (layout : Layout) (image after : List ℕ) (held : (k : ℕ) → 1 ≤ count k (holders layout image) → sector_of after k ≡ sector_of image k) where
  sector0_stands : sector_of after 0 ≡ sector_of image 0
  unfolding holders
  sector0_stands = held 0 (omega (arith, count_here 0 (indexes layout image ++ file_holders image (files_of image (indexes layout image)))))

  label_stands : label_area layout after ≡ label_area layout image
  unfolding label_area
  label_stands = ap (λ (s : List ℕ). with_indexes (part s 0 56) 30 (replicate (length (entries layout s)) 0)) sector0_stands

  catalogues_stand : catalogues layout after ≡ catalogues layout image
  unfolding catalogues holders
  catalogues_stand =
      let is = indexes layout image in
      let files = file_holders image (files_of image is) in
      rw (indexes_kept layout image after (ap (entries layout) sector0_stands))
      (map_agree (catalogue after) (catalogue image) is
      (λ i there.
      catalogue_kept image after i (held i (omega (arith, there, count_more i 0 (is ++ files), count_append i is files)))
      (λ k some. held k (omega (arith, some, held_of_has image i is there k, count_more k 0 (is ++ files), count_append k is files)))))

not_showing : (layout : Layout) (pack : Packer) → Showing layout pack → Demand3 layout pack → ⊥
not_showing layout pack shows is =
    shows.differ
    ((is.form shows.first shows.second shows.target shows.other shows.can shows.can').1
    (sym (label_stands layout shows.first shows.second shows.held), sym (catalogues_stand layout shows.first shows.second shows.held)))

unfoldable remnant : List ℕ
remnant = splice (formatted 3 disk_x geometry) 512 (0 ∷ [])

unfoldable renamed : List ℕ
renamed = formatted 3 shelf geometry

-- all that is computed of them, under either edition: they are sound; the first has no directory and no files, and a zero in its free sector; their names differ
record Volumes (layout : Layout) : Type 0 where
  remnant_judged : verdict layout remnant ≡ 0
  renamed_judged : verdict layout renamed ≡ 0
  root_alone : indexes layout remnant ≡ 1 ∷ []
  no_files : all_files layout remnant ≡ []
  remains : byte_at (sector_of remnant 2) 0 ≡ 0
  names : (byte_at (label_area layout remnant) 0 ≡ 0x58) × (byte_at (label_area layout renamed) 0 ≡ 0x53)

volumes : (layout : Layout) → Volumes layout
unfolding renamed remnant over splice all_are same sector_of name_byte padded name_rule precedes label_rule map_bit count taken bits_rule map_rule byte_of bytes_of map_of numbers range_rule index_rule entries entry_name is_absent is_named entry_rule entries_rule directories present indexes every files_in files_of file_holders holders size_rule descriptors_rule held_twice volume_tests verdict first_of new_label formatted with_indexes label_area
volumes layout = go layout.directories
  where
    go : (t : Bool) → Volumes (record { marks = layout.marks; directories = t })
    go true = record { remnant_judged = refl; renamed_judged = refl; root_alone = refl; no_files = refl; remains = refl; names = (refl, refl) }
    go false = record { remnant_judged = refl; renamed_judged = refl; root_alone = refl; no_files = refl; remains = refl; names = (refl, refl) }

-- each of them packed to a target that it is itself
remnant_packable : (layout : Layout) → Packable layout remnant remnant
remnant_packable layout = record { sound = sound layout remnant (volumes layout).remnant_judged; long = refl }

renamed_packable : (layout : Layout) → Packable layout renamed renamed
renamed_packable layout = record { sound = sound layout renamed (volumes layout).renamed_judged; long = refl }

-- sector 2 is free where the root is alone and has no files
second_free : (layout : Layout) (target : List ℕ) → Packs layout remnant target → count 2 (holders layout target) ≡ 0
unfolding holders file_holders count run
second_free layout target laid =
    let root : indexes layout target ≡ 1 ∷ [] = laid.indexed ∙ ap (λ (is : List ℕ). run 1 (length is)) (volumes layout).root_alone in
    let none : all_files layout target ≡ [] = laid.files ∙ rw (volumes layout).no_files refl in
    ap (λ (ks : List ℕ). count 2 (0 ∷ (indexes layout target ++ file_holders target ks))) none ∙ ap (λ (is : List ℕ). count 2 (0 ∷ (is ++ []))) root

not_copying : (layout : Layout) (pack : Packer) → Copying layout pack → Demand3 layout pack → ⊥
unfolding Copying
not_copying layout pack copies is =
    let laid = is.laid remnant remnant (remnant_packable layout) in
    let free = second_free layout (pack remnant remnant).target laid in
    let large = (remnant_packable layout).sound.size.0 in
    let filled = laid.free 2 (omega (arith, large, laid.size)) free in
    let copied = copies remnant remnant 2 ((is.done remnant remnant).1 (remnant_packable layout)) (omega (arith, large)) free in
    let byte = ap (λ (s : List ℕ). byte_at s 0) (sym copied ∙ filled) in
    omega (arith, byte, (volumes layout).remains)

not_identity : (layout : Layout) (pack : Packer) → Identity pack → Demand3 layout pack → ⊥
unfolding Identity Copying
not_identity layout pack same is = not_copying layout pack (λ source target k done inside free. ap (λ (image : List ℕ). sector_of image k) (same source target done)) is

not_constant : (layout : Layout) (pack : Packer) → Constant pack → Demand3 layout pack → ⊥
unfolding Constant
not_constant layout pack same is =
    let can = remnant_packable layout in
    let can' = renamed_packable layout in
    let one = same remnant renamed remnant renamed ((is.done remnant remnant).1 can) ((is.done renamed renamed).1 can') in
    let label = ((is.form remnant renamed remnant renamed can can').0 one).0 in
    omega (arith, (volumes layout).names, ap (λ (l : List ℕ). byte_at l 0) label)

-- a volume of four sectors with one directory, whose index is in the last of them
unfoldable apart : List ℕ
apart = splice (splice (splice (formatted 4 disk_x geometry) 20 (disk_x ++ (0 ∷ (3 ∷ [])))) 56 (0xFB ∷ [])) 768 (replicate 256 0)

record Volume (layout : Layout) : Type 0 where
  judged : verdict layout apart ≡ 0
  last : indexes layout apart ≡ 1 ∷ (3 ∷ [])

volume : (marks : Bool) → Volume (record { marks = marks; directories = true })
unfolding apart over splice all_are same sector_of name_byte padded name_rule precedes label_rule map_bit count taken bits_rule map_rule byte_of bytes_of map_of numbers range_rule index_rule entries entry_name is_absent is_named entry_rule entries_rule directories present indexes every files_in files_of file_holders holders size_rule descriptors_rule held_twice volume_tests verdict first_of new_label formatted
volume marks = record { judged = refl; last = refl }

not_keeping : (layout : Layout) → layout.directories ≡ true → (pack : Packer) → Keeping layout pack → Demand3 layout pack → ⊥
unfolding Keeping run
not_keeping layout second pack keeps is =
    let there : Volume layout = subst (λ (t : Bool). Volume (record { marks = layout.marks; directories = t })) (sym second) (volume layout.marks) in
    let can : Packable layout apart apart = record { sound = sound layout apart there.judged; long = refl } in
    let laid = is.laid apart apart can in
    let kept = indexes_kept layout apart (pack apart apart).target (keeps apart apart ((is.done apart apart).1 can)) in
    let moved : 1 ∷ (3 ∷ []) ≡ run 1 2 = sym there.last ∙ sym kept ∙ laid.indexed ∙ ap (λ (ks : List ℕ). run 1 (length ks)) there.last in
    omega (arith, ap (λ (ks : List ℕ). get_or ks 1 0) moved)

pub wrong_packing : (layout : Layout) → WrongPacking layout
wrong_packing layout =
    record { not_identity = not_identity layout; not_constant = not_constant layout; not_copying = not_copying layout; not_showing = not_showing layout; not_keeping = not_keeping layout }

-- The packed image of a sound volume is sound, is laid down as the paper says, and has the label area and the catalogues of its original.
use mathlib.Core.Path.{◌≡◌, refl, sym, ap, ◌∙◌}
use mathlib.Core.Logic.{◌↔◌}
use mathlib.Core.List.{List, [], ◌∷◌, ◌++◌, map, append_assoc}
use Prim.Native.Nat.{ℕ, zero, suc, ◌+◌, ◌-◌, ◌*◌, ◌/◌, ◌≤◌, ◌<◌}
use native.Mathlib.Omega.{arith}
use native.Mathlib.Decide.{dec_lt}
use lib.ListN.{length, take, get_or, replicate, length-append, length-replicate, length-map, get_or-append}
use lib.Seq.{take_at, drop_at, take_all}
use Rattle.rules.specs.Bytes.{byte_at, part}
use Rattle.rules.specs.Sectors.{sector_of, sector_count}
use Rattle.rules.specs.Name.{Before}
use Rattle.rules.specs.Label.{IsLabel}
use Rattle.rules.specs.Map.{map_bit, count, taken, map_of}
use Rattle.rules.specs.Chain.{run}
use Rattle.rules.specs.Descriptor.{chain_of, file_kind, IsDescriptor}
use Rattle.rules.specs.Index.{index_of}
use Rattle.rules.specs.Directory.{entries, entry_index}
use Rattle.rules.specs.Volume.{File, directories, index_at, present, indexes, files_in, files_of, name_in, places_in, file_holders, holders, header_in, contents_in, file_in, catalogue, catalogues}
use Rattle.rules.specs.Sound.{SoundIndex, Sound}
use Rattle.rules.specs.Calls.Pack.{with_indexes, label_area, packed_label, packed_descriptor, packed_descriptors, packed_data, data_sectors, together, packed_indexes, packed_sectors, packed}
use Rattle.rules.specs.declared.Layout.{Layout}
use Rattle.rules.proofs.Bytes.{part_at}
use Rattle.rules.proofs.Sectors.{sector_length}
use Rattle.rules.proofs.Map.{count_here, count_more, count_at, counted_all, count_append, taken_below, taken_past, map_of_bits, map_same}
use Rattle.rules.proofs.Chain.{run_length, run_at, run_counts, run_once}
use Rattle.rules.proofs.Volume.{places_count, get_mapped}
use Rattle.rules.proofs.Formatted.{map_length}
use Rattle.rules.proofs.Indexes.{files_range, present_there}
use Rattle.rules.proofs.Indexed.{index_is_index}
use Rattle.rules.proofs.Pack.{part_alike, with_length, with_below, entries_alike, numbered_from, numbered_zero, numbered_present, label_length, label_byte, new_numbers, packed_indexes_lem, packed_entries, descriptors_length, data_length, indexes_length, file_whole, all_together, all_sectors, used_inside}
use Rattle.demands.specs.Catalogue.{file_name, no_file}
use Rattle.demands.specs.Packing.{all_files, places_of, OneBlock, Packs}
use Rattle.demands.proofs.Filed.{file_name_lem}
use Rattle.demands.proofs.PackedSectors.{count_runs, sector_behind, IsListed, Each, each_whole, Laid, laid, laid_files, laid_each, laid_data, laid_holders, filled_behind, packed_block, packed_descriptor_lem, Indexed, indexed, Few, Every, index_files, indexed_files, indexed_catalogues, indexed_each}

-- A file of a sound volume, as its catalogue lists it.
module _ (layout : Layout) (n : ℕ) (image : List ℕ) (whole : length image ≡ 256 * n) where
  is_listed : (k : ℕ) → k < n → IsDescriptor layout n (sector_of image k) → IsListed layout (file_in image k)
  unfolding file_in header_in contents_in name_in file_kind
  is_listed k inside is =
      let d = sector_of image k in
      let long = sector_length image k (omega arith) in
      let byte : (i : ℕ) → i < 28 → byte_at (part d 0 28) i ≡ byte_at d i = λ i h. part_at d 0 28 i h ∙ ap (byte_at d) (omega arith) in
      record {
        whole = file_whole n image whole layout k inside is;
        name = rw (file_name_lem image k) is.name;
        status = rw (byte 12 (omega arith)) is.status;
        kind = rw (byte 12 (omega arith), byte 14 (omega arith), byte 15 (omega arith), byte 16 (omega arith), byte 17 (omega arith)) is.kind;
        sectors = rw (byte 14 (omega arith), byte 15 (omega arith), length-map (places_in image k) (sector_of image)) (sym (places_count layout n image k is));
      }

  each_listed : (ks : List ℕ) → ((p : ℕ) → p < length ks → get_or ks p 0 < n) → ((p : ℕ) → p < length ks → IsDescriptor layout n (sector_of image (get_or ks p 0)))
      → Each layout (map (file_in image) ks)
  unfolding Each
  each_listed [] inside is = tt
  each_listed (k ∷ ks) inside is =
      (is_listed k (inside 0 (omega arith)) (is 0 (omega arith)), each_listed ks (λ p h. inside (suc p) (omega arith)) (λ p h. is (suc p) (omega arith)))

-- files in the order of their names, as a catalogue lists them
unfoldable pub Ordered : List File → Type 0
Ordered files = (p q : ℕ) → p < q → q < length files → Before (file_name (get_or files p no_file)) (file_name (get_or files q no_file))

-- the name of a file at a place of a catalogue
name_at : (image ks : List ℕ) (p : ℕ) → p < length ks → file_name (get_or (map (file_in image) ks) p no_file) ≡ name_in image (get_or ks p 0)
name_at image ks p h = ap file_name (get_mapped (file_in image) ks p 0 no_file h) ∙ file_name_lem image (get_or ks p 0)

-- the catalogues of sound indexes are such, and short
module _ (layout : Layout) (image : List ℕ) where
  catalogue_ordered : (i : ℕ) → SoundIndex layout image i → Ordered (catalogue image i)
  unfolding Ordered catalogue
  catalogue_ordered i is p q low h =
      let ks = files_in image i in
      let inside : q < length ks = omega (arith, h, length-map ks (file_in image)) in
      rw (name_at image ks p (omega arith), name_at image ks q inside) (is.ascending p q low inside)

  catalogues_few : (is : List ℕ) → ((i : ℕ) → 1 ≤ count i is → SoundIndex layout image i) → Few (map (catalogue image) is)
  unfolding Few catalogue files_in
  catalogues_few [] each = tt
  catalogues_few (i ∷ is) each =
      (omega (arith, length-map (files_in image i) (file_in image), (each i (omega (arith, count_here i is))).index.few), catalogues_few is (λ j h. each j (omega (arith, h, count_more j i is))))

  catalogues_ordered : (is : List ℕ) → ((i : ℕ) → 1 ≤ count i is → SoundIndex layout image i) → Every Ordered (map (catalogue image) is)
  unfolding Every
  catalogues_ordered [] each = tt
  catalogues_ordered (i ∷ is) each = (catalogue_ordered i (each i (omega (arith, count_here i is))), catalogues_ordered is (λ j h. each j (omega (arith, h, count_more j i is))))

-- the sectors from 0 on: sector 0, the indexes, the descriptors and the data
run_held : (k m f many : ℕ) → count k (run 0 (1 + m + f + many)) ≡ count k (0 ∷ run 1 m) + (count k (run (1 + m) f) + count k (run (1 + m + f) many))
unfolding run
run_held k m f many =
    let z : 0 + (1 + m + f) ≡ 1 + m + f = omega arith in
    let y : 0 + (1 + m) ≡ 1 + m = omega arith in
    let stored = rw z at (count_runs k 0 (1 + m + f) many) in
    let described = rw y at (count_runs k 0 (1 + m) f) in
    let system : count k (run 0 (1 + m)) ≡ count k (0 ∷ []) + count k (run 1 m) = count_runs k 0 1 m in
    omega (arith, stored, described, system, count_append k (0 ∷ []) (run 1 m))

-- What is laid end to end, behind what.
module _ (image a b c d e f : List ℕ) (is : image ≡ a ++ (b ++ (c ++ (d ++ (e ++ f))))) where
  behind_two : image ≡ (a ++ b) ++ (c ++ (d ++ (e ++ f)))
  behind_two = is ∙ sym (append_assoc a b (c ++ (d ++ (e ++ f))))

  behind_three : image ≡ ((a ++ b) ++ c) ++ (d ++ (e ++ f))
  behind_three = behind_two ∙ sym (append_assoc (a ++ b) c (d ++ (e ++ f)))

  behind_four : image ≡ (((a ++ b) ++ c) ++ d) ++ (e ++ f)
  behind_four = behind_three ∙ sym (append_assoc ((a ++ b) ++ c) d (e ++ f))

  behind_five : image ≡ ((((a ++ b) ++ c) ++ d) ++ e) ++ f
  behind_five = behind_four ∙ sym (append_assoc (((a ++ b) ++ c) ++ d) e f)

-- What is to be packed to n sectors: a label of 56 bytes, the root's catalogue and those of directories, each in order and of at most 127 files, that together hold no more than that.
pub record Room (layout : Layout) (n : ℕ) (label : List ℕ) (all : List (List File)) : Type 0 where
  pub size : length (packed_label layout label) ≡ 56
  pub each : Each layout (together all)
  pub some : 1 ≤ length all
  pub few : Few all
  pub ordered : Every Ordered all
  pub fits : packed_sectors all ≤ n
  pub small : n ≤ 1600

module _ {layout : Layout} {n : ℕ} {label : List ℕ} {all : List (List File)} (room : Room layout n label all) where
  abbrev image : List ℕ
  image = packed layout n label all

  abbrev top : List ℕ
  top = packed_label layout label

  abbrev listed : List File
  listed = together all

  abbrev first : ℕ
  first = 1 + length all

  abbrev behind : ℕ
  behind = 1 + length all + length (together all)

  abbrev used : ℕ
  used = packed_sectors all

  abbrev mapping : List ℕ
  mapping = map_of n (run 0 used)

  abbrev indexing : List ℕ
  indexing = packed_indexes first all

  abbrev described : List ℕ
  described = packed_descriptors behind listed

  abbrev stored : List ℕ
  stored = packed_data listed

  abbrev unused : List ℕ
  unused = replicate (256 * (n - used)) 0xE5

  parts : image ≡ top ++ (mapping ++ (indexing ++ (described ++ (stored ++ unused))))
  unfolding packed
  parts = refl

  front_length : length (top ++ mapping) ≡ 256
  front_length = length-append top mapping ∙ omega (arith, room.size, map_length n (run 0 used))

  system_length : length ((top ++ mapping) ++ indexing) ≡ 256 * first
  system_length = length-append (top ++ mapping) indexing ∙ omega (arith, front_length, indexes_length first all)

  described_length : length (((top ++ mapping) ++ indexing) ++ described) ≡ 256 * behind
  described_length = length-append ((top ++ mapping) ++ indexing) described ∙ omega (arith, system_length, descriptors_length behind listed (each_whole layout listed room.each))

  held_length : length ((((top ++ mapping) ++ indexing) ++ described) ++ stored) ≡ 256 * used
  unfolding packed_sectors
  held_length = length-append (((top ++ mapping) ++ indexing) ++ described) stored ∙ omega (arith, described_length, data_length listed (each_whole layout listed room.each))

  packed_size : length image ≡ 256 * n
  packed_size =
      ap length (behind_five image top mapping indexing described stored unused parts)
      ∙ length-append ((((top ++ mapping) ++ indexing) ++ described) ++ stored) unused
      ∙ omega (arith, held_length, room.fits, length-replicate {A = ℕ} (256 * (n - used)) 0xE5)

  sector0 : sector_of image 0 ≡ top ++ mapping
  sector0 =
      sector_behind image [] (top ++ mapping) (indexing ++ (described ++ (stored ++ unused))) 0
      (behind_two image top mapping indexing described stored unused parts) refl front_length

  indexes_laid : Indexed image 1 first all
  indexes_laid =
      indexed image (top ++ mapping) (described ++ (stored ++ unused)) 1 first all (behind_two image top mapping indexing described stored unused parts) front_length

  files_laid : Laid image first behind listed
  files_laid =
      laid layout image ((top ++ mapping) ++ indexing) (stored ++ unused) (((top ++ mapping) ++ indexing) ++ described) unused first behind listed
      (behind_three image top mapping indexing described stored unused parts)
      (behind_four image top mapping indexing described stored unused parts)
      system_length described_length room.each

  data_fits : behind + data_sectors listed ≤ n
  unfolding packed_sectors
  data_fits = omega (arith, room.fits)

  -- the files, and the catalogues
  packed_files : files_of image (run 1 (length all)) ≡ run first (length listed)
  packed_files = indexed_files image 1 first all (omega arith) room.few indexes_laid

  laid_again : map (file_in image) (run first (length listed)) ≡ listed
  laid_again = laid_files layout n image room.small first behind listed room.each (omega arith) data_fits files_laid

  packed_catalogues : map (catalogue image) (run 1 (length all)) ≡ all
  packed_catalogues = indexed_catalogues image 1 first all (omega arith) room.few indexes_laid laid_again

  -- each descriptor keeps its rules, and has one block
  packed_each : (P : List ℕ → Type 0) → ((s : ℕ) (file : File) → IsListed layout file → 2 ≤ s → s + length file.contents ≤ n → P (packed_descriptor s file))
      → (k : ℕ) → 1 ≤ count k (run first (length listed)) → P (sector_of image k)
  packed_each P holds =
      counted_all (λ (k : ℕ). P (sector_of image k)) (run first (length listed))
      (λ p h.
      let inside : p < length listed = omega (arith, h, run_length first (length listed)) in
      rw (run_at first (length listed) p inside) (laid_each layout n image room.small P holds first behind listed room.each (omega arith) data_fits files_laid p inside))

  packed_descriptors_lem : (k : ℕ) → 1 ≤ count k (run first (length listed)) → IsDescriptor layout n (sector_of image k)
  packed_descriptors_lem = packed_each (IsDescriptor layout n) (λ s file is low high. packed_descriptor_lem layout n s file is room.small low high)

  packed_blocks : (k : ℕ) → 1 ≤ count k (run first (length listed)) → OneBlock (chain_of (sector_of image k))
  packed_blocks = packed_each (λ (d : List ℕ). OneBlock (chain_of d)) (λ s file is low high. packed_block layout n s file is room.small low high)

  -- each index has its numbers and zeros behind them, and keeps its rules where its catalogue is in order
  packed_index : (i : ℕ) → 1 ≤ count i (run 1 (length all)) → sector_of image i ≡ index_of (files_in image i)
  packed_index =
      indexed_each image (λ (i : ℕ). sector_of image i ≡ index_of (files_in image i)) Ordered first behind
      (λ i s files order short low high is e. rw (index_files image i s (length files) (omega (arith, low)) short is) is)
      1 first all (omega arith) (omega arith) room.few room.ordered indexes_laid laid_again

  same_count : sector_count image ≡ n
  same_count = omega (arith, packed_size)

  packed_sound_index : (i : ℕ) → 1 ≤ count i (run 1 (length all)) → SoundIndex layout image i
  unfolding Ordered
  packed_sound_index = indexed_each image (SoundIndex layout image) Ordered first behind sound 1 first all (omega arith) (omega arith) room.few room.ordered indexes_laid laid_again
    where
      sound : (i s : ℕ) (files : List File) → Ordered files → length files ≤ 127 → first ≤ s → s + length files ≤ behind → sector_of image i ≡ index_of (run s (length files))
          → map (file_in image) (run s (length files)) ≡ files → SoundIndex layout image i
      sound i s files order short low high is e =
          let ks = run s (length files) in
          let long = run_length s (length files) in
          let are = index_files image i s (length files) (omega (arith, low)) short is in
          let at : (p : ℕ) → p < length ks → get_or ks p 0 ≡ s + p = λ p h. run_at s (length files) p (omega (arith, h, long)) in
          let among : (p : ℕ) → p < length ks → 1 ≤ count (get_or ks p 0) (run first (length listed)) =
          λ p h. run_counts (get_or ks p 0) first (length listed) (omega (arith, at p h, low)) (omega (arith, at p h, h, long, high))
          in
          record {
            index = rw (same_count, is) (index_is_index n ks (λ p h. (omega (arith, at p h, low, room.some), omega (arith, at p h, h, long, high, data_fits))) (omega (arith, short, long)));
            descriptors = rw (are, same_count) (λ p h. packed_descriptors_lem (get_or ks p 0) (among p h));
            ascending = rw are (λ p q less h. rw (← name_at image ks p (omega arith), ← name_at image ks q h, e) (order p q less (omega (arith, h, long))));
          }

  -- the data follows the descriptors
  packed_data_lem : places_of image (run first (length listed)) ≡ run behind (length (places_of image (run first (length listed))))
  packed_data_lem =
      let e = laid_data layout n image room.small first behind listed room.each (omega arith) data_fits files_laid in
      rw e (ap (run behind) (sym (run_length behind (data_sectors listed))))

  -- the holders are the sectors from 0 on, each once
  abbrev held : List ℕ
  held = 0 ∷ (run 1 (length all) ++ file_holders image (run first (length listed)))

  packed_holders : (k : ℕ) → count k held ≡ count k (run 0 used)
  unfolding packed_sectors
  packed_holders k =
      let system = count_append k (0 ∷ run 1 (length all)) (file_holders image (run first (length listed))) in
      let files = laid_holders layout n image room.small k first behind listed room.each (omega arith) data_fits files_laid in
      omega (arith, system, files, run_held k (length all) (length listed) (data_sectors listed))

  packed_single : (k : ℕ) → count k held ≤ 1
  packed_single k = rw (packed_holders k) (run_once k 0 used)

  packed_map : part (sector_of image 0) 56 200 ≡ map_of n held
  packed_map =
      rw sector0 (ap (take 200) (drop_at top mapping 56 room.size) ∙ take_all 200 mapping (omega (arith, map_length n (run 0 used))))
      ∙ sym (map_same n (run 0 used) held packed_holders)

  packed_bits : (k : ℕ) → k < 1600 → map_bit (sector_of image 0) k ≡ taken n held k
  packed_bits = map_of_bits n held (sector_of image 0) packed_single packed_map

  -- and what they do not hold is filled
  packed_free : (k : ℕ) → k < n → count k held ≡ 0 → sector_of image k ≡ replicate 256 0xE5
  packed_free k inside none =
      elim (dec_lt k used) [
        | yes under ↦ absurd (omega (arith, none, packed_holders k, run_counts k 0 used (omega arith) (omega arith)))
        | no past ↦
            filled_behind image ((((top ++ mapping) ++ indexing) ++ described) ++ stored) 0xE5 used (n - used) k
            (behind_five image top mapping indexing described stored unused parts) held_length (omega arith) (omega (arith, inside, room.fits))
      ]

  -- the bytes of the label
  packed_top : part (sector_of image 0) 0 56 ≡ top
  packed_top = rw sector0 (take_at top mapping 56 room.size)

  packed_byte : (i : ℕ) → i < 56 → byte_at (sector_of image 0) i ≡ byte_at top i
  packed_byte i h = rw sector0 (get_or-append top mapping 0 i (omega arith))

-- The packed image of a sound source.
abbrev pub packed_image : Layout → List ℕ → List ℕ
packed_image layout source = packed layout (sector_count source) (label_area layout source) (catalogues layout source)

module _ (layout : Layout) (source : List ℕ) (is : Sound layout source) where
  abbrev n : ℕ
  n = sector_count source

  abbrev all : List (List File)
  all = catalogues layout source

  abbrev after : List ℕ
  after = packed_image layout source

  label_long : length (packed_label layout (label_area layout source)) ≡ 56
  unfolding packed_label
  label_long = with_length (label_area layout source) 30 _ ∙ label_length layout source is

  source_listed : Each layout (together all)
  source_listed =
      let ks = all_files layout source in
      let rules = files_range layout source (indexes layout source) is.each in
      rw (all_together layout source) (each_listed layout n source is.whole ks (λ p h. (rules (get_or ks p 0) (count_at ks p h)).1) (λ p h. (rules (get_or ks p 0) (count_at ks p h)).2))

  source_indexes : length all ≡ length (indexes layout source)
  unfolding catalogues
  source_indexes = length-map (indexes layout source) (catalogue source)

  source_files : length (together all) ≡ length (all_files layout source)
  source_files = ap length (all_together layout source) ∙ length-map (all_files layout source) (file_in source)

  -- the root's index is there, and behind it those that the entries have
  abbrev old : List ℕ
  old = map entry_index (entries layout (sector_of source 0))

  present_all : indexes layout source ≡ 1 ∷ present old
  unfolding indexes directories
  present_all = present_there 1 old (λ e. omega arith)

  source_some : 1 ≤ length all
  source_some = omega (arith, source_indexes, ap length present_all)

  source_few : Few all
  unfolding catalogues
  source_few = catalogues_few layout source (indexes layout source) is.each

  source_ordered : Every Ordered all
  unfolding catalogues
  source_ordered = catalogues_ordered layout source (indexes layout source) is.each

  source_fits : packed_sectors all ≤ n
  source_fits = used_inside layout source is

  room_there : Room layout n (label_area layout source) all
  room_there =
      record { size = label_long; each = source_listed; some = source_some; few = source_few; ordered = source_ordered; fits = source_fits; small = is.size.1 }

  same_size : length after ≡ length source
  same_size = packed_size room_there ∙ sym is.whole

  -- its entries are those of the new label
  same_entries : entries layout (sector_of after 0) ≡ entries layout (packed_label layout (label_area layout source))
  same_entries =
      entries_alike layout (sector_of after 0) (packed_label layout (label_area layout source))
      (omega (arith, sector_length after 0 (omega (arith, same_size, is.whole, is.size)))) (omega (arith, label_long))
      (packed_byte room_there)

  new_indexes_lem : map entry_index (entries layout (sector_of after 0)) ≡ numbered_from 2 old
  new_indexes_lem = rw same_entries (packed_indexes_lem layout source is)

  same_indexes : indexes layout after ≡ run 1 (length all)
  unfolding indexes directories run
  same_indexes =
      present_there 1 (map entry_index (entries layout (sector_of after 0))) (λ e. omega arith)
      ∙ ap (λ (l : List ℕ). 1 ∷ l) (ap present new_indexes_lem ∙ numbered_present 2 old (omega arith))
      ∙ ap (run 1) (sym (source_indexes ∙ ap length present_all))

  same_files : all_files layout after ≡ run (1 + length all) (length (together all))
  same_files = ap (files_of after) same_indexes ∙ packed_files room_there

  same_catalogues : catalogues layout after ≡ all
  unfolding catalogues
  same_catalogues = ap (map (catalogue after)) same_indexes ∙ packed_catalogues room_there

  same_holders : holders layout after ≡ held room_there
  unfolding holders
  same_holders = rw (same_indexes, packed_files room_there)

  -- bytes before the entries
  byte_kept : (i : ℕ) → i < 20 → byte_at (sector_of after 0) i ≡ byte_at (sector_of source 0) i
  unfolding packed_label
  byte_kept i h =
      packed_byte room_there i (omega arith)
      ∙ with_below (label_area layout source) 30 _ i (omega arith) ∙ label_byte layout source is i (omega arith)

  label_kept : IsLabel n (sector_of after 0)
  label_kept =
      let long : length (sector_of source 0) ≡ 256 = sector_length source 0 (omega (arith, is.whole, is.size)) in
      let long' : length (sector_of after 0) ≡ 256 = sector_length after 0 (omega (arith, same_size, is.whole, is.size)) in
      let name = part_alike (sector_of after 0) (sector_of source 0) 0 0 10 (omega arith) (omega arith) (λ i h. let z : 0 + i ≡ i = omega arith in rw z (byte_kept i (omega arith))) in
      record {
        name = rw name is.label.name;
        count = rw (byte_kept 10 (omega arith), byte_kept 11 (omega arith)) is.label.count;
        dsk = rw (byte_kept 13 (omega arith), byte_kept 14 (omega arith), byte_kept 15 (omega arith)) is.label.dsk;
      }

  count_kept : sector_count after ≡ n
  count_kept = ap (λ (m : ℕ). m / 256) same_size

  pub packed_sound : Sound layout after
  packed_sound =
      record {
        whole = same_size ∙ is.whole ∙ ap (λ (m : ℕ). 256 * m) (sym count_kept);
        size = rw count_kept is.size;
        label = rw count_kept label_kept;
        entered = rw (count_kept, same_entries) (packed_entries layout source is (omega (arith, source_fits, all_sectors layout source, ap length present_all)));
        each = λ i there. packed_sound_index room_there i (rw same_indexes at there);
        single = rw same_holders (packed_single room_there);
        marked = rw (count_kept, same_holders)
            (λ k h.
            packed_bits room_there k (omega (arith, h, is.size))
            ∙ taken_below n _ k h);
        filled = rw count_kept
            (λ k h low.
            packed_bits room_there k low ∙ taken_past n _ k h);
      }

  -- and it is laid down as the paper says
  label_laid : part (sector_of after 0) 0 56 ≡ with_indexes (label_area layout source) 30 (map entry_index (entries layout (sector_of after 0)))
  unfolding packed_label
  label_laid = packed_top room_there ∙ ap (with_indexes (label_area layout source) 30) (new_numbers layout source is ∙ sym new_indexes_lem)

  same_directories : (directory : ℕ) → (index_at layout after directory ≡ 0) ↔ (index_at layout source directory ≡ 0)
  unfolding index_at directories
  same_directories zero = ((λ e. absurd (omega (arith, e))), (λ e. absurd (omega (arith, e))))
  same_directories (suc d) = rw new_indexes_lem (numbered_zero 2 old d (omega arith))

  pub laid_packs : Packs layout source after
  laid_packs =
      record {
        size = same_size;
        label = label_laid;
        map = rw (count_kept, same_holders) (packed_map room_there);
        indexed = same_indexes ∙ ap (run 1) source_indexes;
        entered = same_directories;
        files = rw (← source_indexes, ← source_files) same_files;
        index = λ i there. packed_index room_there i (rw same_indexes at there);
        listed = same_catalogues;
        gapless = rw (same_files, ← source_indexes, ← source_files) (packed_data_lem room_there);
        chains = rw same_files (packed_blocks room_there);
        free = rw (count_kept, same_holders) (packed_free room_there);
      }

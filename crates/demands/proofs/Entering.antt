-- A new file entered into a sound volume, create's and store's alike: its data, its descriptor, sector 0 and the index are written. None goes and this one comes; the sectors that it takes were
-- free, so nothing else was in them.
use mathlib.Core.Path.{◌≡◌, refl, ap, ◌∙◌}
use mathlib.Core.List.{List, [], ◌∷◌, ◌++◌, map}
use Prim.Native.Nat.{ℕ, ◌+◌, ◌≤◌, ◌<◌, ◌*◌}
use native.Mathlib.Omega.{arith}
use lib.ListN.{length, drop, replicate}
use Rattle.rules.specs.Bytes.{part, over, splice}
use Rattle.rules.specs.Sectors.{sector_of, sector_count, written, Write, sectors_in, Whole}
use Rattle.rules.specs.Map.{count, marked_all}
use Rattle.rules.specs.Chain.{places_from, places, extended_all, Linked, chain_with}
use Rattle.rules.specs.Kind.{allowed_bits, kind_of, IsStatus, IsKind}
use Rattle.rules.specs.Descriptor.{name_of, chain_of, IsDescriptor}
use Rattle.rules.specs.Volume.{File, files_in, name_in, places_in, holders, header_in, contents_in, file_in, catalogue, placed}
use Rattle.rules.specs.Sound.{Sound}
use Rattle.rules.specs.Calls.Create.{entered}
use Rattle.rules.specs.Calls.Store.{data_writes}
use Rattle.rules.specs.Index.{index_of}
use Rattle.rules.specs.Outcome.{write}
use Rattle.rules.specs.declared.Layout.{Layout}
use Rattle.rules.specs.declared.Block.{Block}
use Rattle.rules.proofs.Opening.{IsAbsent, unfound}
use Rattle.rules.proofs.Name.{name_is}
use Rattle.rules.proofs.Map.{count_none, count_here, count_more, count_apart}
use Rattle.rules.proofs.Marking.{all_length}
use Rattle.rules.proofs.Extended.{extended_all_linked, extended_all_places}
use Rattle.rules.proofs.Choice.{Chosen}
use Rattle.rules.proofs.Indexed.{placed-length, index_length}
use Rattle.rules.proofs.Listed.{label_long, sector_inside, index_low, besides_apart}
use Rattle.rules.proofs.Replaced.{none, at, besides, all_parted, Replaced, taken_once, index_anew, taken_mapped}
use Rattle.rules.proofs.Splice.{splice-length}
use Rattle.rules.proofs.Written.{sector_same, Apart, written-length, written_both, written_apart, written_at, piece_length, data_whole, data_apart, whole_both}
use Rattle.rules.proofs.Through.{data_order}
use Rattle.demands.specs.Catalogue.{put_in}
use Rattle.demands.specs.Effects.{effect, Done, new_header, pieces}
use Rattle.demands.specs.Taking.{ForDescriptor, Takes}
use Rattle.demands.specs.Touches.{Enters}
use Rattle.demands.proofs.Replacing.{catalogue-after, replaced_done, numbers_after, lies_after}
use Rattle.demands.proofs.NewFile.{descriptor_with, made_length, made_header, made_name, made_chain, made_places, made_rules}

-- the data, read of an image in which they still stand
data_read : (image after bytes ks : List ℕ) → ((j : ℕ) → count j ks ≤ 1) → ((j : ℕ) → 1 ≤ count j ks → 256 * j + 256 ≤ length image)
    → ((j : ℕ) → 1 ≤ count j ks → sector_of after j ≡ sector_of (written image (data_writes bytes ks)) j) → map (sector_of after) ks ≡ pieces (length ks) bytes
unfolding written data_writes pieces
data_read image after bytes [] once inside still = refl
data_read image after bytes (k ∷ ks) once inside still =
    let piece = over (replicate 256 0) bytes in
    let laid = splice image (256 * k) piece in
    let size = splice-length image (256 * k) piece in
    let here = inside k (omega (arith, count_here k ks)) in
    let later : (j : ℕ) → 1 ≤ count j ks → 256 * j + 256 ≤ length laid = λ j h. rw size (inside j (omega (arith, h, count_more j k ks))) in
    let first =
    still k (omega (arith, count_here k ks))
    ∙ written_apart laid (data_writes (drop 256 bytes) ks) k (data_whole (length laid) (drop 256 bytes) ks later) (data_apart (drop 256 bytes) ks k (omega (arith, once k, count_here k ks)))
    ∙ sector_same image k piece (piece_length bytes) here
    in
    let more =
    data_read laid after (drop 256 bytes) ks (λ j. omega (arith, once j, count_more j k ks)) later (λ j h. still j (omega (arith, h, count_more j k ks)))
    in
    rw (first, more)

-- What is known of the new file: its name is not there, there is a place for it, its sectors were free, and its descriptor, in sector k, keeps the rules and names ks.
module _ (layout : Layout) (image : List ℕ) (i : ℕ) (name bytes : List ℕ) (k : ℕ) (ks descriptor : List ℕ) (absent : IsAbsent layout image name i) (few : length (files_in image i) < 127)
    (once : (j : ℕ) → count j (k ∷ ks) ≤ 1) (free : (j : ℕ) → 1 ≤ count j (k ∷ ks) → Chosen (sector_count image) (sector_of image 0) j)
    (long : length descriptor ≡ 256) (rules : IsDescriptor layout (sector_count image) descriptor) (named : name_of descriptor ≡ name) (places_are : places (chain_of descriptor) ≡ ks) where
  abbrev is : Sound layout image
  is = absent.whole

  abbrev laid : List ℕ
  laid = written image (data_writes bytes ks)

  abbrev first : Write
  first = write k descriptor

  abbrev second : Write
  second = write 0 (marked_all 1 (sector_of image 0) (k ∷ ks))

  abbrev third : Write
  third = write i (index_of (placed image name k (files_in image i)))

  abbrev after : List ℕ
  after = written laid (first ∷ (second ∷ (third ∷ [])))

  -- the writes are to sectors of the image, the last three to different ones
  inside : (j : ℕ) → 1 ≤ count j (k ∷ ks) → (2 ≤ j) × (256 * j + 256 ≤ length image)
  inside j some = let c = free j some in (c.from, sector_inside layout image is j c.inside)

  data_inside : (j : ℕ) → 1 ≤ count j ks → (2 ≤ j) × (256 * j + 256 ≤ length image)
  data_inside j h = inside j (omega (arith, h, count_more j k ks))

  high : 2 ≤ k
  high = (inside k (omega (arith, count_here k ks))).0

  size : length laid ≡ length image
  size = written-length image (data_writes bytes ks)

  -- the index is a sector of the volume and held, so it is none of those that are taken
  index_inside : (1 ≤ i) × (i < sector_count image)
  index_inside = index_low layout image is i absent.indexed

  held : (j : ℕ) → count j (0 ∷ (i ∷ besides layout image i none)) ≡ count j (holders layout image)
  held j = omega (arith, all_parted layout image i absent.indexed none tt j, count_none j)

  index_held : 1 ≤ count i (holders layout image)
  index_held = omega (arith, held i, count_more i 0 (i ∷ besides layout image i none), count_here i (besides layout image i none))

  held_other : (j : ℕ) → 1 ≤ count j (holders layout image) → count j (k ∷ ks) ≡ 0
  held_other j there = omega (arith, there, taken_once layout image (k ∷ ks) is once free j)

  index_other : k ≡ i → ⊥
  index_other e = omega (arith, rw (← e) at (held_other i index_held), count_here k ks)

  whole : Whole (length laid) (first ∷ (second ∷ (third ∷ [])))
  unfolding Whole
  whole =
      let fits = (inside k (omega (arith, count_here k ks))).1 in (
        long,
        omega (arith, fits, size),
        (
          all_length 1 (sector_of image 0) (k ∷ ks) ∙ label_long layout image is,
          omega (arith, fits, size),
          (index_length (placed image name k (files_in image i)), omega (arith, sector_inside layout image is i index_inside.1, size), tt),
        ),
      )

  all_whole : Whole (length image) (data_writes bytes ks ++ (first ∷ (second ∷ (third ∷ []))))
  all_whole = whole_both (length image) (data_writes bytes ks) (first ∷ (second ∷ (third ∷ []))) (data_whole (length image) bytes ks (λ j h. (data_inside j h).1)) (rw size at whole)

  descriptor_now : sector_of after k ≡ descriptor
  unfolding Apart
  descriptor_now = written_at laid [] first (second ∷ (third ∷ [])) whole ((λ e. omega (arith, e, high)), (index_other, tt))

  map_now : sector_of after 0 ≡ marked_all 1 (sector_of image 0) (k ∷ ks)
  unfolding Apart
  map_now = written_at laid (first ∷ []) second (third ∷ []) whole ((λ e. omega (arith, e, index_inside)), tt)

  index_now : sector_of after i ≡ index_of (placed image name k (files_in image i))
  unfolding Apart
  index_now = written_at laid (first ∷ (second ∷ [])) third [] whole tt

  laid_stands : (j : ℕ) → (j ≡ k → ⊥) → (j ≡ 0 → ⊥) → (j ≡ i → ⊥) → sector_of after j ≡ sector_of laid j
  unfolding Apart
  laid_stands j other some apart = written_apart laid (first ∷ (second ∷ (third ∷ []))) j whole (other, (some, (apart, tt)))

  data_now : map (sector_of after) ks ≡ pieces (length ks) bytes
  data_now =
      data_read image after bytes ks (λ j. omega (arith, once j, count_more j k ks)) (λ j h. (data_inside j h).1)
      (λ j h. laid_stands j (λ e. omega (arith, once k, count_here k ks, rw e at h)) (λ e. omega (arith, e, (data_inside j h).0)) (λ e. omega (arith, rw e at h, held_other i index_held, count_more i k ks)))

  -- a sector that is not taken stands as it stood
  free_stays : (j : ℕ) → (j ≡ 0 → ⊥) → (j ≡ i → ⊥) → count j (k ∷ ks) ≡ 0 → sector_of after j ≡ sector_of image j
  free_stays j some own other =
      let apart = count_apart j k ks other in
      laid_stands j apart.0 some own
      ∙ written_apart image (data_writes bytes ks) j (data_whole (length image) bytes ks (λ h some. (data_inside h some).1)) (data_apart bytes ks j apart.1)

  -- and one that is taken was nobody's, so what was held besides sector 0 and the index stands as it stood
  held_stays : (j : ℕ) → 1 ≤ count j (besides layout image i none) → sector_of after j ≡ sector_of image j
  held_stays j there =
      let apart = besides_apart layout image is i absent.indexed j there in
      free_stays j apart.0 apart.1 (held_other j (omega (arith, there, held j, count_more j i (besides layout image i none), count_more j 0 (i ∷ besides layout image i none))))

  places_now : places_in after k ≡ ks
  unfolding places_in
  places_now = ap (λ (d : List ℕ). places (chain_of d)) descriptor_now ∙ places_are

  replaced : Replaced layout image after i name none (at k)
  unfolding name_in
  replaced =
      let chosen = free k (omega (arith, count_here k ks)) in
      record {
        sound = is;
        indexed = absent.indexed;
        listed = tt;
        size = written-length laid (first ∷ (second ∷ (third ∷ []))) ∙ size;
        mapped = taken_mapped layout image after i none (at k) (k ∷ ks) is absent.indexed tt once free map_now (λ j. rw places_now (omega (arith, count_none j)));
        numbered =
            index_anew layout image after i name none (at k) is absent.indexed (λ j e. let z : k ≡ j = cc in rw (← z) (chosen.from, chosen.inside))
            (omega (arith, few, placed-length k image name (files_in image i))) index_now;
        stands = held_stays;
        new = record { rules = rw descriptor_now rules; named = ap name_of descriptor_now ∙ named; alone = unfound image i name absent.absent };
      }

  new_file : file_in after k ≡ record { header = part descriptor 0 28; contents = pieces (length ks) bytes }
  unfolding file_in header_in contents_in
  new_file = rw (descriptor_now, places_now, data_now)

  entered_done : Done layout image after i name (effect (put_in (record { header = part descriptor 0 28; contents = pieces (length ks) bytes }) (catalogue image i)) (1 + length ks) 0)
  entered_done =
      replaced_done layout replaced name tt _ (1 + length ks) 0
      (catalogue-after layout replaced name tt ∙ ap (λ (file : File). put_in file (catalogue image i)) new_file)
      (rw places_now (omega arith))

  -- it lies where the facts say, and nothing else is touched
  enters : ForDescriptor image k → (blocks : List Block) → Takes image (k ∷ []) [] [] ks blocks → chain_of descriptor ≡ chain_with blocks → Enters image after i name (length ks) (ks ++ (k ∷ (0 ∷ (i ∷ []))))
  enters chosen blocks takes chain =
      record {
        k = k;
        chosen = chosen;
        gains = record {
          taken = record { ks = ks; so_many = refl; chain = blocks; takes = takes };
          lies = lies_after layout replaced ks (chain_with blocks) places_now (ap chain_of descriptor_now ∙ chain);
          map = map_now;
          others = λ j low apart.
              let some = count_apart j 0 (i ∷ (k ∷ ks)) apart in
              let more = count_apart j i (k ∷ ks) some.1 in
              free_stays j some.0 more.0 more.1;
        };
        numbers = numbers_after layout replaced index_now;
        writes = refl;
      }

-- with the descriptor of a new file, its blocks those of ks
module _ (layout : Layout) (image : List ℕ) (i : ℕ) (name bytes : List ℕ) (k : ℕ) (ks : List ℕ) (status records_per_sector end_offset record_length : ℕ) (absent : IsAbsent layout image name i) (few : length (files_in image i) < 127)
    (once : (j : ℕ) → count j (k ∷ ks) ≤ 1) (free : (j : ℕ) → 1 ≤ count j (k ∷ ks) → Chosen (sector_count image) (sector_of image 0) j) (short : length (extended_all [] ks) ≤ 76)
    (many : length ks ≤ 4096) (is_status : IsStatus (allowed_bits layout) status) (kind : IsKind (kind_of status (length ks) end_offset record_length) (length ks) end_offset) where
  abbrev ten : length name ≡ 10
  ten = (name_is name absent.rule).ten

  abbrev header : List ℕ
  header = new_header name status records_per_sector (length ks) end_offset record_length

  abbrev made : List ℕ
  made = descriptor_with name status records_per_sector end_offset record_length ten (length ks) (extended_all [] ks)

  data_range : (j : ℕ) → 1 ≤ count j ks → (2 ≤ j) × (j < sector_count image)
  data_range j some = let c = free j (omega (arith, some, count_more j k ks)) in (c.from, c.inside)

  ks_linked : Linked (sector_count image) (length ks) 0 (extended_all [] ks)
  unfolding Linked
  ks_linked = let z : 0 + length ks ≡ length ks = omega arith in rw z at (extended_all_linked (sector_count image) ks data_range 0 [] refl)

  ks_places : places_from 0 (extended_all [] ks) ≡ ks
  unfolding Linked places_from
  ks_places = extended_all_places (sector_count image) ks data_range 0 [] refl

  pub new_file_done : (descriptor : List ℕ) → descriptor ≡ header ++ chain_with (extended_all [] ks) → ForDescriptor image k → Takes image (k ∷ []) [] [] ks (extended_all [] ks)
      →
      let after = written image (data_writes bytes ks ++ entered image i name k descriptor (marked_all 1 (sector_of image 0) (k ∷ ks))) in
      Done layout image after i name (effect (put_in (record { header = header; contents = pieces (length ks) bytes }) (catalogue image i)) (1 + length ks) 0)
      × Enters image after i name (length ks) (sectors_in (data_writes bytes ks ++ entered image i name k descriptor (marked_all 1 (sector_of image 0) (k ∷ ks))))
      × Whole (length image) (data_writes bytes ks ++ entered image i name k descriptor (marked_all 1 (sector_of image 0) (k ∷ ks)))
  unfolding entered sectors_in
  new_file_done descriptor e chosen takes =
      let c = length ks in
      let bs = extended_all [] ks in
      let small : sector_count image ≤ 4096 = omega (arith, absent.whole.size) in
      let long = made_length name status records_per_sector end_offset record_length ten c bs in
      let rules = made_rules name status records_per_sector end_offset record_length ten c bs (sector_count image) small many short ks_linked layout absent.rule is_status kind in
      let named = made_name name status records_per_sector end_offset record_length ten c bs in
      let places_are = made_places name status records_per_sector end_offset record_length ten c bs (sector_count image) small many short ks_linked ∙ ks_places in
      let done = entered_done layout image i name bytes k ks made absent few once free long rules named places_are in
      rw (e, data_order bytes ks _, ← written_both image (data_writes bytes ks) _) (
        rw (made_header name status records_per_sector end_offset record_length ten c bs) at done,
        enters layout image i name bytes k ks made absent few once free long rules named places_are chosen bs takes (made_chain name status records_per_sector end_offset record_length ten c bs),
        all_whole layout image i name bytes k ks made absent few once free long rules named places_are,
      )

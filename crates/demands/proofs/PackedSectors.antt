-- A packed image, sector by sector: a packed descriptor keeps the rules and has its data at consecutive places; the indexes, the descriptors and the data laid end to end are
-- read back as sectors, so the catalogues of such an image are the lists of files that were laid down, each file of one block, and its holders are runs of sectors.
use mathlib.Core.Path.{◌≡◌, refl, sym, ap, ◌∙◌}
use mathlib.Core.List.{List, [], ◌∷◌, ◌++◌, map, append_assoc, append-nil, map-append}
use Prim.Native.Nat.{ℕ, zero, suc, ◌+◌, ◌-◌, ◌*◌, ◌≤◌, ◌<◌}
use native.Mathlib.Omega.{arith}
use native.Mathlib.Decide.{ℕ_discrete}
use lib.ListN.{length, take, drop, replicate, length-append, length-map, length-replicate, replicate-append-replicate, get_or-append}
use lib.Seq.{take_at, drop_at, take_all, take-append-le}
use Rattle.rules.specs.Bytes.{byte_at, word_at, part}
use Rattle.rules.specs.Sectors.{sector_of, joined}
use Rattle.rules.specs.Name.{IsName}
use Rattle.rules.specs.Map.{count}
use Rattle.rules.specs.Chain.{blocks, run, places_from, places, Linked, chain_with}
use Rattle.rules.specs.Kind.{allowed_bits, kind_of, IsStatus, IsKind}
use Rattle.rules.specs.Descriptor.{name_of, sectors_of, chain_of, file_kind, IsDescriptor}
use Rattle.rules.specs.Index.{index_of}
use Rattle.rules.specs.Volume.{File, files_in, files_of, places_in, file_holders, header_in, contents_in, file_in, catalogue}
use Rattle.rules.specs.Calls.Pack.{one_block, packed_descriptor, packed_descriptors, packed_data, data_sectors, together, packed_indexes}
use Rattle.rules.specs.declared.Layout.{Layout}
use Rattle.rules.specs.declared.Block.{Block}
use Rattle.rules.proofs.Map.{count_none, count_other, count_append}
use Rattle.rules.proofs.Chain.{run_length, run_at, run_parts}
use Rattle.rules.proofs.Indexed.{index_length, numbers_index}
use Rattle.rules.proofs.Extended.{chain_with-length, chain_with_past, blocks-over, linked_writable}
use Rattle.rules.proofs.Pack.{Full, joined_length, Whole, AllWhole, descriptor_length}
use Rattle.demands.specs.Packing.{places_of, OneBlock}

-- a run in two parts
pub count_runs : (k s first second : ℕ) → count k (run s (first + second)) ≡ count k (run s first) + count k (run (s + first) second)
count_runs k s first second = ap (count k) (run_parts s first second) ∙ count_append k (run s first) (run (s + first) second)

-- a sector behind a front of whole sectors
pub sector_behind : (image front sector rest : List ℕ) (k : ℕ) → image ≡ front ++ (sector ++ rest) → length front ≡ 256 * k → length sector ≡ 256 → sector_of image k ≡ sector
unfolding sector_of
sector_behind image front sector rest k e long size = rw (e, drop_at front (sector ++ rest) (256 * k) long) (take_at sector rest 256 size)

-- a sector of equal bytes that fill `many` sectors behind a front
pub filled_behind : (image front : List ℕ) (value s many k : ℕ) → image ≡ front ++ replicate (256 * many) value → length front ≡ 256 * s → s ≤ k → k < s + many
    → sector_of image k ≡ replicate 256 value
filled_behind image front value s many k e long low high =
    let before = replicate (256 * (k - s)) value in
    let behind = replicate (256 * (s + many - k - 1)) value in
    let all : 256 * (k - s) + (256 + 256 * (s + many - k - 1)) ≡ 256 * many = omega arith in
    let split : before ++ (replicate 256 value ++ behind) ≡ replicate (256 * many) value =
    ap (λ (l : List ℕ). before ++ l) (replicate-append-replicate 256 (256 * (s + many - k - 1)) value)
    ∙ replicate-append-replicate (256 * (k - s)) (256 + 256 * (s + many - k - 1)) value
    ∙ ap (λ (c : ℕ). replicate c value) all
    in
    sector_behind image (front ++ before) (replicate 256 value) behind k (e ∙ ap (λ (l : List ℕ). front ++ l) (sym split) ∙ sym (append_assoc front before (replicate 256 value ++ behind)))
    (length-append front before ∙ omega (arith, long, length-replicate (256 * (k - s)) value)) (length-replicate 256 value)

-- the first part of what is laid behind a front goes to the front
move_front : (image front first second rest : List ℕ) → image ≡ front ++ ((first ++ second) ++ rest) → image ≡ front ++ (first ++ (second ++ rest))
move_front image front first second rest e = e ∙ ap (λ (l : List ℕ). front ++ l) (append_assoc first second rest)

moved_front : (image front first second rest : List ℕ) → image ≡ front ++ ((first ++ second) ++ rest) → image ≡ (front ++ first) ++ (second ++ rest)
moved_front image front first second rest e = move_front image front first second rest e ∙ sym (append_assoc front first (second ++ rest))

-- contents laid behind a front
contents_behind : (image front : List ℕ) (sectors : List (List ℕ)) (rest : List ℕ) (k : ℕ) → image ≡ front ++ (joined sectors ++ rest) → length front ≡ 256 * k → Full sectors
    → map (sector_of image) (run k (length sectors)) ≡ sectors
unfolding joined run Full
contents_behind image front [] rest k e long full = refl
contents_behind image front (sector ∷ sectors) rest k e long full =
    let here = sector_behind image front sector (joined sectors ++ rest) k (move_front image front sector (joined sectors) rest e) long full.0 in
    let later =
    contents_behind image (front ++ sector) sectors rest (k + 1) (moved_front image front sector (joined sectors) rest e)
    (length-append front sector ∙ omega (arith, long, full.0)) full.1
    in
    rw (here, later)

-- what the catalogue of a sound volume says of a file
pub record IsListed (layout : Layout) (file : File) : Type 0 where
  pub whole : Whole file
  pub name : IsName (part file.header 0 10)
  pub status : IsStatus (allowed_bits layout) (byte_at file.header 12)
  pub kind : IsKind (kind_of (byte_at file.header 12) (word_at file.header 14) (byte_at file.header 16) (byte_at file.header 17)) (word_at file.header 14) (byte_at file.header 16)
  pub sectors : word_at file.header 14 ≡ length file.contents

unfoldable pub Each : (layout : Layout) → List File → Type 0
Each layout [] = Unit {0}
Each layout (file ∷ more) = IsListed layout file × Each layout more

pub each_whole : (layout : Layout) (files : List File) → Each layout files → AllWhole files
unfolding Each AllWhole
each_whole layout [] each = tt
each_whole layout (file ∷ more) each = (each.0.whole, each_whole layout more each.1)

-- one block, of c sectors from s on
one_linked : (n s c : ℕ) → 2 ≤ s → s + c ≤ n → Linked n c 0 (one_block s c)
unfolding one_block Linked
one_linked n s zero low high = refl
one_linked n s (suc c) low high = (low, omega arith, omega arith, omega arith)

one_places : (s c : ℕ) → places_from 0 (one_block s c) ≡ run s c
unfolding one_block places_from run
one_places s zero = refl
one_places s (suc c) =
    let e : c - 0 + 1 ≡ suc c = omega arith in
    rw (e, append-nil (run s (suc c)))

one_short : (s c : ℕ) → length (one_block s c) ≤ 1
unfolding one_block
one_short s zero = omega arith
one_short s (suc c) = omega arith

-- a header and a chain behind it, over any header of 28 bytes
module _ (header chain : List ℕ) (long : length header ≡ 28) (size : length chain ≡ 228) where
  behind_header : part (header ++ chain) 0 28 ≡ header
  behind_header = take_at header chain 28 long

  behind_byte : (i : ℕ) → i < 28 → byte_at (header ++ chain) i ≡ byte_at header i
  behind_byte i h = get_or-append header chain 0 i (omega arith)

  behind_name : name_of (header ++ chain) ≡ part header 0 10
  unfolding name_of
  behind_name = take-append-le 10 header chain (omega arith)

  behind_chain : chain_of (header ++ chain) ≡ chain
  unfolding chain_of
  behind_chain = ap (take 228) (drop_at header chain 28 long) ∙ take_all 228 chain (omega arith)

  behind_sectors : sectors_of (header ++ chain) ≡ word_at header 14
  behind_sectors = omega (arith, behind_byte 14 (omega arith), behind_byte 15 (omega arith))

  behind_kind : file_kind (header ++ chain) ≡ kind_of (byte_at header 12) (word_at header 14) (byte_at header 16) (byte_at header 17)
  unfolding file_kind
  behind_kind = rw (behind_sectors, behind_byte 12 (omega arith), behind_byte 16 (omega arith), behind_byte 17 (omega arith))

module _ (layout : Layout) (n s : ℕ) (file : File) (listed : IsListed layout file) (small : n ≤ 1600) (low : 2 ≤ s) (high : s + length file.contents ≤ n) where
  abbrev bs : List Block
  bs = one_block s (length file.contents)

  chain_blocks : blocks (chain_with bs) ≡ bs
  chain_blocks =
      blocks-over 228 bs (linked_writable n (length file.contents) 0 bs (omega arith) (omega arith) (one_linked n s (length file.contents) low high))
      (omega (arith, one_short s (length file.contents)))

  packed_chain : chain_of (packed_descriptor s file) ≡ chain_with bs
  unfolding packed_descriptor
  packed_chain = behind_chain file.header (chain_with bs) listed.whole.long (chain_with-length bs)

  packed_places : places (chain_of (packed_descriptor s file)) ≡ run s (length file.contents)
  unfolding places
  packed_places = ap (places_from 0) (ap blocks packed_chain ∙ chain_blocks) ∙ one_places s (length file.contents)

  pub packed_block : OneBlock (chain_of (packed_descriptor s file))
  packed_block = rw packed_chain (record { few = rw chain_blocks (one_short s (length file.contents)); rest = rw chain_blocks })

  pub packed_descriptor_lem : IsDescriptor layout n (packed_descriptor s file)
  unfolding packed_descriptor
  packed_descriptor_lem =
      let long = listed.whole.long in
      let size = chain_with-length bs in
      record {
        name = rw (behind_name file.header (chain_with bs) long size) listed.name;
        status = rw (behind_byte file.header (chain_with bs) long size 12 (omega arith)) listed.status;
        kind = rw (behind_kind file.header (chain_with bs) long size, behind_sectors file.header (chain_with bs) long size, behind_byte file.header (chain_with bs) long size 16 (omega arith)) listed.kind;
        chain = rw (behind_sectors file.header (chain_with bs) long size, behind_chain file.header (chain_with bs) long size, listed.sectors)
            (record {
              linked = rw chain_blocks (one_linked n s (length file.contents) low high);
              rest = λ i h. chain_with_past bs i (omega (arith, h, ap length chain_blocks));
            });
      }

packed_header : (layout : Layout) (s : ℕ) (file : File) → IsListed layout file → part (packed_descriptor s file) 0 28 ≡ file.header
unfolding packed_descriptor
packed_header layout s file listed = behind_header file.header (chain_with (one_block s (length file.contents))) listed.whole.long (chain_with-length (one_block s (length file.contents)))

-- Files laid down in an image: descriptors at consecutive sectors from d on, the data of the first from s on and that of the others behind it.
unfoldable pub Laid : List ℕ → ℕ → ℕ → List File → Type 0
Laid image d s [] = Unit {0}
Laid image d s (file ∷ more) =
    (sector_of image d ≡ packed_descriptor s file)
    × (map (sector_of image) (run s (length file.contents)) ≡ file.contents)
    × Laid image (d + 1) (s + length file.contents) more

-- so they stand in an image that has the descriptors behind d sectors and the data behind s sectors
pub laid : (layout : Layout) (image front rest front' rest' : List ℕ) (d s : ℕ) (files : List File) → image ≡ front ++ (packed_descriptors s files ++ rest)
    → image ≡ front' ++ (packed_data files ++ rest') → length front ≡ 256 * d → length front' ≡ 256 * s → Each layout files → Laid image d s files
unfolding Laid Each packed_descriptors packed_data
laid layout image front rest front' rest' d s [] e e' long long' each = tt
laid layout image front rest front' rest' d s (file ∷ more) e e' long long' each =
    let c = length file.contents in
    let first = packed_descriptor s file in
    let size = descriptor_length s file each.0.whole in
    let size' = joined_length file.contents each.0.whole.full in (
      sector_behind image front first (packed_descriptors (s + c) more ++ rest) d (move_front image front first (packed_descriptors (s + c) more) rest e) long size,
      contents_behind image front' file.contents (packed_data more ++ rest') s (move_front image front' (joined file.contents) (packed_data more) rest' e') long' each.0.whole.full,
      laid layout image (front ++ first) rest (front' ++ joined file.contents) rest' (d + 1) (s + c) more
          (moved_front image front first (packed_descriptors (s + c) more) rest e)
          (moved_front image front' (joined file.contents) (packed_data more) rest' e')
          (length-append front first ∙ omega (arith, long, size)) (length-append front' (joined file.contents) ∙ omega (arith, long', size')) each.1,
    )

same_file : (header header' : List ℕ) (contents contents' : List (List ℕ)) → header ≡ header' → contents ≡ contents'
    → ◌≡◌ {A = File} (record { header = header; contents = contents }) (record { header = header'; contents = contents' })
same_file header header' contents contents' p q = rw (p, q)

-- What is read of them.
module _ (layout : Layout) (n : ℕ) (image : List ℕ) (small : n ≤ 1600) where
  laid_places : (d s : ℕ) (file : File) → IsListed layout file → 2 ≤ s → s + length file.contents ≤ n → sector_of image d ≡ packed_descriptor s file
      → places_in image d ≡ run s (length file.contents)
  unfolding places_in
  laid_places d s file listed low high is = rw is (packed_places layout n s file listed small low high)

  laid_file : (d s : ℕ) (file : File) → IsListed layout file → 2 ≤ s → s + length file.contents ≤ n → sector_of image d ≡ packed_descriptor s file
      → map (sector_of image) (run s (length file.contents)) ≡ file.contents → file_in image d ≡ file
  unfolding file_in header_in contents_in
  laid_file d s file listed low high is there =
      same_file (part (sector_of image d) 0 28) file.header (map (sector_of image) (places_in image d)) file.contents
      (rw is (packed_header layout s file listed)) (rw (laid_places d s file listed low high is) there)

  -- they are the files of those descriptors, in their order
  pub laid_files : (d s : ℕ) (files : List File) → Each layout files → 2 ≤ s → s + data_sectors files ≤ n → Laid image d s files → map (file_in image) (run d (length files)) ≡ files
  unfolding Laid Each data_sectors run
  laid_files d s [] each low high is = refl
  laid_files d s (file ∷ more) each low high is =
      rw (
        laid_file d s file each.0 low (omega arith) is.0 is.1,
        laid_files (d + 1) (s + length file.contents) more each.1 (omega arith) (omega arith) is.2,
      )

  -- and what holds of a packed descriptor holds of each of these
  pub laid_each : (P : List ℕ → Type 0) → ((s : ℕ) (file : File) → IsListed layout file → 2 ≤ s → s + length file.contents ≤ n → P (packed_descriptor s file))
      → (d s : ℕ) (files : List File) → Each layout files → 2 ≤ s → s + data_sectors files ≤ n → Laid image d s files → (p : ℕ) → p < length files → P (sector_of image (d + p))
  unfolding Laid Each data_sectors
  laid_each P holds d s [] each low high is p h = absurd (omega arith)
  laid_each P holds d s (file ∷ more) each low high is zero h =
      let e : d + 0 ≡ d = omega arith in
      rw (e, is.0) (holds s file each.0 low (omega arith))
  laid_each P holds d s (file ∷ more) each low high is (suc p) h =
      let e : d + 1 + p ≡ d + suc p = omega arith in
      rw (← e) (laid_each P holds (d + 1) (s + length file.contents) more each.1 (omega arith) (omega arith) is.2 p (omega arith))

  -- their data is one run of sectors
  pub laid_data : (d s : ℕ) (files : List File) → Each layout files → 2 ≤ s → s + data_sectors files ≤ n → Laid image d s files
      → places_of image (run d (length files)) ≡ run s (data_sectors files)
  unfolding Laid Each data_sectors run places_of
  laid_data d s [] each low high is = refl
  laid_data d s (file ∷ more) each low high is =
      let c = length file.contents in
      rw (laid_places d s file each.0 low (omega arith) is.0, laid_data (d + 1) (s + c) more each.1 (omega arith) (omega arith) is.2)
      (sym (run_parts s c (data_sectors more)))

  -- the descriptors hold a run of sectors, and the data another
  pub laid_holders : (k d s : ℕ) (files : List File) → Each layout files → 2 ≤ s → s + data_sectors files ≤ n → Laid image d s files
      → count k (file_holders image (run d (length files))) ≡ count k (run d (length files)) + count k (run s (data_sectors files))
  unfolding Laid Each data_sectors run file_holders count
  laid_holders k d s [] each low high is = refl
  laid_holders k d s (file ∷ more) each low high is =
      let c = length file.contents in
      let rest = laid_holders k (d + 1) (s + c) more each.1 (omega arith) (omega arith) is.2 in
      let places = laid_places d s file each.0 low (omega arith) is.0 in
      let split = count_append k (run s c) (file_holders image (run (d + 1) (length more))) in
      rw places (omega (arith, rest, split, count_runs k s c (data_sectors more)))

-- Indexes laid down in an image: from sector i on, for descriptors from sector s on.
unfoldable pub Indexed : List ℕ → ℕ → ℕ → List (List File) → Type 0
Indexed image i s [] = Unit {0}
Indexed image i s (files ∷ more) = (sector_of image i ≡ index_of (run s (length files))) × Indexed image (i + 1) (s + length files) more

pub indexed : (image front rest : List ℕ) (i s : ℕ) (all : List (List File)) → image ≡ front ++ (packed_indexes s all ++ rest) → length front ≡ 256 * i → Indexed image i s all
unfolding Indexed packed_indexes
indexed image front rest i s [] e long = tt
indexed image front rest i s (files ∷ more) e long =
    let first = index_of (run s (length files)) in
    let later = packed_indexes (s + length files) more in
    let size = index_length (run s (length files)) in (
      sector_behind image front first (later ++ rest) i (move_front image front first later rest e) long size,
      indexed image (front ++ first) rest (i + 1) (s + length files) more (moved_front image front first later rest e) (length-append front first ∙ omega (arith, long, size)),
    )

-- no index has more than 127 numbers
unfoldable pub Few : List (List File) → Type 0
Few [] = Unit {0}
Few (files ∷ more) = (length files ≤ 127) × Few more

-- two lists of files that are one and begin with parts of one length
files_parts : (a b c d : List File) → length a ≡ length c → a ++ b ≡ c ++ d → (a ≡ c) × (b ≡ d)
files_parts a b c d long e = (
  sym (take_at a b (length c) long) ∙ ap (take (length c)) e ∙ take_at c d (length c) refl,
  sym (drop_at a b (length c) long) ∙ ap (drop (length c)) e ∙ drop_at c d (length c) refl,
)

unfoldable pub Every : (List File → Type 0) → List (List File) → Type 0
Every Q [] = Unit {0}
Every Q (files ∷ more) = Q files × Every Q more

-- What is read of them: the files are a run of sectors, and those of each are its own.
module _ (image : List ℕ) where
  pub index_files : (i s many : ℕ) → 1 ≤ s → many ≤ 127 → sector_of image i ≡ index_of (run s many) → files_in image i ≡ run s many
  unfolding files_in
  index_files i s many low few is =
      let long = run_length s many in
      rw is (numbers_index (run s many) (λ p h. omega (arith, low, run_at s many p (omega (arith, h, long)))) (omega (arith, few, long)))

  pub indexed_files : (i s : ℕ) (all : List (List File)) → 1 ≤ s → Few all → Indexed image i s all → files_of image (run i (length all)) ≡ run s (length (together all))
  unfolding Indexed Few files_of together run
  indexed_files i s [] low few is = refl
  indexed_files i s (files ∷ more) low few is =
      rw (index_files i s (length files) low few.0 is.0, indexed_files (i + 1) (s + length files) more (omega arith) few.1 is.1, length-append files (together more))
      (sym (run_parts s (length files) (length (together more))))

  -- the files that are read where those of all indexes together are
  files_first : (s : ℕ) (files : List File) (more : List (List File)) → map (file_in image) (run s (length (files ++ together more))) ≡ files ++ together more
      → (map (file_in image) (run s (length files)) ≡ files) × (map (file_in image) (run (s + length files) (length (together more))) ≡ together more)
  files_first s files more e =
      let here = run s (length files) in
      let later = run (s + length files) (length (together more)) in
      let split : run s (length (files ++ together more)) ≡ here ++ later = ap (run s) (length-append files (together more)) ∙ run_parts s (length files) (length (together more)) in
      files_parts (map (file_in image) here) (map (file_in image) later) files (together more) (length-map here (file_in image) ∙ run_length s (length files))
      (sym (map-append (file_in image) here later) ∙ ap (map (file_in image)) (sym split) ∙ e)

  pub indexed_catalogues : (i s : ℕ) (all : List (List File)) → 1 ≤ s → Few all → Indexed image i s all → map (file_in image) (run s (length (together all))) ≡ together all
      → map (catalogue image) (run i (length all)) ≡ all
  unfolding Indexed Few catalogue together run
  indexed_catalogues i s [] low few is e = refl
  indexed_catalogues i s (files ∷ more) low few is e =
      let parts = files_first s files more e in
      rw (index_files i s (length files) low few.0 is.0, parts.0, indexed_catalogues (i + 1) (s + length files) more (omega arith) few.1 is.1 parts.1)

  -- what holds of an index that is so laid, with its own files, holds of each
  pub indexed_each : (P : ℕ → Type 0) (Q : List File → Type 0) (from last : ℕ)
      → ((i s : ℕ) (files : List File) → Q files → length files ≤ 127 → from ≤ s → s + length files ≤ last → sector_of image i ≡ index_of (run s (length files)) → map (file_in image) (run s (length files)) ≡ files → P i)
      → (i s : ℕ) (all : List (List File)) → from ≤ s → s + length (together all) ≤ last → Few all → Every Q all → Indexed image i s all
      → map (file_in image) (run s (length (together all))) ≡ together all → (j : ℕ) → 1 ≤ count j (run i (length all)) → P j
  unfolding Indexed Few Every together run
  indexed_each P Q from last holds i s [] low high few every is e j there = absurd (omega (arith, there, count_none j))
  indexed_each P Q from last holds i s (files ∷ more) low high few every is e j there =
      let parts = files_first s files more e in
      let long = length-append files (together more) in
      elim (ℕ_discrete i j) [
        | yes here ↦ rw (← here) (holds i s files every.0 few.0 low (omega (arith, high, long)) is.0 parts.0)
        | no other ↦
            indexed_each P Q from last holds (i + 1) (s + length files) more (omega arith) (omega (arith, high, long)) few.1 every.1 is.1 parts.1 j
            (omega (arith, there, count_other j i (run (i + 1) (length more)) other))
      ]

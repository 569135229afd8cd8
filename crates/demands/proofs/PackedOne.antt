-- The facts of the laid down form fix every byte. The index sectors are a run, and stand in the same entries; the files of all are a run, and the catalogues say how many each index has, and how many places each
-- file; since these lie one behind the other from one sector on, they are the same, and so are the blocks. So the images agree in sector 0 by label and map, in the indexes by their files, in the descriptors by header
-- and chain, in the data by the contents, and in the free sectors.
use mathlib.Core.Path.{◌≡◌, refl, sym, ap, ◌∙◌}
use mathlib.Core.Logic.{◌↔◌}
use mathlib.Core.List.{List, [], ◌∷◌, ◌++◌, map, append-nil}
use Prim.Native.Nat.{ℕ, suc, ◌+◌, ◌-◌, ◌*◌, ◌≤◌, ◌<◌}
use native.Mathlib.Omega.{arith}
use native.Mathlib.Decide.{dec_lt, ℕ_discrete}
use lib.ListN.{length, drop, get_or, length-append, length-map}
use Rattle.rules.specs.Bytes.{part}
use Rattle.rules.specs.Sectors.{sector_of, sector_count}
use Rattle.rules.specs.Map.{count}
use Rattle.rules.specs.Chain.{blocks, run, places_from, places, chain_with}
use Rattle.rules.specs.Descriptor.{chain_of}
use Rattle.rules.specs.Index.{index_of}
use Rattle.rules.specs.Directory.{entries, entry_index}
use Rattle.rules.specs.Volume.{File, directories, index_at, present, indexes, files_in, files_of, places_in, file_holders, holders, header_in, contents_in, file_in, catalogue, catalogues}
use Rattle.rules.specs.Sound.{IsIndexed, Sound}
use Rattle.rules.specs.Calls.Pack.{with_indexes, label_area, together}
use Rattle.rules.specs.declared.Layout.{Layout}
use Rattle.rules.specs.declared.Block.{Block}
use Rattle.rules.proofs.Bytes.{halves, append_parts}
use Rattle.rules.proofs.Sectors.{sector_length, image_same}
use Rattle.rules.proofs.Map.{count_none, count_here, count_other, count_more, count_append}
use Rattle.rules.proofs.Chain.{same_block, run_length, run_at}
use Rattle.rules.proofs.Volume.{file_holders_all}
use Rattle.rules.proofs.Indexes.{present_absent, present_there}
use Rattle.rules.proofs.Staying.{map_each, holders_agree}
use Rattle.rules.proofs.Pack.{entries_many, all_together}
use Rattle.demands.specs.Packing.{all_files, places_of, OneBlock, Packs}

-- lists laid one behind the other, and equally long for each number: all of them, and each
unfoldable laid_by : (ℕ → List ℕ) → List ℕ → List ℕ
laid_by f [] = []
laid_by f (k ∷ ks) = f k ++ laid_by f ks

module _ (f g : ℕ → List ℕ) where
  same_many : (ks : List ℕ) → ((k : ℕ) → 1 ≤ count k ks → length (f k) ≡ length (g k)) → length (laid_by f ks) ≡ length (laid_by g ks)
  unfolding laid_by
  same_many [] many = refl
  same_many (k ∷ ks) many =
      let later = same_many ks (λ j h. many j (omega (arith, h, count_more j k ks))) in
      length-append (f k) (laid_by f ks) ∙ omega (arith, many k (omega (arith, count_here k ks)), later, length-append (g k) (laid_by g ks))

  same_each : (ks : List ℕ) → ((k : ℕ) → 1 ≤ count k ks → length (f k) ≡ length (g k)) → laid_by f ks ≡ laid_by g ks → (k : ℕ) → 1 ≤ count k ks → f k ≡ g k
  unfolding laid_by
  same_each [] many e k there = absurd (omega (arith, there, count_none k))
  same_each (j ∷ ks) many e k there =
      let parts = append_parts (f j) (laid_by f ks) (g j) (laid_by g ks) (many j (omega (arith, count_here j ks))) e in
      elim (ℕ_discrete j k) [
        | yes here ↦ rw (← here) parts.0
        | no other ↦ same_each ks (λ i h. many i (omega (arith, h, count_more i j ks))) parts.1 k (omega (arith, there, count_other k j ks other))
      ]

-- so lie the places of files, and the files of indexes
places_by : (image ks : List ℕ) → places_of image ks ≡ laid_by (places_in image) ks
unfolding places_of laid_by
places_by image [] = refl
places_by image (k ∷ ks) = ap (λ (l : List ℕ). places_in image k ++ l) (places_by image ks)

files_by : (image is : List ℕ) → files_of image is ≡ laid_by (files_in image) is
unfolding files_of laid_by
files_by image [] = refl
files_by image (i ∷ is) = ap (λ (l : List ℕ). files_in image i ++ l) (files_by image is)

-- numbers are had back from where zeros are and what the others are
same_numbers : (is js : List ℕ) → length is ≡ length js → ((d : ℕ) → (get_or is d 0 ≡ 0) ↔ (get_or js d 0 ≡ 0)) → present is ≡ present js → is ≡ js
same_numbers [] [] long zeros e = refl
same_numbers [] (j ∷ js) long zeros e = absurd (omega arith)
same_numbers (i ∷ is) [] long zeros e = absurd (omega arith)
same_numbers (i ∷ is) (j ∷ js) long zeros e =
    elim (ℕ_discrete i 0) [
      | yes none ↦
          let none' : j ≡ 0 = (zeros 0).0 none in
          rw (none, none')
          (ap (λ (l : List ℕ). 0 ∷ l) (same_numbers is js (omega arith) (λ d. zeros (suc d)) (sym (present_absent i is none) ∙ e ∙ present_absent j js none')))
      | no some ↦
          let both : i ∷ present is ≡ j ∷ present js = sym (present_there i is some) ∙ e ∙ present_there j js (λ z. some ((zeros 0).1 z)) in
          let here : i ≡ j = ap (λ (l : List ℕ). get_or l 0 0) both in
          rw here (ap (λ (l : List ℕ). j ∷ l) (same_numbers is js (omega arith) (λ d. zeros (suc d)) (ap (drop 1) both)))
    ]

-- one block or none is had back from its places
block_places : (block : Block) → places_from 0 (block ∷ []) ≡ run block.start (block.last + 1)
unfolding places_from
block_places block =
    let e : block.last - 0 + 1 ≡ block.last + 1 = omega arith in
    rw e (append-nil (run block.start (block.last + 1)))

same_blocks : (first second : List Block) → length first ≤ 1 → length second ≤ 1 → places_from 0 first ≡ places_from 0 second → first ≡ second
unfolding places_from
same_blocks [] [] few few' e = refl
same_blocks [] (block ∷ []) few few' e = absurd (omega (arith, ap length (e ∙ block_places block), run_length block.start (block.last + 1)))
same_blocks (block ∷ []) [] few few' e = absurd (omega (arith, ap length (sym e ∙ block_places block), run_length block.start (block.last + 1)))
same_blocks (block ∷ []) (other ∷ []) few few' e =
    let runs = sym (block_places block) ∙ e ∙ block_places other in
    let first = ap (λ (ks : List ℕ). get_or ks 0 0) runs in
    let start : block.start ≡ other.start = omega (arith, first, run_at block.start (block.last + 1) 0 (omega arith), run_at other.start (other.last + 1) 0 (omega arith)) in
    let last : block.last ≡ other.last = omega (arith, ap length runs, run_length block.start (block.last + 1), run_length other.start (other.last + 1)) in
    ap (λ (b : Block). b ∷ []) (same_block block.start block.last other.start other.last start last)
same_blocks (first ∷ (second ∷ more)) bs few few' e = absurd (omega arith)
same_blocks [] (first ∷ (second ∷ more)) few few' e = absurd (omega arith)
same_blocks (block ∷ []) (first ∷ (second ∷ more)) few few' e = absurd (omega arith)

same_chain : (chain other : List ℕ) → OneBlock chain → OneBlock other → places chain ≡ places other → chain ≡ other
unfolding places
same_chain chain other one one' e =
    one.rest ∙ ap chain_with (same_blocks (blocks chain) (blocks other) one.few one'.few e) ∙ sym one'.rest

-- two images of the same files
module _ (a b ks : List ℕ) (listed : map (file_in a) ks ≡ map (file_in b) ks) (k : ℕ) (there : 1 ≤ count k ks) where
  same_file : file_in a k ≡ file_in b k
  same_file = map_each (file_in a) (file_in b) ks listed k there

  same_header : header_in a k ≡ header_in b k
  unfolding file_in
  same_header = ap (λ (file : File). file.header) same_file

  same_contents : contents_in a k ≡ contents_in b k
  unfolding file_in
  same_contents = ap (λ (file : File). file.contents) same_file

  same_length : length (places_in a k) ≡ length (places_in b k)
  unfolding contents_in
  same_length = sym (length-map (places_in a k) (sector_of a)) ∙ ap length same_contents ∙ length-map (places_in b k) (sector_of b)

-- two packed images of one volume
module _ (layout : Layout) (source a b : List ℕ) (whole : length source ≡ 256 * sector_count source) (one : Packs layout source a) (two : Packs layout source b) where
  same_indexes : indexes layout a ≡ indexes layout b
  same_indexes = one.indexed ∙ sym two.indexed

  same_directories : directories layout a ≡ directories layout b
  unfolding directories indexes index_at
  same_directories =
      same_numbers (directories layout a) (directories layout b)
      (omega (arith, length-map (entries layout (sector_of a 0)) entry_index, length-map (entries layout (sector_of b 0)) entry_index, entries_many layout (sector_of a 0) (sector_of b 0)))
      (λ d. ((λ e. (two.entered d).1 ((one.entered d).0 e)), (λ e. (one.entered d).1 ((two.entered d).0 e)))) same_indexes

  same_front : part (sector_of a 0) 0 56 ≡ part (sector_of b 0) 0 56
  unfolding directories
  same_front = one.label ∙ ap (with_indexes (label_area layout source) 30) (ap (drop 1) same_directories) ∙ sym two.label

  -- all files, and those of each index
  abbrev ks : List ℕ
  ks = all_files layout a

  same_files : all_files layout a ≡ all_files layout b
  same_files = one.files ∙ sym two.files

  same_catalogues : map (catalogue a) (indexes layout a) ≡ map (catalogue b) (indexes layout a)
  unfolding catalogues
  same_catalogues = one.listed ∙ sym two.listed ∙ ap (map (catalogue b)) (sym same_indexes)

  files_in_lem : (i : ℕ) → IsIndexed layout a i → files_in a i ≡ files_in b i
  unfolding catalogue
  files_in_lem =
      let is = indexes layout a in
      let many : (i : ℕ) → 1 ≤ count i is → length (files_in a i) ≡ length (files_in b i) =
      λ i there.
      sym (length-map (files_in a i) (file_in a)) ∙ ap length (map_each (catalogue a) (catalogue b) is same_catalogues i there) ∙ length-map (files_in b i) (file_in b)
      in
      same_each (files_in a) (files_in b) is many (sym (files_by a is) ∙ same_files ∙ ap (files_of b) (sym same_indexes) ∙ files_by b is)

  same_listed : map (file_in a) ks ≡ map (file_in b) ks
  same_listed =
      sym (all_together layout a) ∙ ap together (one.listed ∙ sym two.listed) ∙ all_together layout b ∙ ap (map (file_in b)) (sym same_files)

  -- the places of all, and of each
  each_places : (k : ℕ) → 1 ≤ count k ks → places_in a k ≡ places_in b k
  each_places =
      let long = same_length a b ks same_listed in
      let many : length (places_of a ks) ≡ length (places_of b ks) = ap length (places_by a ks) ∙ same_many (places_in a) (places_in b) ks long ∙ sym (ap length (places_by b ks)) in
      let there = rw (← same_files) at two.gapless in
      same_each (places_in a) (places_in b) ks long (sym (places_by a ks) ∙ one.gapless ∙ rw many (sym there) ∙ places_by b ks)

  same_holders : holders layout a ≡ holders layout b
  unfolding holders
  same_holders = rw (← same_indexes, ← same_files') (ap (λ (hs : List ℕ). 0 ∷ (indexes layout a ++ hs)) (holders_agree b a ks each_places))
    where
      same_files' : all_files layout a ≡ files_of b (indexes layout a)
      same_files' = same_files ∙ ap (files_of b) (sym same_indexes)

  abbrev n : ℕ
  n = sector_count source

  abbrev Same : ℕ → Type 0
  Same j = j < n → sector_of a j ≡ sector_of b j

  long : (j : ℕ) → j < n → (length (sector_of a j) ≡ 256) × (length (sector_of b j) ≡ 256)
  long j inside = (sector_length a j (omega (arith, inside, whole, one.size)), sector_length b j (omega (arith, inside, whole, two.size)))

  sector0_same : Same 0
  sector0_same inside =
      halves 56 200 (sector_of a 0) (sector_of b 0) (long 0 inside).0 (long 0 inside).1 same_front
      (one.map ∙ rw (one.size, same_holders) (rw two.size at (sym two.map)))

  index_same : (i : ℕ) → IsIndexed layout a i → Same i
  index_same i there inside = one.index i there ∙ ap index_of (files_in_lem i there) ∙ sym (two.index i (rw same_indexes at there))

  descriptor_same : (k : ℕ) → 1 ≤ count k ks → Same k
  unfolding chain_of header_in places_in
  descriptor_same k there inside =
      halves 28 228 (sector_of a k) (sector_of b k) (long k inside).0 (long k inside).1 (same_header a b ks same_listed k there)
      (same_chain (chain_of (sector_of a k)) (chain_of (sector_of b k)) (one.chains k there) (two.chains k (rw same_files at there)) (each_places k there))

  data_same : (k p : ℕ) → 1 ≤ count k ks → 1 ≤ count p (places_in a k) → Same p
  unfolding contents_in
  data_same k p there placed inside =
      map_each (sector_of a) (sector_of b) (places_in a k) (same_contents a b ks same_listed k there ∙ ap (map (sector_of b)) (sym (each_places k there))) p placed

  held_same : (j : ℕ) → 1 ≤ count j (holders layout a) → Same j
  unfolding holders
  held_same j held =
      let is = indexes layout a in
      elim (ℕ_discrete 0 j) [
        | yes label ↦ rw (← label) sector0_same
        | no other ↦
            elim (dec_lt 0 (count j is)) [
              | yes index ↦ index_same j index
              | no none ↦
                  file_holders_all Same a ks descriptor_same data_same j
                  (omega (arith, held, none, count_other j 0 (is ++ file_holders a ks) other, count_append j is (file_holders a ks)))
            ]
      ]

  sector_same : (j : ℕ) → Same j
  sector_same j inside =
      elim (dec_lt 0 (count j (holders layout a))) [
        | yes held ↦ held_same j held inside
        | no free ↦
            let none : count j (holders layout a) ≡ 0 = omega arith in
            one.free j (omega (arith, inside, one.size)) none ∙ sym (two.free j (omega (arith, inside, two.size)) (rw same_holders at none))
      ]

pub packs_one : (layout : Layout) (source a b : List ℕ) → Sound layout source → Packs layout source a → Packs layout source b → a ≡ b
packs_one layout source a b is one two =
    image_same a b (one.size ∙ sym two.size) (rw one.size is.whole) (λ j inside. sector_same layout source a b is.whole one two j (omega (arith, inside, one.size)))

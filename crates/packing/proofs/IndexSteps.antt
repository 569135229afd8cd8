-- Laying the indexes: the numbers of one that are left, and the indexes that are left, at the start, one further, and at the end.
use mathlib.Core.Path.{◌≡◌, refl, sym, ap, ◌∙◌}
use mathlib.Core.List.{List, [], ◌∷◌, ◌++◌, map}
use Prim.Native.Nat.{ℕ, suc, ◌+◌, ◌-◌, ◌*◌, ◌≤◌, ◌<◌}
use native.Mathlib.Omega.{arith}
use lib.ListN.{length, replicate, length-append, length-map}
use borrow.Rule.Slice.PartMut.{put_mid}
use Rattle.rules.specs.Bytes.{word_bytes, splice}
use Rattle.rules.specs.Sectors.{sector_of, sector_count}
use Rattle.rules.specs.Chain.{run}
use Rattle.rules.specs.Index.{numbers, numbers_bytes, index_of}
use Rattle.rules.specs.Volume.{indexes, files_in, files_of, file_in, catalogue, catalogues}
use Rattle.rules.specs.Sound.{Sound}
use Rattle.rules.specs.Calls.Pack.{packed_indexes}
use Rattle.rules.specs.declared.Layout.{Layout}
use Rattle.rules.proofs.Splice.{put_back}
use Rattle.rules.proofs.Pieces.{Pieces, pieces_first, pieces_next, pieces_last}
use Rattle.rules.proofs.Indexed.{index_length, laid_index}
use Rattle.rules.proofs.Pack.{all_sectors, used_inside}

-- one index: the numbers from `number` up to `end` are left, behind those from `first` on
pub record Numbered (first end : ℕ) (after : List ℕ) (number : ℕ) : Type 0 where
  pub pieces : Pieces (numbers_bytes (run first (end - first))) (replicate 256 0) 0 (numbers_bytes (run number (end - number))) after (2 * (number - first))

pub numbered_start : (first end : ℕ) (after : List ℕ) → after ≡ replicate 256 0 → Numbered first end after first
numbered_start first end after zeros =
    let none : 2 * (first - first) ≡ 0 = omega arith in
    record { pieces = rw (zeros, none) (pieces_first (numbers_bytes (run first (end - first))) (replicate 256 0) 0) }

module _ {first end number : ℕ} {after : List ℕ} (so_far : Numbered first end after number) where
  pub numbered_step : first ≤ number → number < end → {later : List ℕ} {at : ℕ} → at ≡ number - first → later ≡ splice after (2 * at) (word_bytes number) → Numbered first end later (number + 1)
  unfolding numbers_bytes run
  numbered_step behind more at_is later-is =
      let one : end - number ≡ suc (end - (number + 1)) = omega arith in
      record {
        pieces = pieces_next so_far.pieces (word_bytes number) (ap (λ (many : ℕ). numbers_bytes (run number many)) one ∙ number_first (end - (number + 1))) (rw at_is at later-is) (omega arith);
      }
    where
      number_first : (many : ℕ) → numbers_bytes (run number (suc many)) ≡ word_bytes number ++ numbers_bytes (run (number + 1) many)
      number_first many = refl

  pub numbered_end : (many : ℕ) → end ≡ first + many → end ≤ number → after ≡ index_of (run first many)
  unfolding numbers_bytes run
  numbered_end many end_is past =
      let none : end - number ≡ 0 = omega arith in
      let all : end - first ≡ many = omega arith in
      (pieces_last so_far.pieces (ap (λ (m : ℕ). numbers_bytes (run number m)) none ∙ no_number)).0 ∙ ap (λ (m : ℕ). splice (replicate 256 0) 0 (numbers_bytes (run first m))) all ∙ laid_index (run first many)
    where
      no_number : numbers_bytes (run number 0) ≡ []
      no_number = refl

-- all indexes: those in the sectors `left` are left, their files' numbers from `next` on, and go to `to`
pub record Indexed (layout : Layout) (image before after : List ℕ) (next to : ℕ) (left : List ℕ) : Type 0 where
  pub to_is : to + 256 * length left ≡ 256 * (1 + length (indexes layout image))
  pub next_is : next + length (files_of image left) ≡ 1 + length (indexes layout image) + length (files_of image (indexes layout image))
  pub pieces : Pieces (packed_indexes (1 + length (indexes layout image)) (catalogues layout image)) before 256 (packed_indexes next (map (catalogue image) left)) after to

pub indexed_start : (layout : Layout) (image target : List ℕ) (first : ℕ) → first ≡ 1 + length (indexes layout image) → Indexed layout image target target first 256 (indexes layout image)
unfolding catalogues
indexed_start layout image target first e =
    record {
      to_is = omega arith;
      next_is = omega (arith, e);
      pieces = rw e (pieces_first _ target 256);
    }

module _ {layout : Layout} {image before after : List ℕ} {next to index : ℕ} {left more : List ℕ} (so_far : Indexed layout image before after next to left) (here : left ≡ index ∷ more) where
  -- it has room, and its numbers are below the sectors in use
  pub indexed_ahead : Sound layout image → (to + 256 ≤ 256 * sector_count image) × (next ≤ sector_count image) × (length (files_in image index) + next ≤ sector_count image)
  unfolding files_of
  indexed_ahead is =
      let to_is = rw here at so_far.to_is in
      let next_is = rw here at so_far.next_is in
      let used = used_inside layout image is in
      let all = all_sectors layout image in
      let files = length-append (files_in image index) (files_of image more) in
      (omega (arith, to_is, used, all), omega (arith, next_is, used, all), omega (arith, next_is, used, all, files))

  pub indexed_step : {came : List ℕ} {following size : ℕ} → to + 256 ≤ length after → size ≡ 256 → following ≡ next + length (numbers (sector_of image index))
      → came ≡ index_of (run next (length (numbers (sector_of image index))))
      → Indexed layout image before (put_mid to size after came) following (to + 256) more
  unfolding files_of files_in packed_indexes catalogue
  indexed_step {came} {following} {size} room size_is following-is came-is =
      let files = numbers (sector_of image index) in
      let to_is = rw here at so_far.to_is in
      let next_is = rw here at so_far.next_is in
      let long : length came ≡ 256 = ap length came-is ∙ index_length (run next (length files)) in
      record {
        to_is = omega (arith, to_is);
        next_is = omega (arith, next_is, following-is, length-append files (files_of image more));
        pieces =
            pieces_next so_far.pieces came
            (rw (here, length-map files (file_in image), came-is, following-is) refl)
            (put_back after came to size (long ∙ sym size_is) (omega (arith, room, size_is))) (omega (arith, long));
      }

pub indexed_end : {layout : Layout} {image before after : List ℕ} {next to : ℕ} {left : List ℕ} → Indexed layout image before after next to left → left ≡ []
    → (next ≡ 1 + length (indexes layout image) + length (files_of image (indexes layout image))) × (after ≡ splice before 256 (packed_indexes (1 + length (indexes layout image)) (catalogues layout image)))
unfolding files_of packed_indexes
indexed_end so_far none =
    let next_is = rw none at so_far.next_is in
    (omega (arith, next_is), (pieces_last so_far.pieces (rw none)).0)

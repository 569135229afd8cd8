-- The indexes written in name order, one after another: what stands of the image by then, and that writing the rest gives what writing all of them gives.
use mathlib.Core.Path.{◌≡◌, refl, sym, ap, ◌∙◌}
use mathlib.Core.Bool.{true}
use mathlib.Core.List.{List, [], ◌∷◌, map}
use Prim.Native.Nat.{ℕ, ◌+◌, ◌*◌, ◌≤◌, ◌<◌}
use native.Mathlib.Omega.{arith}
use native.Mathlib.Decide.{dec_lt}
use lib.ListN.{length, get_or, set}
use Rattle.rules.specs.Bytes.{splice}
use Rattle.rules.specs.Sectors.{sector_of, sector_count, written}
use Rattle.rules.specs.Map.{count}
use Rattle.rules.specs.Descriptor.{name_of}
use Rattle.rules.specs.Index.{index_of, IsIndex}
use Rattle.rules.specs.Directory.{entries}
use Rattle.rules.specs.Volume.{directories, index_at, indexes, files_in, name_in, places_in}
use Rattle.rules.specs.Sound.{IsIndexed}
use Rattle.rules.specs.Calls.Repair.{distinct_rule, ordered, ordered_index, Mendable}
use Rattle.rules.specs.declared.Layout.{Layout}
use Rattle.rules.proofs.Splice.{splice-length, splice_none, splice_append, set-splice}
use Rattle.rules.proofs.Map.{count_none, count_here, count_other, count_more, count_at}
use Rattle.rules.proofs.Indexed.{index_length}
use Rattle.rules.proofs.Indexes.{index_some, directory_indexed}
use Rattle.rules.proofs.Written.{sector_other}
use Rattle.rules.proofs.Staying.{index_at_kept}
use Rattle.rules.proofs.Ordered.{ordered_agree}
use Rattle.rules.proofs.Repair.{is_distinct}
use Rattle.rules.proofs.Mended.{mendable_index, apart, file_held}
use Rattle.sector.specs.Directories.{indexes_from}
use Rattle.sector.proofs.DirectoryLaws.{from_root, from_past, from_absent, from_there}

-- The indexes before that directory are written, and listed.
pub record Going (layout : Layout) (image₀ changes₀ : List ℕ) (directory many : ℕ) (image changes : List ℕ) : Type 0 where
  pub size : length image ≡ length image₀
  pub left : (j : ℕ) → count j (indexes_from layout image₀ directory) ≤ count j (indexes layout image₀)
  pub stands : (j : ℕ) → count j (indexes layout image₀) ≡ count j (indexes_from layout image₀ directory) → sector_of image j ≡ sector_of image₀ j
  pub writes : written image (map (ordered_index image₀) (indexes_from layout image₀ directory)) ≡ written image₀ (map (ordered_index image₀) (indexes layout image₀))
  pub listed : splice changes (2 + many) (indexes_from layout image₀ directory) ≡ splice changes₀ 2 (indexes layout image₀)
  pub total : many + length (indexes_from layout image₀ directory) ≡ length (indexes layout image₀)

pub none_written : (layout : Layout) (image₀ changes₀ : List ℕ) → Going layout image₀ changes₀ 0 0 image₀ changes₀
none_written layout image₀ changes₀ =
    let e = from_root layout image₀ in
    record { size = refl; left = rw e (λ j. omega arith); stands = λ j same. refl; writes = rw e; listed = rw e; total = rw e (omega arith) }

module _ (layout : Layout) (image₀ changes₀ : List ℕ) (is : Mendable layout image₀) (directory many : ℕ) (image changes : List ℕ) (so_far : Going layout image₀ changes₀ directory many image changes) where
  -- behind the last of them
  pub all_written : length (directories layout image₀) ≤ directory
      → (image ≡ written image₀ (map (ordered_index image₀) (indexes layout image₀))) × (changes ≡ splice changes₀ 2 (indexes layout image₀)) × (many ≡ length (indexes layout image₀))
  unfolding written
  all_written past =
      let none = from_past layout image₀ directory past in (
        rw none at so_far.writes,
        sym (splice_none changes (2 + many)) ∙ rw none at so_far.listed,
        let t = rw none at so_far.total in omega (arith, t),
      )

  -- sector 0 stands, and so do the entries
  none_first : count 0 (indexes layout image₀) ≡ 0
  none_first =
      elim (dec_lt 0 (count 0 (indexes layout image₀))) [
        | yes some ↦ absurd (index_some layout image₀ 0 some refl)
        | no none ↦ omega arith
      ]

  same_index : index_at layout image directory ≡ index_at layout image₀ directory
  same_index = index_at_kept layout image₀ image (ap (entries layout) (so_far.stands 0 (omega (arith, none_first, so_far.left 0)))) directory

  module _ (i : ℕ) (here : i ≡ index_at layout image directory) where
    abbrev there : i ≡ index_at layout image₀ directory
    there = here ∙ same_index

    pub none_there : i ≡ 0 → Going layout image₀ changes₀ (directory + 1) many image changes
    none_there none =
        let e = from_absent layout image₀ directory i there none in
        record {
          size = so_far.size;
          left = rw e at so_far.left;
          stands = rw e at so_far.stands;
          writes = rw e at so_far.writes;
          listed = rw e at so_far.listed;
          total = rw e at so_far.total;
        }

    module _ (some : i ≡ 0 → ⊥) where
      abbrev rest : List ℕ
      rest = indexes_from layout image₀ (directory + 1)

      next : indexes_from layout image₀ directory ≡ i ∷ rest
      next = from_there layout image₀ directory i there some

      indexed : IsIndexed layout image₀ i
      indexed = rw there (directory_indexed layout image₀ directory (λ none. some (there ∙ none)))

      -- this index stands, and so do the descriptors that it leads to
      index_stands : sector_of image i ≡ sector_of image₀ i
      index_stands = so_far.stands i (let left = so_far.left i in omega (arith, left, ap (count i) next, count_here i rest, apart layout image₀ is i))

      files_stand : files_in image i ≡ files_in image₀ i
      unfolding files_in
      files_stand = rw index_stands

      name_stands : (k : ℕ) → 1 ≤ count k (files_in image₀ i) → name_in image k ≡ name_in image₀ k
      unfolding name_in
      name_stands k listed =
          let held = file_held layout image₀ is i k k indexed listed (omega (arith, count_here k (places_in image₀ k))) in
          ap name_of (so_far.stands k (omega (arith, held, apart layout image₀ is k, so_far.left k)))

      pub index_ready : (length image ≡ 256 * sector_count image) × (i < sector_count image) × IsIndex (sector_count image) (sector_of image i) × (distinct_rule image [] (files_in image i) ≡ true)
      index_ready =
          let each = is.each i indexed in
          let ks = files_in image₀ i in
          let same : (p : ℕ) → p < length ks → name_in image (get_or ks p 0) ≡ name_in image₀ (get_or ks p 0) = λ p h. name_stands (get_or ks p 0) (count_at ks p h) in
          rw (so_far.size, index_stands, files_stand) (
            is.whole,
            (mendable_index layout image₀ is i indexed).1,
            each.index,
            is_distinct image [] ks (λ k h q l e. omega (arith, h, count_none k)) (λ p q h l e. each.distinct p q h l (sym (same p (omega arith)) ∙ e ∙ same q l)),
          )

      pub one_written : (image' changes' : List ℕ) → image' ≡ splice image (256 * i) (index_of (ordered image (files_in image i))) → changes' ≡ set changes (2 + many) i
          → Going layout image₀ changes₀ (directory + 1) (many + 1) image' changes'
      unfolding written ordered_index
      one_written image' changes' e f =
          let sector = index_of (ordered image₀ (files_in image₀ i)) in
          let bytes : index_of (ordered image (files_in image i)) ≡ sector = rw files_stand (ap index_of (ordered_agree image₀ image (files_in image₀ i) name_stands)) in
          let laid : image' ≡ splice image (256 * i) sector = e ∙ ap (splice image (256 * i)) bytes in
          let more : 2 + (many + 1) ≡ 2 + many + 1 = omega arith in
          record {
            size = ap length laid ∙ splice-length image (256 * i) sector ∙ so_far.size;
            left = λ j. let before = so_far.left j in omega (arith, before, ap (count j) next, count_more j i rest);
            stands = λ j same.
                let before = so_far.left j in
                let other : j ≡ i → ⊥ = λ q. omega (arith, before, same, ap (count j) next, ap (λ (k : ℕ). count j (k ∷ rest)) q, count_here j rest) in
                ap (λ (s : List ℕ). sector_of s j) laid ∙ sector_other image i sector (index_length (ordered image₀ (files_in image₀ i))) j other
                ∙ so_far.stands j (same ∙ sym (ap (count j) next ∙ count_other j i rest (λ q. other (sym q))));
            writes = rw laid (let w = rw next at so_far.writes in w);
            listed = rw (f, set-splice changes (2 + many) i, more) (splice_append changes (2 + many) (i ∷ []) rest ∙ ap (splice changes (2 + many)) (sym next) ∙ so_far.listed);
            total = let t = so_far.total in omega (arith, t, ap length next);
          }

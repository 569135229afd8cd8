-- A new file's sectors were free, so what its last write reads stands as it stood before the first one: the index, and the descriptors of its files. The writes one after the other
-- are then those that enter it.
use mathlib.Core.Path.{◌≡◌, sym, ap, ◌∙◌}
use mathlib.Core.List.{List, [], ◌∷◌, ◌++◌, append_assoc}
use Prim.Native.Nat.{ℕ, ◌+◌, ◌*◌, ◌≤◌}
use native.Mathlib.Omega.{arith}
use native.Mathlib.Decide.{dec_lt}
use lib.ListN.{length}
use Rattle.rules.specs.Sectors.{sector_of, sector_count, Write, written, Whole}
use Rattle.rules.specs.Map.{count}
use Rattle.rules.specs.Index.{index_of}
use Rattle.rules.specs.Volume.{files_in, places_in, file_holders, holders, placed}
use Rattle.rules.specs.Sound.{IsIndexed, Sound}
use Rattle.rules.specs.Outcome.{write}
use Rattle.rules.specs.Calls.Create.{entered}
use Rattle.rules.specs.Calls.Store.{data_writes}
use Rattle.rules.specs.declared.Layout.{Layout}
use Rattle.rules.proofs.Map.{count_here, count_more, count_append, count_apart}
use Rattle.rules.proofs.Choice.{Chosen}
use Rattle.rules.proofs.Indexes.{index_some, others, holders_seen}
use Rattle.rules.proofs.Staying.{placed_kept, file_holds, free_unheld}
use Rattle.rules.proofs.Listed.{system_and, sector_inside, listed_range}
use Rattle.rules.proofs.Written.{Apart, written-length, written_both, written_apart, data_whole, data_apart}

-- an index and the descriptors of its files are among the holders
module _ (layout : Layout) (image : List ℕ) (i : ℕ) (indexed : IsIndexed layout image i) where
  index_held : 1 ≤ count i (holders layout image)
  index_held =
      let own = file_holders image (files_in image i) ++ others layout image i in
      omega (arith, holders_seen layout image i indexed i, count_more i 0 (i ∷ own), count_here i own)

  descriptor_held : (k : ℕ) → 1 ≤ count k (files_in image i) → 1 ≤ count k (holders layout image)
  descriptor_held k listed =
      let own = file_holders image (files_in image i) in
      omega (
        arith,
        holders_seen layout image i indexed k,
        system_and i k (own ++ others layout image i),
        count_append k own (others layout image i),
        file_holds image k k (files_in image i) listed,
        count_here k (places_in image k),
      )

-- the data to the sectors ks, the descriptor to sector k, and k into index i
module _ (layout : Layout) (image : List ℕ) (i : ℕ) (name bytes : List ℕ) (k : ℕ) (ks descriptor sector0 : List ℕ) (is : Sound layout image) (indexed : IsIndexed layout image i)
    (free : (j : ℕ) → 1 ≤ count j (k ∷ ks) → Chosen (sector_count image) (sector_of image 0) j) (long : length descriptor ≡ 256) (long' : length sector0 ≡ 256) where
  abbrev laid : List ℕ
  laid = written image (data_writes bytes ks)

  abbrev last : List Write
  last = write k descriptor ∷ (write 0 sector0 ∷ [])

  fits : (j : ℕ) → 1 ≤ count j (k ∷ ks) → 256 * j + 256 ≤ length image
  fits j some = sector_inside layout image is j (free j some).inside

  -- what is held was not free
  other : (j : ℕ) → 1 ≤ count j (holders layout image) → count j (k ∷ ks) ≡ 0
  other j held =
      elim (dec_lt 0 (count j (k ∷ ks))) [
        | yes some ↦ let chosen = free j some in absurd (omega (arith, held, free_unheld layout image j is chosen.inside chosen.free))
        | no none ↦ omega arith
      ]

  stands : (j : ℕ) → (j ≡ 0 → ⊥) → 1 ≤ count j (holders layout image) → sector_of (written image (data_writes bytes ks ++ last)) j ≡ sector_of image j
  unfolding Whole Apart
  stands j some held =
      let apart = count_apart j k ks (other j held) in
      let here = fits k (omega (arith, count_here k ks)) in
      let size = written-length image (data_writes bytes ks) in
      ap (λ (l : List ℕ). sector_of l j) (sym (written_both image (data_writes bytes ks) last))
      ∙ written_apart laid last j (long, omega (arith, here, size), (long', omega (arith, here, size), tt)) (apart.0, (some, tt))
      ∙ written_apart image (data_writes bytes ks) j (data_whole (length image) bytes ks (λ m h. fits m (omega (arith, h, count_more m k ks)))) (data_apart bytes ks j apart.1)

  pub written-entered : (there after : List ℕ) → there ≡ written image (data_writes bytes ks ++ last)
      → after ≡ written there (write i (index_of (placed there name k (files_in there i))) ∷ [])
      → after ≡ written image (data_writes bytes ks ++ entered image i name k descriptor sector0)
  unfolding entered
  written-entered there after there-is after_is =
      let index =
      placed_kept image (written image (data_writes bytes ks ++ last)) name i k (stands i (index_some layout image i indexed) (index_held layout image i indexed))
      (λ j listed. stands j (λ e. omega (arith, e, (listed_range layout image is i indexed j listed).0)) (descriptor_held layout image i indexed j listed))
      in
      after_is
      ∙ rw (there-is, index)
      (written_both image (data_writes bytes ks ++ last) (write i (index_of (placed image name k (files_in image i))) ∷ [])
      ∙ ap (written image) (append_assoc (data_writes bytes ks) last (write i (index_of (placed image name k (files_in image i))) ∷ [])))

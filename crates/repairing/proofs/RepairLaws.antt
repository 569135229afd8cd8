-- What repair gives by its number; and that the indexes written, the map laid into sector 0 where it stands, and the list of both are its writes and their order.
use mathlib.Core.Path.{◌≡◌, refl, sym, ap, ◌∙◌}
use mathlib.Core.List.{List, [], ◌∷◌, map}
use Prim.Native.Nat.{ℕ, ◌+◌, ◌*◌, ◌≤◌}
use native.Mathlib.Omega.{arith}
use native.Mathlib.Decide.{dec_lt}
use lib.ListN.{length, length-append, length-map}
use borrow.Rule.Slice.PartMut.{put_mid}
use Rattle.rules.specs.Index.{index_of}
use Rattle.rules.specs.Bytes.{splice}
use Rattle.rules.specs.Sectors.{sector_of, sector_count, written}
use Rattle.rules.specs.Map.{count, map_of}
use Rattle.rules.specs.Volume.{indexes, files_in, holders}
use Rattle.rules.specs.Tests.{first_of}
use Rattle.rules.specs.Outcome.{write, done, refusal, order_of}
use Rattle.rules.specs.Calls.Repair.{repair_tests, ordered, ordered_index, map_anew, mending, repair_of}
use Rattle.rules.specs.declared.Layout.{Layout}
use Rattle.rules.proofs.Tests.{unless_passed, unless_met_lem}
use Rattle.rules.proofs.Splice.{splice_append, splice-part, put_back}
use Rattle.rules.proofs.Map.{count_apart}
use Rattle.rules.proofs.Indexed.{index_length}
use Rattle.rules.proofs.Indexes.{index_some}
use Rattle.rules.proofs.Written.{sector_other, written-length, written_both}
use Rattle.rules.proofs.Formatted.{map_length}
use Rattle.rules.proofs.Outcome.{order_laid}
use Rattle.rules.proofs.Mended.{mending_order}

module _ (layout : Layout) (image : List ℕ) where
  pub repair_refused : (number : ℕ) → (number ≡ 0 → ⊥) → number ≡ first_of (repair_tests layout image) → repair_of layout image ≡ refusal number
  unfolding repair_of
  repair_refused number some e = rw (← e, unless_met_lem (repair_tests layout image) (mending layout image) [] (λ none. some (e ∙ none)))

  pub repair_done : 0 ≡ first_of (repair_tests layout image) → repair_of layout image ≡ done (mending layout image)
  unfolding repair_of
  repair_done e = rw (← e, unless_passed (repair_tests layout image) (mending layout image) [] (sym e))

-- a sector that is none of the indexes stands while they are written
indexes_apart : (names image is : List ℕ) (j : ℕ) → count j is ≡ 0 → sector_of (written image (map (ordered_index names) is)) j ≡ sector_of image j
unfolding written ordered_index
indexes_apart names image [] j none = refl
indexes_apart names image (i ∷ is) j none =
    let parts = count_apart j i is none in
    indexes_apart names (splice image (256 * i) (index_of (ordered names (files_in names i)))) is j parts.1 ∙ sector_other image i _ (index_length (ordered names (files_in names i))) j parts.0

module _ (layout : Layout) (image : List ℕ) (between : List ℕ) (written-indexes : between ≡ written image (map (ordered_index image) (indexes layout image))) where
  zero_stands : sector_of between 0 ≡ sector_of image 0
  zero_stands = rw written-indexes (indexes_apart image image (indexes layout image) 0 none)
    where
      none : count 0 (indexes layout image) ≡ 0
      none =
          elim (dec_lt 0 (count 0 (indexes layout image))) [
            | yes some ↦ absurd (index_some layout image 0 some refl)
            | no some ↦ omega arith
          ]

  -- the map laid into sector 0, which was lent from byte 56 on
  pub map_laid : (marks : List ℕ) → marks ≡ map_of (sector_count image) (holders layout image) → 256 ≤ length image → put_mid 56 200 between marks ≡ written image (mending layout image)
  unfolding written mending map_anew sector_of
  map_laid marks e large =
      let first = map (ordered_index image) (indexes layout image) in
      let long : length marks ≡ 200 = ap length e ∙ map_length (sector_count image) (holders layout image) in
      let size : length between ≡ length image = ap length written-indexes ∙ written-length image first in
      put_back between marks 56 200 long (omega (arith, size))
      ∙ sym (splice-part between 0 256 56 marks (omega (arith, long)))
      ∙ ap (λ (s : List ℕ). splice between 0 (splice s 56 marks)) zero_stands
      ∙ rw (e, written-indexes) (written_both image first (write 0 (map_anew layout image) ∷ []))

-- sector 0 listed behind the indexes
many_writes : (layout : Layout) (image : List ℕ) → length (mending layout image) ≡ length (indexes layout image) + 1
unfolding mending
many_writes layout image =
    length-append (map (ordered_index image) (indexes layout image)) (write 0 (map_anew layout image) ∷ []) ∙ rw (length-map (indexes layout image) (ordered_index image))

pub order_mended : (layout : Layout) (image changes listed : List ℕ) (many : ℕ) → listed ≡ splice changes 2 (indexes layout image) → many ≡ length (indexes layout image)
    → splice (splice listed (2 + many) (0 ∷ [])) 1 ((many + 1) ∷ []) ≡ splice changes 1 (order_of (mending layout image))
order_mended layout image changes listed many e f =
    rw (e, f, splice_append changes 2 (indexes layout image) (0 ∷ []), ← mending_order layout image, ← many_writes layout image)
    (order_laid changes (mending layout image) (omega (arith, many_writes layout image)))

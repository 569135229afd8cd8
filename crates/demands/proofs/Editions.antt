-- The two editions: where no entry is there, both have the root's index alone, and so the same holders; a directory's index is a holder of the second edition and not of the first, and its map bit is one.
use mathlib.Core.Path.{◌≡◌, refl, sym, ◌∙◌}
use mathlib.Core.Bool.{Bool, true, false}
use mathlib.Core.Logic.{inl}
use mathlib.Core.List.{List, [], ◌∷◌, map, append-nil}
use Prim.Native.Nat.{ℕ, zero, suc, ◌+◌, ◌≤◌, ◌<◌}
use native.Mathlib.Omega.{arith}
use native.Mathlib.Decide.{dec_lt}
use lib.ListN.{length, get_or, get_or-eq_default}
use Rattle.rules.specs.Bytes.{part}
use Rattle.rules.specs.Sectors.{sector_of, sector_count}
use Rattle.rules.specs.Map.{count, map_rule}
use Rattle.rules.specs.Kind.{allowed_bits}
use Rattle.rules.specs.Directory.{entries, entry_index, entries_rule, IsAbsent, AreEntries}
use Rattle.rules.specs.Volume.{present, indexes, every, files_in, files_of, file_holders, holders}
use Rattle.rules.specs.Tests.{first_of}
use Rattle.rules.specs.Verdict.{volume_tests, verdict}
use Rattle.rules.specs.Sound.{Sound}
use Rattle.rules.specs.declared.Layout.{Layout}
use Rattle.rules.proofs.Bytes.{part_at, part_short}
use Rattle.rules.proofs.Label.{is_label}
use Rattle.rules.proofs.Map.{count_here, count_append, map_at, taken_below}
use Rattle.rules.proofs.Index.{is_index}
use Rattle.rules.proofs.Directory.{absent_no_entry}
use Rattle.rules.proofs.Indexed.{without_here}
use Rattle.rules.proofs.Indexes.{root_indexed, root_first, index_first_edition, only_root, index_inside, other_indexes, others, holders_seen}
use Rattle.rules.proofs.Verdict.{is_size, index_passes, once_held}
use Rattle.demands.specs.Editions.{first, second, Unentered, BothEditions}
use Rattle.demands.proofs.Rules.{sound_by}

-- the first edition has the root's index alone
first_alone : (layout : Layout) (image : List ℕ) → indexes (first layout) image ≡ 1 ∷ []
unfolding entries present
first_alone layout image = root_first (first layout) image

-- and so has the second where no entry is there
absent_entries : (layout : Layout) (image : List ℕ) → Unentered image → (d : ℕ) → IsAbsent (get_or (entries (second layout) (sector_of image 0)) d [])
unfolding entries
absent_entries layout image none d = go d
  where
    absent : (at : ℕ) → 20 ≤ at → at + 12 ≤ 56 → IsAbsent (part (sector_of image 0) at 12)
    absent at low high b =
        elim (dec_lt b 12) [
          | yes inside ↦ part_at (sector_of image 0) at 12 b inside ∙ none (at + b) (omega arith) (omega arith)
          | no past ↦ get_or-eq_default (part (sector_of image 0) at 12) 0 {n = b} (omega (arith, part_short (sector_of image 0) at 12))
        ]

    go : (d : ℕ) → IsAbsent (get_or (part (sector_of image 0) 20 12 ∷ (part (sector_of image 0) 32 12 ∷ (part (sector_of image 0) 44 12 ∷ []))) d [])
    go zero = absent 20 (omega arith) (omega arith)
    go (suc zero) = absent 32 (omega arith) (omega arith)
    go (suc (suc zero)) = absent 44 (omega arith) (omega arith)
    go (suc (suc (suc d))) = λ b. refl

second_alone : (layout : Layout) (image : List ℕ) → Unentered image → indexes (second layout) image ≡ 1 ∷ []
second_alone layout image none = only_root (second layout) image (absent_entries layout image none)

absent_are : (layout : Layout) (image : List ℕ) → Unentered image → AreEntries (sector_count image) (entries (second layout) (sector_of image 0))
absent_are layout image none =
    record { each = λ d h. inl (absent_entries layout image none d); differ = λ d e l h is same. absent_no_entry _ _ (absent_entries layout image none d) is }

none_are : (n : ℕ) → AreEntries n []
none_are n = record { each = λ d h. absurd (omega arith); differ = λ d e l h is same. absurd (omega arith) }

-- a volume of the second edition with a directory, judged by the first: five tests are passed, and the sixth is met
module _ (layout : Layout) (image : List ℕ) (is : Sound (second layout) image) where
  abbrev own : List ℕ
  own = file_holders image (files_in image 1)

  abbrev away : List ℕ
  away = others (second layout) image 1

  seen : (j : ℕ) → count j (holders (second layout) image) ≡ count j (0 ∷ (1 ∷ own)) + count j away
  seen j = omega (arith, holders_seen (second layout) image 1 (root_indexed (second layout) image) j, count_append j (0 ∷ (1 ∷ own)) away)

  first-holders : holders (first layout) image ≡ 0 ∷ (1 ∷ own)
  unfolding holders files_of
  first-holders = rw (first_alone layout image, append-nil (files_in image 1))

  module _ (many : 2 ≤ length (indexes (second layout) image)) where
    abbrev entered : List ℕ
    entered = present (map entry_index (entries (second layout) (sector_of image 0)))

    -- the index of a directory
    index_there : (is : List ℕ) → 2 ≤ length (1 ∷ is) → 1 ≤ count (get_or is 0 0) is
    index_there [] more = absurd (omega arith)
    index_there (i ∷ is) more = omega (arith, count_here i is)

    abbrev i : ℕ
    i = get_or entered 0 0

    i_entered : 1 ≤ count i entered
    i_entered = index_there entered (rw (root_first (second layout) image) at many)

    i_away : 1 ≤ count i away
    unfolding others
    i_away =
        let rest : other_indexes (second layout) image 1 ≡ entered = rw (root_first (second layout) image) (without_here 1 1 entered refl) in
        rw rest (omega (arith, i_entered, count_append i entered (file_holders image (files_of image entered))))

    i_inside : i < sector_count image
    i_inside = (index_inside (second layout) image (omega (arith, is.size)) is.entered i (rw (root_first (second layout) image) (omega (arith, i_entered, count_append i (1 ∷ []) entered)))).1

    -- the map marks it, and the first edition has no holder for it
    unmapped : map_rule (sector_count image) (holders (first layout) image) (sector_of image 0) ≡ false
    unmapped = go (map_rule (sector_count image) (holders (first layout) image) (sector_of image 0)) refl
      where
        go : (t : Bool) → map_rule (sector_count image) (holders (first layout) image) (sector_of image 0) ≡ t → t ≡ false
        go true e =
            let bit = map_at (sector_count image) (holders (first layout) image) (sector_of image 0) e i (omega (arith, i_inside, is.size)) ∙ taken_below (sector_count image) (holders (first layout) image) i i_inside in
            absurd (omega (arith, rw first-holders at bit, is.marked i i_inside, is.single i, seen i, i_away))
        go false e = refl

    refused : verdict (first layout) image ≡ 6
    unfolding verdict volume_tests first_of entries entries_rule every allowed_bits
    refused =
        let n = sector_count image in
        let root = is.each 1 (root_indexed (second layout) image) in
        rw (
          is_size image is.whole is.size.0 is.size.1,
          is_label n (sector_of image 0) is.label,
          first_alone layout image,
          is_index n (sector_of image 1) root.index,
          index_passes (first layout) image 1 (record { index = root.index; descriptors = λ p h. let d = root.descriptors p h in record { name = d.name; status = d.status; kind = d.kind; chain = d.chain }; ascending = root.ascending }),
          unmapped,
          once_held (holders (first layout) image) (λ k. rw first-holders (omega (arith, is.single k, seen k))),
        )

pub both_editions : BothEditions
unfolding entries allowed_bits
both_editions =
    record {
      root_alone = λ layout image directory some. index_first_edition (first layout) image directory refl some;
      same = λ layout image none. (
        (λ is. sound_by (second layout) (first layout) image is (first_alone layout image ∙ sym (second_alone layout image none)) (none_are (sector_count image)) (λ i indexed p h. ((is.each i indexed).descriptors p h).status)),
        (λ is. sound_by (first layout) (second layout) image is (second_alone layout image none ∙ sym (first_alone layout image)) (absent_are layout image none) (λ i indexed p h. ((is.each i indexed).descriptors p h).status)),
      );
      refused = λ layout image is many. refused layout image is many;
    }

-- A change that is cut. What is on the medium agrees with the volume before the change as long as only sector 0 and sectors that nobody holds were written, and with the volume after it once what is still to be written
-- is held by no file. Repair then gives that volume's catalogues.
use mathlib.Core.Path.{◌≡◌, sym, ap, ◌∙◌}
use mathlib.Core.Logic.{◌⊎◌, inl, inr}
use mathlib.Core.List.{List, [], ◌∷◌, ◌++◌}
use Prim.Native.Nat.{ℕ, zero, suc, ◌*◌, ◌/◌, ◌≤◌, ◌<◌}
use native.Mathlib.Omega.{arith}
use native.Mathlib.Decide.{dec_lt, ℕ_discrete}
use lib.ListN.{length, take, length-append}
use lib.Seq.{take_all, take-append-le}
use Rattle.rules.specs.Bytes.{byte_at}
use Rattle.rules.specs.Sectors.{sector_of, sector_count, through, written}
use Rattle.rules.specs.Map.{count}
use Rattle.rules.specs.Index.{numbers}
use Rattle.rules.specs.Volume.{indexes, files_in, files_of, file_holders, holders, catalogues}
use Rattle.rules.specs.Sound.{IsIndexed, Sound}
use Rattle.rules.specs.Calls.Repair.{Mendable}
use Rattle.rules.specs.declared.Layout.{Layout}
use Rattle.rules.proofs.Sectors.{image_same}
use Rattle.rules.proofs.Map.{count_none, count_here, count_append}
use Rattle.rules.proofs.Staying.{indexes_kept}
use Rattle.rules.proofs.Written.{written-length, entries_stand}
use Rattle.rules.proofs.Through.{sector_through, sector_stood}
use Rattle.rules.proofs.Listed.{index_low}
use Rattle.demands.specs.Call as call
use Rattle.demands.specs.Call.{Version, number_of}
use Rattle.demands.specs.Grounds.{First, mending_faults, grounds}
use Rattle.demands.specs.Effects.{Kept}
use Rattle.demands.specs.Touches.{Others}
use Rattle.demands.specs.Demand2.{Means, Demand2}
use Rattle.demands.specs.Stop.{Restores}
use Rattle.demands.proofs.Agreeing.{Agrees, held_away, agreed_mendable, agreed_catalogues}

-- what can be mended has none of repair's grounds
pub mendable_done : (layout : Layout) (image : List ℕ) (n : ℕ) → Mendable layout image → First n (mending_faults layout image) → n ≡ 0
unfolding First mending_faults
mendable_done layout image n is (inl one) = absurd (one.0 (record { whole = is.whole; range = is.size }))
mendable_done layout image n is (inr (_, inl two)) = absurd (two.0 is.label)
mendable_done layout image n is (inr (_, inr (_, inl three))) = absurd (three.0 (record { entered = is.entered; each = λ i indexed. (is.each i indexed).index }))
mendable_done layout image n is (inr (_, inr (_, inr (_, inl four)))) = absurd (four.0 (record { descriptors = λ i indexed. (is.each i indexed).descriptors; distinct = λ i indexed. (is.each i indexed).distinct }))
mendable_done layout image n is (inr (_, inr (_, inr (_, inr (_, inl five))))) = absurd (omega (arith, five.0.twice, is.single five.0.sector))
mendable_done layout image n is (inr (_, inr (_, inr (_, inr (_, inr none))))) = none.1

-- so repair is done on what agrees with a sound volume, and gives its catalogues
pub restored : (layout : Layout) (version : Version) → Demand2 layout version → (volume medium : List ℕ) → Sound layout volume → Agrees layout volume medium → Restores layout version medium (catalogues layout volume)
unfolding grounds Means
restored layout version meets volume medium is agrees =
    let done = mendable_done layout medium (number_of version call.repair medium) (agreed_mendable layout volume medium is agrees) (meets.progress call.repair medium) in
    let m = meets.mends medium done in
    record { done = done; sound = m.sound; catalogues_are = agreed_catalogues layout volume medium is agrees _ _ m }

-- a part of a list counts no more
pub take_count : (j m : ℕ) (ks : List ℕ) → count j (take m ks) ≤ count j ks
take_count j zero ks = omega (arith, count_none j)
take_count j (suc m) [] = omega arith
take_count j (suc m) (k ∷ ks) = omega (arith, take_count j m ks, count_append j (k ∷ []) (take m ks), count_append j (k ∷ []) ks)

-- the medium after some sectors of the image afterwards were written
module _ (image after : List ℕ) (whole : length image ≡ 256 * sector_count image) (size : length after ≡ length image) where
  abbrev on : List ℕ → List ℕ
  on done = written image (through after done)

  pub on_size : (done : List ℕ) → length (on done) ≡ length image
  on_size done = written-length image (through after done)

  pub on_written : (done : List ℕ) (j : ℕ) → j < sector_count image → 1 ≤ count j done → sector_of (on done) j ≡ sector_of after j
  on_written = sector_through image after whole size

  pub on_stood : (done : List ℕ) (j : ℕ) → count j done ≡ 0 → sector_of (on done) j ≡ sector_of image j
  on_stood = sector_stood image after whole size

  pub on_label : 1 ≤ sector_count image → ((b : ℕ) → b < 56 → byte_at (sector_of after 0) b ≡ byte_at (sector_of image 0) b) → (done : List ℕ) (b : ℕ) → b < 56 → byte_at (sector_of (on done) 0) b ≡ byte_at (sector_of image 0) b
  on_label large label done b low =
      elim (dec_lt 0 (count 0 done)) [
        | yes some ↦ ap (λ (s : List ℕ). byte_at s b) (on_written done 0 large some) ∙ label b low
        | no none ↦ ap (λ (s : List ℕ). byte_at s b) (on_stood done 0 (omega (arith, none)))
      ]

  -- when all are written, it holds the image afterwards
  pub all_written : (order : List ℕ) → Others image after order → on order ≡ after
  all_written order others =
      image_same (on order) after (on_size order ∙ sym size) (on_size order ∙ whole ∙ ap (λ (l : ℕ). 256 * (l / 256)) (sym (on_size order)))
      (λ j low.
      let inside : j < sector_count image = omega (arith, low, ap (λ (l : ℕ). l / 256) (on_size order)) in
      elim (dec_lt 0 (count j order)) [
        | yes some ↦ on_written order j inside some
        | no none ↦ on_stood order j (omega (arith, none)) ∙ sym (others j inside (omega (arith, none)))
      ])

-- of a change of a sound volume
module _ (layout : Layout) (image after : List ℕ) (i : ℕ) (name : List ℕ) (is : Sound layout image) (now : Sound layout after) (size : length after ≡ length image) (kept : Kept layout image after i name) where
  abbrev medium : List ℕ → List ℕ
  medium done = written image (through after done)

  same_count : sector_count after ≡ sector_count image
  same_count = ap (λ (m : ℕ). m / 256) size

  same_indexes : indexes layout after ≡ indexes layout image
  same_indexes = indexes_kept layout image after (entries_stand layout image after is size kept.label)

  -- an index and what files hold are holders
  index_holds : (j : ℕ) → IsIndexed layout image j → 1 ≤ count j (holders layout image)
  unfolding holders
  index_holds j indexed = omega (arith, indexed, count_append j (0 ∷ []) (indexes layout image ++ file_holders image (files_of image (indexes layout image))), count_append j (indexes layout image) (file_holders image (files_of image (indexes layout image))))

  file_holds : (j : ℕ) → 1 ≤ count j (file_holders image (files_of image (indexes layout image))) → 1 ≤ count j (holders layout image)
  unfolding holders
  file_holds j held = omega (arith, held, count_append j (0 ∷ indexes layout image) (file_holders image (files_of image (indexes layout image))))

  -- only sector 0 and sectors that nobody holds were written
  pub agrees_before : (done : List ℕ) → ((j : ℕ) → 1 ≤ count j done → (j ≡ 0) ⊎ (count j (holders layout image) ≡ 0)) → Agrees layout image (medium done)
  unfolding files_in
  agrees_before done spared =
      let apart : (j : ℕ) → (j ≡ 0 → ⊥) → 1 ≤ count j (holders layout image) → count j done ≡ 0 =
      λ j some held.
      elim (dec_lt 0 (count j done)) [
        | yes there ↦ go (spared j there) some held
        | no none ↦ omega (arith, none)
      ]
      in
      let index : (j : ℕ) → IsIndexed layout image j → sector_of (medium done) j ≡ sector_of image j = λ j indexed. on_stood image after is.whole size done j (apart j (λ e. omega (arith, e, index_low layout image is j indexed)) (index_holds j indexed)) in
      record {
        size = on_size image after is.whole size done;
        label = on_label image after is.whole size (omega (arith, is.size)) kept.label done;
        index = λ j indexed. rw (index j indexed) (is.each j indexed).index;
        listed = λ j indexed k. ap (λ (s : List ℕ). count k (numbers s)) (index j indexed);
        held = λ j held. on_stood image after is.whole size done j (apart j (λ e. omega (arith, (held_away layout image is j held).0, count_here 0 (indexes layout image), rw e at held, ap (λ (k : ℕ). count k (0 ∷ indexes layout image)) e)) (file_holds j held));
      }
    where
      go : {j : ℕ} → (j ≡ 0) ⊎ (count j (holders layout image) ≡ 0) → (j ≡ 0 → ⊥) → 1 ≤ count j (holders layout image) → count j done ≡ 0
      go (inl is) some held = absurd (some is)
      go (inr none) some held = absurd (omega (arith, none, held))

  -- what is still to be written is held by no file, and the index of the directory lists its numbers
  pub agrees_after : (order done : List ℕ) → Others image after order → ((j : ℕ) → 1 ≤ count j order → count j done ≡ 0 → count j (file_holders after (files_of after (indexes layout after))) ≡ 0)
      → (1 ≤ count i done) ⊎ ((j : ℕ) → count j (files_in image i) ≡ count j (files_in after i)) → Agrees layout after (medium done)
  unfolding files_in
  agrees_after order done others late own =
      let stands : (j : ℕ) → j < sector_count image → count j order ≡ 0 → sector_of (medium done) j ≡ sector_of after j =
      λ j inside none.
      elim (dec_lt 0 (count j done)) [
        | yes some ↦ on_written image after is.whole size done j inside some
        | no stood ↦ on_stood image after is.whole size done j (omega (arith, stood)) ∙ sym (others j inside none)
      ]
      in
      let inside : (j : ℕ) → IsIndexed layout after j → j < sector_count image = λ j indexed. (index_low layout image is j (rw same_indexes at indexed)).1 in
      record {
        size = on_size image after is.whole size done ∙ sym size;
        label = λ b low. on_label image after is.whole size (omega (arith, is.size)) kept.label done b low ∙ sym (kept.label b low);
        index = λ j indexed.
            elim (dec_lt 0 (count j done)) [
              | yes some ↦ rw (on_written image after is.whole size done j (inside j indexed) some) (now.each j indexed).index
              | no stood ↦ rw (on_stood image after is.whole size done j (omega (arith, stood)), same_count) (is.each j (rw same_indexes at indexed)).index
            ];
        listed = λ j indexed k.
            elim (dec_lt 0 (count j done)) [
              | yes some ↦ ap (λ (s : List ℕ). count k (numbers s)) (on_written image after is.whole size done j (inside j indexed) some)
              | no stood ↦
                  ap (λ (s : List ℕ). count k (numbers s)) (on_stood image after is.whole size done j (omega (arith, stood)))
                  ∙ elim (ℕ_discrete j i) [
                    | yes here ↦ rw here (same own (rw here at stood) k)
                    | no other ↦ ap (λ (s : List ℕ). count k (numbers s)) (sym (kept.index j (rw same_indexes at indexed) other))
                  ]
            ];
        held = λ j held.
            let there = (held_away layout after now j held).1 in
            elim (dec_lt 0 (count j order)) [
              | yes some ↦
                  elim (dec_lt 0 (count j done)) [
                    | yes written ↦ on_written image after is.whole size done j (omega (arith, there, same_count)) written
                    | no not ↦ absurd (omega (arith, held, late j some (omega (arith, not))))
                  ]
              | no none ↦ stands j (omega (arith, there, same_count)) (omega (arith, none))
            ];
      }
    where
      same : (1 ≤ count i done) ⊎ ((j : ℕ) → count j (files_in image i) ≡ count j (files_in after i)) → (0 < count i done → ⊥) → (k : ℕ) → count k (files_in image i) ≡ count k (files_in after i)
      same (inl some) stood = absurd (stood some)
      same (inr counts) stood = counts

  -- the write that commits the change comes last, and before it only sector 0 and sectors that nobody holds are written
  pub commits_last : (front : List ℕ) (last : ℕ) → Others image after (front ++ (last ∷ [])) → ((j : ℕ) → 1 ≤ count j front → (j ≡ 0) ⊎ (count j (holders layout image) ≡ 0))
      → (m : ℕ) → Agrees layout image (medium (take m (front ++ (last ∷ [])))) ⊎ (medium (take m (front ++ (last ∷ []))) ≡ after)
  commits_last front last others spared m =
      elim (dec_lt (length front) m) [
        | yes past ↦ inr (ap medium (take_all m (front ++ (last ∷ [])) (omega (arith, past, length-append front (last ∷ [])))) ∙ all_written image after is.whole size (front ++ (last ∷ [])) others)
        | no early ↦
            inl (rw (take-append-le m front (last ∷ []) (omega (arith, early))) (agrees_before (take m front) (λ j some. spared j (omega (arith, some, take_count j m front)))))
      ]

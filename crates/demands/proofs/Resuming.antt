-- A repair that is cut: what is on the medium agrees with the volume that it makes, and is mended to it.
use mathlib.Core.Path.{◌≡◌, refl, sym, ap, ◌∙◌}
use mathlib.Core.List.{List, [], ◌∷◌, ◌++◌}
use Prim.Native.Nat.{ℕ, ◌/◌, ◌≤◌, ◌<◌}
use native.Mathlib.Omega.{arith}
use native.Mathlib.Decide.{dec_lt}
use lib.ListN.{length}
use Rattle.rules.specs.Bytes.{byte_at}
use Rattle.rules.specs.Sectors.{sector_of, sector_count, through, written}
use Rattle.rules.specs.Map.{count}
use Rattle.rules.specs.Index.{numbers}
use Rattle.rules.specs.Volume.{indexes, files_in}
use Rattle.rules.specs.Sound.{IsIndexed}
use Rattle.rules.specs.Calls.Repair.{Mendable}
use Rattle.rules.specs.declared.Layout.{Layout}
use Rattle.rules.proofs.Map.{count_append}
use Rattle.rules.proofs.Directory.{entries_kept}
use Rattle.rules.proofs.Sectors.{sector_length}
use Rattle.rules.proofs.Staying.{indexes_kept}
use Rattle.rules.proofs.Listed.{index_low}
use Rattle.demands.specs.Repairing.{Mends}
use Rattle.demands.proofs.Agreeing.{Agrees, held_away}
use Rattle.demands.proofs.Mending.{mends_count, mends_long, mends_indexes}
use Rattle.demands.proofs.Cutting.{on_size, on_written, on_stood, on_label}

module _ (layout : Layout) (image after order : List ℕ) (is : Mendable layout image) (m : Mends layout image after order) (done : List ℕ) (among : (j : ℕ) → count j done ≤ count j order) where
  abbrev medium : List ℕ
  medium = written image (through after done)

  same_count : sector_count after ≡ sector_count image
  same_count = mends_count layout image after order m

  stood : (j : ℕ) → count j done ≡ 0 → sector_of medium j ≡ sector_of image j
  stood = on_stood image after is.whole m.size done

  put : (j : ℕ) → j < sector_count image → 1 ≤ count j done → sector_of medium j ≡ sector_of after j
  put = on_written image after is.whole m.size done

  -- what repair does not write
  other : (j : ℕ) → j < sector_count image → count j (0 ∷ indexes layout image) ≡ 0 → sector_of medium j ≡ sector_of after j
  other j inside none =
      let all = indexes layout image in
      stood j (omega (arith, among j, ap (count j) m.writes, none, count_append j all (0 ∷ []), count_append j (0 ∷ []) all)) ∙ sym (m.others j inside none)

  -- an index, written or not
  module _ (i : ℕ) (indexed : IsIndexed layout image i) where
    inside : i < sector_count image
    inside = omega (arith, index_low layout after m.sound i (rw (mends_indexes layout image after order m) indexed), same_count)

    counts : (j : ℕ) → count j (files_in medium i) ≡ count j (files_in after i)
    unfolding files_in
    counts j =
        elim (dec_lt 0 (count i done)) [
          | yes some ↦ ap (λ (s : List ℕ). count j (numbers s)) (put i inside some)
          | no none ↦ ap (λ (s : List ℕ). count j (numbers s)) (stood i (omega (arith, none))) ∙ omega (arith, (m.numbers i indexed).lists j)
        ]

  label : (b : ℕ) → b < 56 → byte_at (sector_of medium 0) b ≡ byte_at (sector_of image 0) b
  label = on_label image after is.whole m.size (omega (arith, is.size)) m.label done

  pub resumed_agrees : Agrees layout after medium
  resumed_agrees =
      let same = mends_indexes layout image after order m in
      record {
        size = on_size image after is.whole m.size done ∙ sym m.size;
        label = λ b low. label b low ∙ sym (m.label b low);
        index = λ i indexed.
            let there = rw same at indexed in
            elim (dec_lt 0 (count i done)) [
              | yes some ↦ rw (put i (inside i there) some) (m.sound.each i indexed).index
              | no none ↦ rw (stood i (omega (arith, none)), same_count) (is.each i there).index
            ];
        listed = λ i indexed. counts i (rw same at indexed);
        held = λ j held.
            let away = held_away layout after m.sound j held in
            other j (omega (arith, away.1, same_count)) (ap (λ (l : List ℕ). count j (0 ∷ l)) (sym same) ∙ away.0);
      }

  pub resumed_mends : Mends layout medium after (indexes layout medium ++ (0 ∷ []))
  resumed_mends =
      let long : length (sector_of medium 0) ≡ 256 = sector_length medium 0 (omega (arith, on_size image after is.whole m.size done, is.whole, is.size)) in
      let same = indexes_kept layout image medium (entries_kept layout (sector_of image 0) (sector_of medium 0) (long ∙ sym (mends_long layout image after order m)) label) in
      record {
        sound = m.sound;
        size = m.size ∙ sym (on_size image after is.whole m.size done);
        label = λ b low. m.label b low ∙ sym (label b low);
        bytes = m.bytes;
        numbers = λ i indexed.
            let there = rw same at indexed in
            record { lists = λ j. omega (arith, counts i there j); laid = (m.numbers i there).laid };
        others = λ j within none.
            sym (other j (omega (arith, within, ap (λ (l : ℕ). l / 256) (on_size image after is.whole m.size done))) (ap (λ (l : List ℕ). count j (0 ∷ l)) (sym same) ∙ none));
        writes = refl;
      }

-- Laying the label: what the index sectors of the entries from a directory on still make of it, at the start, an entry further, and behind the last.
use mathlib.Core.Path.{◌≡◌, refl, sym, ap, ◌∙◌}
use mathlib.Core.Logic.{inl, inr}
use mathlib.Core.Bool.{Bool, true, false}
use mathlib.Core.List.{List, [], ◌∷◌, map}
use Prim.Native.Nat.{ℕ, zero, suc, ◌+◌, ◌-◌, ◌*◌, ◌≤◌, ◌<◌}
use native.Mathlib.Omega.{arith}
use native.Mathlib.Nat.{zero-add, suc-add}
use lib.ListN.{length, length-map}
use Rattle.rules.specs.Bytes.{byte_at, word_at, word_bytes, part, over, splice}
use Rattle.rules.specs.Sectors.{sector_of}
use Rattle.rules.specs.Directory.{entries, entry_index}
use Rattle.rules.specs.Volume.{directories, index_at, indexes}
use Rattle.rules.specs.Sound.{Sound}
use Rattle.rules.specs.Calls.Pack.{with_indexes, label_area, packed_label}
use Rattle.rules.specs.declared.Layout.{Layout}
use Rattle.rules.proofs.Splice.{splice-length, splice_inside, splice_above}
use Rattle.rules.proofs.Sectors.{sector_length}
use Rattle.rules.proofs.Volume.{get_mapped}
use Rattle.rules.proofs.Pack.{entry_byte, numbered_from, numbered_absent, numbered_there, numbered_length, front_length, front_byte, packed_label_lem}
use Rattle.std.specs.Option.{is_some}
use Rattle.sector.specs.Directories.{some_index, indexes_from}
use Rattle.sector.proofs.DirectoryLaws.{directories_few, behind_root, from_absent, from_there, from_past}
use Rattle.packing.proofs.DirectoryLaws.{left, Here, left_here, left_end}

-- an entry has an index, or it has none
pub index_there : (i : ℕ) (there : Bool) → there ≡ is_some (some_index i) → there ≡ true → i ≡ 0 → ⊥
index_there zero there e some none = absurd (let z : true ≡ false = sym some ∙ e in cc)
index_there (suc less) there e some none = omega (arith, none)

pub index_absent : (i : ℕ) (there : Bool) → there ≡ is_some (some_index i) → there ≡ false → i ≡ 0
index_absent zero there e gone = refl
index_absent (suc less) there e gone = absurd (let z : true ≡ false = sym e ∙ gone in cc)

-- bytes that stand there already
over_stands : (buffer bytes : List ℕ) → ((i : ℕ) → i < length bytes → byte_at buffer i ≡ byte_at bytes i) → over buffer bytes ≡ buffer
unfolding over
over_stands [] bytes same = refl
over_stands (b ∷ buffer) [] same = refl
over_stands (b ∷ buffer) (c ∷ bytes) same =
    ap (λ (l : List ℕ). c ∷ l) (over_stands buffer bytes (λ i h. same (suc i) (omega arith))) ∙ ap (λ (d : ℕ). d ∷ buffer) (sym (same 0 (omega arith)))

splice_stands : (buffer : List ℕ) (at : ℕ) (bytes : List ℕ) → ((i : ℕ) → i < length bytes → byte_at buffer (at + i) ≡ byte_at bytes i) → splice buffer at bytes ≡ buffer
unfolding splice
splice_stands buffer zero bytes same = over_stands buffer bytes (λ i h. rw (zero-add i) at (same i h))
splice_stands [] (suc at) bytes same = refl
splice_stands (b ∷ buffer) (suc at) bytes same = ap (λ (l : List ℕ). b ∷ l) (splice_stands buffer at bytes (λ i h. rw (suc-add at i) at (same i h)))

-- bytes laid over those at the front
splice_within : (buffer front : List ℕ) (at : ℕ) (bytes : List ℕ) → at + length bytes ≤ length front → splice (splice buffer 0 front) at bytes ≡ splice buffer 0 (splice front at bytes)
unfolding splice over
splice_within [] front zero bytes h = refl
splice_within [] front (suc at) bytes h = refl
splice_within (b ∷ buffer) [] zero [] h = refl
splice_within (b ∷ buffer) [] zero (d ∷ bytes) h = absurd (omega arith)
splice_within (b ∷ buffer) [] (suc at) bytes h = absurd (omega arith)
splice_within (b ∷ buffer) (c ∷ front) zero [] h = refl
splice_within (b ∷ buffer) (c ∷ front) zero (d ∷ bytes) h = ap (λ (l : List ℕ). d ∷ l) (splice_within buffer front zero bytes (omega arith))
splice_within (b ∷ buffer) (c ∷ front) (suc at) bytes h = ap (λ (l : List ℕ). c ∷ l) (splice_within buffer front at bytes (omega arith))

with_front : (buffer label : List ℕ) (at : ℕ) (is : List ℕ) → at + 12 * length is ≤ 10 + length label → with_indexes (splice buffer 0 label) at is ≡ splice buffer 0 (with_indexes label at is)
unfolding with_indexes
with_front buffer label at [] h = refl
with_front buffer label at (i ∷ is) h =
    ap (λ (l : List ℕ). with_indexes l (at + 12) is) (splice_within buffer label at (word_bytes i) (omega arith))
    ∙ with_front buffer (splice label at (word_bytes i)) (at + 12) is (omega (arith, h, splice-length label at (word_bytes i)))

-- the index sector of an entry is in two bytes of sector 0
index_bytes : (layout : Layout) (image : List ℕ) (d : ℕ) → 56 ≤ length (sector_of image 0) → d < length (entries layout (sector_of image 0)) → index_at layout image (d + 1) ≡ word_at (sector_of image 0) (30 + 12 * d)
unfolding index_at directories
index_bytes layout image d long inside =
    let sector0 = sector_of image 0 in
    let step : d + 1 ≡ suc d = omega arith in
    let at : 20 + 12 * d + 10 ≡ 30 + 12 * d = omega arith in
    let next : 20 + 12 * d + 11 ≡ 30 + 12 * d + 1 = omega arith in
    let high = rw at at (entry_byte layout sector0 long d inside 10 (omega arith)) in
    let low = rw next at (entry_byte layout sector0 long d inside 11 (omega arith)) in
    rw step (get_mapped entry_index (entries layout sector0) d [] 0 inside ∙ rw (high, low) refl)

-- the label so far: the numbers from `number` on are still to be put into the entries from a directory on, which stand as they stood
pub record Labelled (layout : Layout) (image before after : List ℕ) (number directory : ℕ) : Type 0 where
  pub from : 1 ≤ directory
  pub few : number ≤ directory + 1
  pub kept : length after ≡ length before
  pub many : number + length (indexes_from layout image directory) ≡ 1 + length (indexes layout image)
  pub stands : (j : ℕ) → 18 + 12 * directory ≤ j → j < 56 → byte_at after j ≡ byte_at (sector_of image 0) j
  pub same : with_indexes after (18 + 12 * directory) (numbered_from number (left layout image directory)) ≡ with_indexes before 30 (numbered_from 2 (left layout image 1))

module _ (layout : Layout) (image : List ℕ) (is : Sound layout image) where
  long : length (sector_of image 0) ≡ 256
  long = sector_length image 0 (omega (arith, is.whole, is.size))

  -- it begins as the source's 56 bytes
  module _ (target laid : List ℕ) (laid-is : laid ≡ splice target 0 (part (sector_of image 0) 0 56)) where
    pub labelled_start : 56 ≤ length target → Labelled layout image laid laid 2 1
    labelled_start room =
        let front = part (sector_of image 0) 0 56 in
        record {
          from = omega arith;
          few = omega arith;
          kept = refl;
          many = omega (arith, ap length (behind_root layout image));
          stands = λ j low high.
              let z : 0 + j ≡ j = omega arith in
              ap (λ (l : List ℕ). byte_at l j) laid-is ∙ rw z at (splice_inside target 0 front j (omega (arith, high, front_length layout image is)) (omega arith)) ∙ front_byte layout image is j high;
          same = refl;
        }

    pub labelled_end : {after : List ℕ} {number directory : ℕ} → Labelled layout image laid after number directory → 4 ≤ directory
        → (number ≡ 1 + length (indexes layout image)) × (after ≡ splice target 0 (packed_label layout (label_area layout image)))
    unfolding with_indexes numbered_from directories
    labelled_end {after} {number} {directory} so_far past =
        let front = part (sector_of image 0) 0 56 in
        let old = map entry_index (entries layout (sector_of image 0)) in
        let few : length (numbered_from 2 old) ≤ 3 = omega (arith, numbered_length 2 old, directories_few layout image) in
        let all : with_indexes laid 30 (numbered_from 2 old) ≡ splice target 0 (packed_label layout (label_area layout image)) =
        rw laid-is (with_front target front 30 (numbered_from 2 old) (omega (arith, few, front_length layout image is)) ∙ ap (splice target 0) (sym (packed_label_lem layout image is)))
        in (
          omega (arith, so_far.many, ap length (from_past layout image directory (omega (arith, past, directories_few layout image)))),
          sym (ap (λ (l : List ℕ). with_indexes after (18 + 12 * directory) (numbered_from number l)) (left_end layout image directory past)) ∙ so_far.same ∙ all,
        )

  module _ {before after : List ℕ} {number directory index : ℕ} (so_far : Labelled layout image before after number directory) (index_is : index ≡ index_at layout image directory) where
    abbrev at : ℕ
    at = 18 + 12 * directory

    further : 18 + 12 * (directory + 1) ≡ 18 + 12 * directory + 12
    further = omega arith

    -- an absent entry has zeros in those bytes
    pub labelled_absent : index ≡ 0 → Labelled layout image before after number (directory + 1)
    unfolding with_indexes numbered_from directories
    labelled_absent none =
        record {
          from = omega arith;
          few = omega (arith, so_far.few);
          kept = so_far.kept;
          many = rw (← from_absent layout image directory _ index_is none) so_far.many;
          stands = λ j low high. so_far.stands j (omega (arith, low)) high;
          same = rw further (unchanged (left_here layout image directory) ∙ so_far.same);
        }
      where
        word : directory < length (directories layout image) → word_at after at ≡ 0
        word inside =
            let d = directory - 1 in
            let here : d + 1 ≡ directory = omega (arith, so_far.from) in
            let place : 30 + 12 * d ≡ at = omega (arith, so_far.from) in
            let entry : d < length (entries layout (sector_of image 0)) = omega (arith, so_far.from, inside, length-map (entries layout (sector_of image 0)) entry_index) in
            let bytes : index_at layout image directory ≡ word_at (sector_of image 0) at = rw (here, place) at (index_bytes layout image d (omega (arith, long)) entry) in
            let low : directory < 4 = omega (arith, inside, directories_few layout image) in
            omega (arith, bytes, index_is, none, so_far.stands at (omega arith) (omega arith), so_far.stands (at + 1) (omega arith) (omega arith))

        zeros : directory < length (directories layout image) → splice after at (word_bytes 0) ≡ after
        zeros inside = splice_stands after at (word_bytes 0) each
          where
            each : (i : ℕ) → i < 2 → byte_at after (at + i) ≡ byte_at (word_bytes 0) i
            each zero h = let z : at + 0 ≡ at = omega arith in rw z (omega (arith, word inside))
            each (suc zero) h = omega (arith, word inside)
            each (suc (suc i)) h = absurd (omega arith)

        unchanged : Here layout image directory
            → with_indexes after (at + 12) (numbered_from number (left layout image (directory + 1))) ≡ with_indexes after at (numbered_from number (left layout image directory))
        unchanged (inl here) =
            sym
            (ap (with_indexes after at) (ap (numbered_from number) here.0 ∙ numbered_absent number (index_at layout image directory) (left layout image (directory + 1)) (sym index_is ∙ none))
            ∙ ap (λ (l : List ℕ). with_indexes l (at + 12) (numbered_from number (left layout image (directory + 1)))) (zeros here.1))
        unchanged (inr past) =
            ap (λ (l : List ℕ). with_indexes after (at + 12) (numbered_from number l)) past.1 ∙ sym (ap (λ (l : List ℕ). with_indexes after at (numbered_from number l)) past.0)

    pub labelled_there : (index ≡ 0 → ⊥) → {later : List ℕ} → later ≡ splice after at (word_bytes number) → Labelled layout image before later (number + 1) (directory + 1)
    unfolding with_indexes
    labelled_there some {later} e =
        record {
          from = omega arith;
          few = omega (arith, so_far.few);
          kept = ap length e ∙ splice-length after at (word_bytes number) ∙ so_far.kept;
          many = omega (arith, rw (from_there layout image directory _ index_is some) at so_far.many);
          stands = λ j low high. ap (λ (l : List ℕ). byte_at l j) e ∙ splice_above after at (word_bytes number) j (omega (arith, low)) ∙ so_far.stands j (omega (arith, low)) high;
          same = rw (further, e) (laid (left_here layout image directory) ∙ so_far.same);
        }
      where
        laid : Here layout image directory
            → with_indexes (splice after at (word_bytes number)) (at + 12) (numbered_from (number + 1) (left layout image (directory + 1))) ≡ with_indexes after at (numbered_from number (left layout image directory))
        laid (inl here) = sym (ap (with_indexes after at) (ap (numbered_from number) here.0 ∙ numbered_there number (index_at layout image directory) (left layout image (directory + 1)) (λ z. some (index_is ∙ z))))
        laid (inr past) = absurd (some (index_is ∙ past.2))

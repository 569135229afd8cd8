-- What a written sector does to each sector of an image, and what several do, the data of a program among them; and a sound volume written anew: what has to be seen of its sectors afterwards for it to be sound.
use mathlib.Core.Path.{◌≡◌, refl, sym, ap, ◌∙◌}
use mathlib.Core.List.{List, [], ◌∷◌, ◌++◌}
use Prim.Native.Nat.{ℕ, ◌+◌, ◌*◌, ◌/◌, ◌≤◌, ◌<◌}
use native.Mathlib.Omega.{arith}
use native.Mathlib.Decide.{dec_lt, ℕ_discrete}
use lib.ListN.{length, get_or, drop, replicate, length-replicate}
use lib.Seq.{ext_get_or}
use Rattle.rules.specs.Bytes.{byte_at, part, over, splice}
use Rattle.rules.specs.Sectors.{sector_of, sector_count, Write, written, Whole}
use Rattle.rules.specs.Label.{IsLabel}
use Rattle.rules.specs.Map.{map_bit, count, taken}
use Rattle.rules.specs.Descriptor.{IsDescriptor}
use Rattle.rules.specs.Index.{IsIndex}
use Rattle.rules.specs.Directory.{entries}
use Rattle.rules.specs.Volume.{indexes, files_in, file_holders, holders}
use Rattle.rules.specs.Sound.{IsIndexed, SoundIndex, Sound}
use Rattle.rules.specs.Calls.Store.{data_writes}
use Rattle.rules.specs.declared.Layout.{Layout}
use Rattle.rules.proofs.Bytes.{part_length, part_at, part_same}
use Rattle.rules.proofs.Splice.{splice-length, splice_none, splice_inside, splice_below, splice_above, splice-part}
use Rattle.rules.proofs.Sectors.{sector_length}
use Rattle.rules.proofs.Map.{count_here, count_more, count_apart, taken_below, taken_past}
use Rattle.rules.proofs.Indexed.{Ascending}
use Rattle.rules.proofs.Directory.{entries_kept}
use Rattle.rules.proofs.Indexes.{others, holders_seen, other_indexed}
use Rattle.rules.proofs.Staying.{indexes_kept, others_kept, other_sound}

-- one sector written
module _ (image : List ℕ) (k : ℕ) (sector : List ℕ) (long : length sector ≡ 256) where
  pub sector_same : 256 * k + 256 ≤ length image → sector_of (splice image (256 * k) sector) k ≡ sector
  unfolding sector_of
  sector_same fits =
      let size : length (part (splice image (256 * k) sector) (256 * k) 256) ≡ 256 = part_length (splice image (256 * k) sector) (256 * k) 256 (omega (arith, splice-length image (256 * k) sector)) in
      ext_get_or 0 (part (splice image (256 * k) sector) (256 * k) 256) sector (size ∙ sym long)
      (λ i h. part_at (splice image (256 * k) sector) (256 * k) 256 i (omega (arith, size)) ∙ splice_inside image (256 * k) sector i (omega (arith, size)) (omega (arith, size)))

  pub sector_other : (j : ℕ) → (j ≡ k → ⊥) → sector_of (splice image (256 * k) sector) j ≡ sector_of image j
  unfolding sector_of
  sector_other j other =
      part_same (splice image (256 * k) sector) image (256 * j) 256 (splice-length image (256 * k) sector)
      (λ i low high.
      elim (dec_lt j k) [
        | yes before ↦ splice_below image (256 * k) sector i (omega arith)
        | no behind ↦ splice_above image (256 * k) sector i (omega (arith, other))
      ])

-- a sector laid where it lies
pub sector_back : (image : List ℕ) (k : ℕ) → splice image (256 * k) (sector_of image k) ≡ image
unfolding sector_of
sector_back image k = ap (splice image (256 * k)) (sym (splice_none (sector_of image k) 0)) ∙ splice-part image (256 * k) 256 0 [] (omega arith) ∙ splice_none image (256 * k + 0)

-- several, one after the other
pub whole_both : (size : ℕ) (first second : List Write) → Whole size first → Whole size second → Whole size (first ++ second)
unfolding Whole
whole_both size [] second whole more = more
whole_both size (write ∷ first) second whole more = (whole.0, whole.1, whole_both size first second whole.2 more)

pub written-length : (image : List ℕ) (writes : List Write) → length (written image writes) ≡ length image
unfolding written
written-length image [] = refl
written-length image (write ∷ writes) = written-length (splice image (256 * write.sector) write.bytes) writes ∙ splice-length image (256 * write.sector) write.bytes

pub written_both : (image : List ℕ) (first second : List Write) → written (written image first) second ≡ written image (first ++ second)
unfolding written
written_both image [] second = refl
written_both image (write ∷ first) second = written_both (splice image (256 * write.sector) write.bytes) first second

-- a sector that none of them names stands as it stood
unfoldable pub Apart : ℕ → List Write → Type 0
Apart j [] = Unit {0}
Apart j (write ∷ writes) = (j ≡ write.sector → ⊥) × Apart j writes

pub written_apart : (image : List ℕ) (writes : List Write) (j : ℕ) → Whole (length image) writes → Apart j writes → sector_of (written image writes) j ≡ sector_of image j
unfolding written Whole Apart
written_apart image [] j whole apart = refl
written_apart image (write ∷ writes) j whole apart =
    let size = splice-length image (256 * write.sector) write.bytes in
    written_apart (splice image (256 * write.sector) write.bytes) writes j (rw size whole.2) apart.1 ∙ sector_other image write.sector write.bytes whole.0 j apart.0

-- a sector that was written and that no later write names
pub written_at : (image : List ℕ) (before : List Write) (this : Write) (behind : List Write) → Whole (length image) (before ++ (this ∷ behind)) → Apart this.sector behind
    → sector_of (written image (before ++ (this ∷ behind))) this.sector ≡ this.bytes
unfolding written Whole
written_at image [] this behind whole apart =
    let size = splice-length image (256 * this.sector) this.bytes in
    written_apart (splice image (256 * this.sector) this.bytes) behind this.sector (rw size whole.2) apart
    ∙ sector_same image this.sector this.bytes whole.0 whole.1
written_at image (first ∷ before) this behind whole apart =
    let size = splice-length image (256 * first.sector) first.bytes in
    written_at (splice image (256 * first.sector) first.bytes) before this behind (rw size whole.2) apart

-- a sector of a program's data, and all of them, to sectors of the image
pub piece_length : (bytes : List ℕ) → length (over (replicate 256 0) bytes) ≡ 256
unfolding splice
piece_length bytes = splice-length (replicate 256 0) 0 bytes ∙ length-replicate {A = ℕ} 256 0

pub data_whole : (size : ℕ) (bytes ks : List ℕ) → ((j : ℕ) → 1 ≤ count j ks → 256 * j + 256 ≤ size) → Whole size (data_writes bytes ks)
unfolding Whole data_writes
data_whole size bytes [] inside = tt
data_whole size bytes (k ∷ ks) inside =
    (piece_length bytes, inside k (omega (arith, count_here k ks)), data_whole size (drop 256 bytes) ks (λ j h. inside j (omega (arith, h, count_more j k ks))))

pub data_apart : (bytes ks : List ℕ) (j : ℕ) → count j ks ≡ 0 → Apart j (data_writes bytes ks)
unfolding Apart data_writes
data_apart bytes [] j other = tt
data_apart bytes (k ∷ ks) j other = let apart = count_apart j k ks other in (apart.0, data_apart (drop 256 bytes) ks j apart.1)

-- a volume of the same size and label, in which index i lists the files ks; what the other indexes and their files hold stands as it stood
pub record Rebuilt (layout : Layout) (image after : List ℕ) (i : ℕ) (ks : List ℕ) : Type 0 where
  pub size : length after ≡ length image
  pub label : (b : ℕ) → b < 56 → byte_at (sector_of after 0) b ≡ byte_at (sector_of image 0) b
  pub index : IsIndex (sector_count image) (sector_of after i)
  pub files_are : files_in after i ≡ ks
  pub descriptors : (p : ℕ) → p < length ks → IsDescriptor layout (sector_count image) (sector_of after (get_or ks p 0))
  pub ascending : Ascending after ks
  pub elsewhere : (j : ℕ) → 1 ≤ count j (others layout image i) → sector_of after j ≡ sector_of image j
  pub single : (k : ℕ) → count k (0 ∷ (i ∷ (file_holders after ks ++ others layout image i))) ≤ 1
  pub map : (k : ℕ) → k < 1600 → map_bit (sector_of after 0) k ≡ taken (sector_count image) (0 ∷ (i ∷ (file_holders after ks ++ others layout image i))) k

pub label_kept : (n : ℕ) (before after : List ℕ) → length before ≡ 256 → length after ≡ 256 → ((i : ℕ) → i < 56 → byte_at after i ≡ byte_at before i) → IsLabel n before → IsLabel n after
label_kept n before after long long' same is =
    let name = part_same after before 0 10 (long' ∙ sym long) (λ i low high. same i (omega arith)) in
    record {
      name = rw name is.name;
      count = rw (same 10 (omega arith), same 11 (omega arith)) is.count;
      dsk = rw (same 13 (omega arith), same 14 (omega arith), same 15 (omega arith)) is.dsk;
    }

-- so its entries are those that it had
pub entries_stand : (layout : Layout) (image after : List ℕ) → Sound layout image → length after ≡ length image → ((b : ℕ) → b < 56 → byte_at (sector_of after 0) b ≡ byte_at (sector_of image 0) b)
    → entries layout (sector_of after 0) ≡ entries layout (sector_of image 0)
entries_stand layout image after is size label =
    let long : length (sector_of image 0) ≡ 256 = sector_length image 0 (omega (arith, is.whole, is.size)) in
    let long' : length (sector_of after 0) ≡ 256 = sector_length after 0 (omega (arith, size, is.whole, is.size)) in
    entries_kept layout (sector_of image 0) (sector_of after 0) (long' ∙ sym long) label

pub sound_again : (layout : Layout) (image after : List ℕ) (i : ℕ) (ks : List ℕ) → Sound layout image → IsIndexed layout image i → Rebuilt layout image after i ks → Sound layout after
sound_again layout image after i ks is indexed re =
    let n : sector_count after ≡ sector_count image = ap (λ (m : ℕ). m / 256) re.size in
    let long : length (sector_of image 0) ≡ 256 = sector_length image 0 (omega (arith, is.whole, is.size)) in
    let long' : length (sector_of after 0) ≡ 256 = sector_length after 0 (omega (arith, re.size, is.whole, is.size)) in
    let same = entries_stand layout image after is re.size re.label in
    let is_same = indexes_kept layout image after same in
    let seen : (k : ℕ) → count k (holders layout after) ≡ count k (0 ∷ (i ∷ (file_holders after ks ++ others layout image i))) =
    λ k. rw (re.files_are, others_kept layout image after i re.elsewhere is_same) at (holders_seen layout after i (rw is_same indexed) k)
    in
    record {
      whole = re.size ∙ is.whole ∙ ap (λ (m : ℕ). 256 * m) (sym n);
      size = rw n is.size;
      label = rw n (label_kept (sector_count image) (sector_of image 0) (sector_of after 0) long long' re.label is.label);
      entered = rw (n, same) is.entered;
      each = λ j there. each n j (rw is_same at there);
      single = λ k. rw (seen k) (re.single k);
      marked = λ k h. re.map k (omega (arith, is.size, n, h)) ∙ taken_below (sector_count image) (0 ∷ (i ∷ (file_holders after ks ++ others layout image i))) k (omega (arith, n, h)) ∙ sym (seen k);
      filled = rw n (λ k h low. re.map k low ∙ taken_past (sector_count image) (0 ∷ (i ∷ (file_holders after ks ++ others layout image i))) k h);
    }
  where
    each : sector_count after ≡ sector_count image → (j : ℕ) → 1 ≤ count j (indexes layout image) → SoundIndex layout after j
    each n j there =
        elim (ℕ_discrete j i) [
          | yes here ↦ rw here (record { index = rw n re.index; descriptors = rw (re.files_are, n) re.descriptors; ascending = rw re.files_are re.ascending })
          | no other ↦ other_sound layout image after i re.elsewhere j (other_indexed layout image i j indexed other there) n (is.each j there)
        ]

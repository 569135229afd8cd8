-- One file of an index of a sound volume goes, one comes, or both; what the others hold stands as it stood, and the map is that of the holders afterwards. Then the volume is sound
-- again, and its free count is less what the one holds and more what the other held. The file that comes is told as it stands in the image afterwards.
-- Every change of a file fills in the record `Replaced`: a file that is changed goes and comes under its own name.
use mathlib.Core.Path.{◌≡◌, refl, sym, ap, ◌∙◌}
use mathlib.Core.List.{List, [], ◌∷◌, ◌++◌}
use Prim.Native.Nat.{ℕ, ◌+◌, ◌/◌, ◌≤◌, ◌<◌}
use native.Mathlib.Omega.{arith}
use native.Mathlib.Decide.{dec_lt}
use lib.ListN.{length, get_or, length-append}
use Rattle.rules.specs.Bytes.{byte_at}
use Rattle.rules.specs.Sectors.{sector_of, sector_count}
use Rattle.rules.specs.Map.{map_bit, count, taken, free_count, marked_all}
use Rattle.rules.specs.Descriptor.{name_of, IsDescriptor}
use Rattle.rules.specs.Index.{index_of, without, IsIndex}
use Rattle.rules.specs.Directory.{entries}
use Rattle.rules.specs.Volume.{files_in, name_in, places_in, file_holders, holders, file_in, placed}
use Rattle.rules.specs.Sound.{IsIndexed, Sound}
use Rattle.rules.specs.declared.Layout.{Layout}
use Rattle.rules.proofs.Map.{taken_same, count_none, count_here, count_more, count_at, count_append}
use Rattle.rules.proofs.Indexes.{others, holders_seen, holders_inside}
use Rattle.rules.proofs.Free.{free_holders}
use Rattle.rules.proofs.Marking.{all_label, marked_holders, cleared_holders}
use Rattle.rules.proofs.Choice.{Chosen}
use Rattle.rules.proofs.Indexed.{Ascending, counts_length, without-count, without_all, placed_all, without_ascending, placed_ascending, numbers_index, index_is_index}
use Rattle.rules.proofs.Staying.{holders_kept, indexes_kept, others_kept, file_kept, holders_placed, holders_without, file_holds, free_unheld}
use Rattle.rules.proofs.Listed.{system_and, label_long, map_is, listed_descriptor}
use Rattle.rules.proofs.Written.{Rebuilt, entries_stand, sound_again}

-- at most one file, by the sector of its descriptor
pub data Slot : Type 0 where
  none : Slot
  at : ℕ → Slot

-- the files without the one that goes, and those with the one that comes
abbrev pub staying : Slot → List ℕ → List ℕ
staying none ks = ks
staying (at k) ks = without k ks

abbrev pub coming : (image name : List ℕ) → Slot → List ℕ → List ℕ
coming image name none ks = ks
coming image name (at k) ks = placed image name k ks

-- what it holds
abbrev pub held : List ℕ → Slot → List ℕ
held image none = []
held image (at k) = k ∷ places_in image k

-- the one that goes is a file of index i
abbrev pub IsListed : List ℕ → ℕ → Slot → Type 0
IsListed image i none = Unit {0}
IsListed image i (at k) = 1 ≤ count k (files_in image i)

-- the one that comes keeps its rules, and no other has its name
pub record New (layout : Layout) (image after name rest : List ℕ) (k : ℕ) : Type 0 where
  pub rules : IsDescriptor layout (sector_count image) (sector_of after k)
  pub named : name_in after k ≡ name
  pub alone : (j : ℕ) → 1 ≤ count j rest → name_in image j ≡ name → ⊥

abbrev pub IsNew : (layout : Layout) (image after name rest : List ℕ) → Slot → Type 0
IsNew layout image after name rest none = Unit {0}
IsNew layout image after name rest (at k) = New layout image after name rest k

-- what stays held besides sector 0 and the index: by the files that stay, and by the other indexes and their files
abbrev pub besides : Layout → List ℕ → ℕ → Slot → List ℕ
besides layout image i goes = file_holders image (staying goes (files_in image i)) ++ others layout image i

abbrev pub remaining : Layout → List ℕ → ℕ → Slot → List ℕ
remaining layout image i goes = 0 ∷ (i ∷ besides layout image i goes)

-- sector 0 afterwards: the label as it stood, and the map of the holders, of which no sector has two
pub record Mapped (layout : Layout) (image after : List ℕ) (i : ℕ) (goes comes : Slot) : Type 0 where
  pub label : (b : ℕ) → b < 56 → byte_at (sector_of after 0) b ≡ byte_at (sector_of image 0) b
  pub once : (j : ℕ) → count j (held after comes ++ remaining layout image i goes) ≤ 1
  pub map : (j : ℕ) → j < 1600 → map_bit (sector_of after 0) j ≡ taken (sector_count image) (held after comes ++ remaining layout image i goes) j

-- and the index
pub record Numbered (image after : List ℕ) (i : ℕ) (ks : List ℕ) : Type 0 where
  pub index : IsIndex (sector_count image) (sector_of after i)
  pub files_are : files_in after i ≡ ks

-- what is to be seen of the image afterwards: all else is told by the image before
pub record Replaced (layout : Layout) (image after : List ℕ) (i : ℕ) (name : List ℕ) (goes comes : Slot) : Type 0 where
  pub sound : Sound layout image
  pub indexed : IsIndexed layout image i
  pub listed : IsListed image i goes
  pub size : length after ≡ length image
  pub mapped : Mapped layout image after i goes comes
  pub numbered : Numbered image after i (coming image name comes (staying goes (files_in image i)))
  pub stands : (j : ℕ) → 1 ≤ count j (besides layout image i goes) → sector_of after j ≡ sector_of image j
  pub new : IsNew layout image after name (staying goes (files_in image i)) comes

-- the files that stay, and what the one that goes held
module _ (image : List ℕ) (i : ℕ) where
  pub stayed : (goes : Slot) → IsListed image i goes → (j : ℕ) → 1 ≤ count j (staying goes (files_in image i)) → 1 ≤ count j (files_in image i)
  stayed none listed j some = some
  stayed (at k) listed j some = omega (arith, some, without-count k j (files_in image i) listed, count_more j k (without k (files_in image i)))

  staying_ascending : (goes : Slot) → Ascending image (files_in image i) → Ascending image (staying goes (files_in image i))
  staying_ascending none up = up
  staying_ascending (at k) up = without_ascending image k (files_in image i) up

  parted : (goes : Slot) → IsListed image i goes → (j : ℕ) → count j (file_holders image (files_in image i)) ≡ count j (held image goes) + count j (file_holders image (staying goes (files_in image i)))
  parted none listed j = omega (arith, count_none j)
  parted (at k) listed j = holders_without image k j (files_in image i) listed

pub all_parted : (layout : Layout) (image : List ℕ) (i : ℕ) → IsIndexed layout image i → (goes : Slot) → IsListed image i goes → (j : ℕ)
    → count j (holders layout image) ≡ count j (held image goes) + count j (remaining layout image i goes)
all_parted layout image i indexed goes listed j =
    let own = file_holders image (files_in image i) in
    let left = file_holders image (staying goes (files_in image i)) in
    omega (
      arith,
      holders_seen layout image i indexed j,
      parted image i goes listed j,
      system_and i j (own ++ others layout image i),
      system_and i j (left ++ others layout image i),
      count_append j own (others layout image i),
      count_append j left (others layout image i),
    )

-- what holds of those that stay and of the one that comes
coming_all : (P : ℕ → Type 0) (image name : List ℕ) (comes : Slot) (ks : List ℕ) → ((k : ℕ) → comes ≡ at k → P k) → ((p : ℕ) → p < length ks → P (get_or ks p 0))
    → (p : ℕ) → p < length (coming image name comes ks) → P (get_or (coming image name comes ks) p 0)
coming_all P image name none ks is all = all
coming_all P image name (at k) ks is all = placed_all P k image name ks (is k refl) all

coming_parts : (after image name : List ℕ) (comes : Slot) (j : ℕ) (ks : List ℕ) → count j (file_holders after (coming image name comes ks)) ≡ count j (held after comes) + count j (file_holders after ks)
coming_parts after image name none j ks = omega (arith, count_none j)
coming_parts after image name (at k) j ks = holders_placed after image name k j ks

coming_ascending : (layout : Layout) (image after name : List ℕ) (comes : Slot) (ks : List ℕ) → IsNew layout image after name ks comes → Ascending image ks
    → ((p : ℕ) → p < length ks → length (name_in image (get_or ks p 0)) ≡ 10) → ((j : ℕ) → 1 ≤ count j ks → name_in after j ≡ name_in image j)
    → Ascending after (coming image name comes ks)
unfolding name_in
coming_ascending layout image after name none ks new up long kept = λ p q h l. rw (kept (get_or ks p 0) (count_at ks p (omega arith)), kept (get_or ks q 0) (count_at ks q l)) (up p q h l)
coming_ascending layout image after name (at k) ks new up long kept =
    placed_ascending image after name k new.named ks up (λ p h. long p h ∙ sym (rw new.named at new.rules.name.ten)) (λ p h. new.alone (get_or ks p 0) (count_at ks p h)) kept

module _ (layout : Layout) {image after : List ℕ} {i : ℕ} {name : List ℕ} {goes comes : Slot} (r : Replaced layout image after i name goes comes) where
  abbrev rest : List ℕ
  rest = staying goes (files_in image i)

  -- what the other indexes and their files hold stands as it stood
  pub elsewhere : (j : ℕ) → 1 ≤ count j (others layout image i) → sector_of after j ≡ sector_of image j
  elsewhere j there = r.stands j (omega (arith, there, count_append j (file_holders image rest) (others layout image i)))

  -- a file that stays stands as it stood
  pub sector_stands : (k j : ℕ) → 1 ≤ count k rest → 1 ≤ count j (k ∷ places_in image k) → sector_of after j ≡ sector_of image j
  sector_stands k j there here = r.stands j (omega (arith, here, file_holds image k j rest there, count_append j (file_holders image rest) (others layout image i)))

  pub descriptor_stands : (k : ℕ) → 1 ≤ count k rest → sector_of after k ≡ sector_of image k
  descriptor_stands k there = sector_stands k k there (omega (arith, count_here k (places_in image k)))

  pub name_stands : (k : ℕ) → 1 ≤ count k rest → name_in after k ≡ name_in image k
  unfolding name_in
  name_stands k there = ap name_of (descriptor_stands k there)

  pub file_stands : (k : ℕ) → 1 ≤ count k rest → file_in after k ≡ file_in image k
  file_stands k there = file_kept image after k (descriptor_stands k there) (λ j h. sector_stands k j there (omega (arith, h, count_more j k (places_in image k))))

  -- the holders afterwards
  holders_after : (j : ℕ) → count j (0 ∷ (i ∷ (file_holders after (coming image name comes rest) ++ others layout image i))) ≡ count j (held after comes ++ remaining layout image i goes)
  holders_after j =
      omega (
        arith,
        coming_parts after image name comes j rest,
        ap (count j) (holders_kept image after rest descriptor_stands),
        system_and i j (file_holders after (coming image name comes rest) ++ others layout image i),
        count_append j (file_holders after (coming image name comes rest)) (others layout image i),
        system_and i j (besides layout image i goes),
        count_append j (file_holders image rest) (others layout image i),
        count_append j (held after comes) (remaining layout image i goes),
      )

  rebuilt : Rebuilt layout image after i (coming image name comes rest)
  unfolding name_in
  rebuilt =
      let rules = listed_descriptor layout image r.sound i r.indexed in
      record {
        size = r.size;
        label = r.mapped.label;
        index = r.numbered.index;
        files_are = r.numbered.files_are;
        descriptors =
            coming_all (λ (j : ℕ). IsDescriptor layout (sector_count image) (sector_of after j)) image name comes rest (λ k e. (rw e at r.new).rules)
            (λ p h.
            let left = count_at rest p h in
            rw (descriptor_stands (get_or rest p 0) left) (rules (get_or rest p 0) (stayed image i goes r.listed (get_or rest p 0) left)));
        ascending =
            coming_ascending layout image after name comes rest r.new (staying_ascending image i goes (r.sound.each i r.indexed).ascending)
            (λ p h. (rules (get_or rest p 0) (stayed image i goes r.listed (get_or rest p 0) (count_at rest p h))).name.ten) name_stands;
        elsewhere = elsewhere;
        single = λ j. rw (holders_after j) (r.mapped.once j);
        map = λ j low. r.mapped.map j low ∙ sym (taken_same (sector_count image) (held after comes ++ remaining layout image i goes) _ holders_after j);
      }

  pub sound_after : Sound layout after
  sound_after = sound_again layout image after i (coming image name comes rest) r.sound r.indexed rebuilt

  -- the entries of the directories, and so the indexes
  pub entries-after : entries layout (sector_of after 0) ≡ entries layout (sector_of image 0)
  entries-after = entries_stand layout image after r.sound r.size r.mapped.label

  pub indexed_after : IsIndexed layout after i
  indexed_after = rw (indexes_kept layout image after entries-after) r.indexed

  pub free_after : free_count (sector_of after 0) + length (held after comes) ≡ free_count (sector_of image 0) + length (held image goes)
  free_after =
      let n : sector_count after ≡ sector_count image = ap (λ (m : ℕ). m / 256) r.size in
      let kept = others_kept layout image after i elsewhere (indexes_kept layout image after entries-after) in
      let seen : (j : ℕ) → count j (holders layout after) ≡ count j (held after comes ++ remaining layout image i goes) =
      λ j. rw (r.numbered.files_are, kept) at (holders_seen layout after i indexed_after j) ∙ holders_after j
      in
      let now = counts_length (holders layout after) (held after comes ++ remaining layout image i goes) seen in
      let was =
      counts_length (holders layout image) (held image goes ++ remaining layout image i goes) (λ j. all_parted layout image i r.indexed goes r.listed j ∙ sym (count_append j (held image goes) (remaining layout image i goes)))
      in
      let free = rw n at (free_holders layout after sound_after) in
      omega (arith, free, free_holders layout image r.sound, now, was, length-append (held after comes) (remaining layout image i goes), length-append (held image goes) (remaining layout image i goes))

-- the index with the numbers that it is to have
pub index_anew : (layout : Layout) (image after : List ℕ) (i : ℕ) (name : List ℕ) (goes comes : Slot) → Sound layout image → IsIndexed layout image i → ((k : ℕ) → comes ≡ at k → (2 ≤ k) × (k < sector_count image)) → length (coming image name comes (staying goes (files_in image i))) ≤ 127
    → sector_of after i ≡ index_of (coming image name comes (staying goes (files_in image i)))
    → Numbered image after i (coming image name comes (staying goes (files_in image i)))
unfolding files_in
index_anew layout image after i name goes comes is indexed inside few laid =
    let ks = coming image name comes (staying goes (files_in image i)) in
    let range = coming_all (λ (j : ℕ). (2 ≤ j) × (j < sector_count image)) image name comes (staying goes (files_in image i)) inside (stay goes) in
    record {
      index = rw laid (index_is_index (sector_count image) ks range few);
      files_are = rw laid (numbers_index ks (λ p h. omega (arith, (range p h).0)) (omega (arith, few)));
    }
  where
    stay : (goes : Slot) (p : ℕ) → p < length (staying goes (files_in image i)) → (2 ≤ get_or (staying goes (files_in image i)) p 0) × (get_or (staying goes (files_in image i)) p 0 < sector_count image)
    stay none = (is.each i indexed).index.range
    stay (at k) = without_all (λ (j : ℕ). (2 ≤ j) × (j < sector_count image)) k (files_in image i) (is.each i indexed).index.range

-- sectors that were free are nobody's
pub taken_once : (layout : Layout) (image fresh : List ℕ) → Sound layout image → ((j : ℕ) → count j fresh ≤ 1) → ((j : ℕ) → 1 ≤ count j fresh → Chosen (sector_count image) (sector_of image 0) j)
    → (j : ℕ) → count j fresh + count j (holders layout image) ≤ 1
taken_once layout image fresh is once free j =
    elim (dec_lt 0 (count j fresh)) [
      | yes some ↦ let chosen = free j some in omega (arith, once j, free_unheld layout image j is chosen.inside chosen.free)
      | no other ↦ omega (arith, other, is.single j)
    ]

-- the map where sectors are taken: they were free, and the file that comes holds them and what the one that goes held
pub taken_mapped : (layout : Layout) (image after : List ℕ) (i : ℕ) (goes comes : Slot) (fresh : List ℕ) → Sound layout image → IsIndexed layout image i → IsListed image i goes → ((j : ℕ) → count j fresh ≤ 1)
    → ((j : ℕ) → 1 ≤ count j fresh → Chosen (sector_count image) (sector_of image 0) j) → sector_of after 0 ≡ marked_all 1 (sector_of image 0) fresh
    → ((j : ℕ) → count j (held after comes) ≡ count j fresh + count j (held image goes)) → Mapped layout image after i goes comes
taken_mapped layout image after i goes comes fresh is indexed listed once free sector0 holds =
    let now = held after comes ++ remaining layout image i goes in
    let counts : (j : ℕ) → count j now ≡ count j fresh + count j (holders layout image) =
    λ j. omega (arith, holds j, all_parted layout image i indexed goes listed j, count_append j (held after comes) (remaining layout image i goes))
    in
    let unheld = taken_once layout image fresh is once free in
    record {
      label = λ b h. rw sector0 (all_label 1 (sector_of image 0) fresh b h);
      once = λ j. omega (arith, counts j, unheld j);
      map = rw sector0 (marked_holders (sector_count image) (sector_of image 0) (holders layout image) fresh now (label_long layout image is) (map_is layout image is) unheld counts);
    }

-- where nothing is taken and nothing given back
pub same_mapped : (layout : Layout) (image after : List ℕ) (i : ℕ) (goes comes : Slot) → Sound layout image → IsIndexed layout image i → IsListed image i goes → sector_of after 0 ≡ sector_of image 0
    → ((j : ℕ) → count j (held after comes) ≡ count j (held image goes)) → Mapped layout image after i goes comes
unfolding marked_all
same_mapped layout image after i goes comes is indexed listed sector0 holds =
    taken_mapped layout image after i goes comes [] is indexed listed (λ j. omega (arith, count_none j)) (λ j some. absurd (omega (arith, some, count_none j))) sector0 (λ j. omega (arith, holds j, count_none j))

-- and where what the file that goes held is given back, and none comes
pub given_mapped : (layout : Layout) (image after : List ℕ) (i : ℕ) (goes : Slot) → Sound layout image → IsIndexed layout image i → IsListed image i goes → sector_of after 0 ≡ marked_all 0 (sector_of image 0) (held image goes) → Mapped layout image after i goes none
given_mapped layout image after i goes is indexed listed sector0 =
    let parts = all_parted layout image i indexed goes listed in
    record {
      label = λ b h. rw sector0 (all_label 0 (sector_of image 0) (held image goes) b h);
      once = λ j. omega (arith, parts j, is.single j);
      map =
          rw sector0
          (cleared_holders (sector_count image) (sector_of image 0) (holders layout image) (held image goes) (remaining layout image i goes) (label_long layout image is) (map_is layout image is) is.single
          (λ j some. holders_inside layout image is j (omega (arith, some, parts j))) parts);
    }

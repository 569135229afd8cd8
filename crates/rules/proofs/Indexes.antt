-- The indexes of an image: the root's is among them, and that of every directory that is there; on a sound volume they are sectors of it. And the holders, as seen from one index: sector 0, that
-- index, what its files hold, and what is held by the others, the other indexes and their files.
use mathlib.Core.Path.{◌≡◌, refl, sym, ap, ◌∙◌}
use mathlib.Core.Logic.{◌⊎◌, inl, inr}
use mathlib.Core.Bool.{Bool, true, false, cond}
use mathlib.Core.List.{List, [], ◌∷◌, ◌++◌, map}
use Prim.Native.Nat.{ℕ, zero, suc, ◌+◌, ◌*◌, ◌≤◌, ◌<◌}
use native.Mathlib.Omega.{arith}
use native.Mathlib.Decide.{dec_lt, ℕ_discrete}
use lib.Dec.{eqb}
use lib.ListN.{length, get_or, length-map}
use borrow.Author.Tests.{eq-eqb, ne_eqb, eqb-true, eqb-false}
use Rattle.rules.specs.Bytes.{byte_at, word_at, part}
use Rattle.rules.specs.Sectors.{sector_of, sector_count}
use Rattle.rules.specs.Map.{count}
use Rattle.rules.specs.Kind.{with_marks}
use Rattle.rules.specs.Descriptor.{IsDescriptor}
use Rattle.rules.specs.Index.{without, IsIndex}
use Rattle.rules.specs.Directory.{entries, entry_index, IsEntry, IsAbsent, AreEntries}
use Rattle.rules.specs.Volume.{directories, index_at, present, indexes, every, files_in, files_of, places_in, file_holders, holders}
use Rattle.rules.specs.Sound.{file_at, IsIndexed, SoundIndex, Sound}
use Rattle.rules.specs.declared.Layout.{Layout}
use Rattle.rules.proofs.Tests.{both}
use Rattle.rules.proofs.Bytes.{part_at}
use Rattle.rules.proofs.Map.{count_none, count_here, count_other, count_more, count_at, counted_all, count_append}
use Rattle.rules.proofs.Volume.{get_mapped, file_holders_inside}
use Rattle.rules.proofs.Indexed.{without_here, without_later, without-count}

-- a test of every one of several, as one of each
pub every_is : (test : ℕ → Bool) (is : List ℕ) → every test is ≡ true → (i : ℕ) → 1 ≤ count i is → test i ≡ true
unfolding every
every_is test [] e i some = absurd (omega (arith, some, count_none i))
every_is test (j ∷ js) e i some =
    let parts = both (test j) (every test js) e in
    elim (ℕ_discrete j i) [
      | yes here ↦ rw (← here) parts.0
      | no there ↦ every_is test js parts.1 i (omega (arith, some, count_other i j js there))
    ]

pub is_every : (test : ℕ → Bool) (is : List ℕ) → ((i : ℕ) → 1 ≤ count i is → test i ≡ true) → every test is ≡ true
unfolding every
is_every test [] all = refl
is_every test (j ∷ js) all = rw (all j (omega (arith, count_here j js))) (is_every test js (λ i h. all i (omega (arith, h, count_more i j js))))

-- those that are there, one at a time
module _ (i : ℕ) (is : List ℕ) where
  pub present_absent : i ≡ 0 → present (i ∷ is) ≡ present is
  unfolding present
  present_absent e = rw (eq-eqb i 0 e)

  pub present_there : (i ≡ 0 → ⊥) → present (i ∷ is) ≡ i ∷ present is
  unfolding present
  present_there some = rw (ne_eqb i 0 some)

-- none of them is 0, and each that is not is among them
present_some : (is : List ℕ) → count 0 (present is) ≡ 0
unfolding present
present_some [] = count_none 0
present_some (i ∷ is) = go (eqb i 0) refl (present_some is)
  where
    go : (t : Bool) → eqb i 0 ≡ t → count 0 (present is) ≡ 0 → count 0 (cond t (present is) (i ∷ present is)) ≡ 0
    go true e more = more
    go false e more = count_other 0 i (present is) (eqb-false i 0 e) ∙ more

pub present_counts : (is : List ℕ) (i : ℕ) → (i ≡ 0 → ⊥) → count i (present is) ≡ count i is
unfolding present
present_counts [] i some = refl
present_counts (j ∷ js) i some = go (eqb j 0) refl (present_counts js i some)
  where
    go : (t : Bool) → eqb j 0 ≡ t → count i (present js) ≡ count i js → count i (cond t (present js) (j ∷ present js)) ≡ count i (j ∷ js)
    go true e more = more ∙ sym (count_other i j js (λ same. some (sym same ∙ eqb-true j 0 e)))
    go false e more =
        elim (ℕ_discrete j i) [
          | yes here ↦ rw here (omega (arith, count_here i (present js), count_here i js, more))
          | no there ↦ count_other i j (present js) there ∙ more ∙ sym (count_other i j js there)
        ]

module _ (layout : Layout) (image : List ℕ) where
  pub index_some : (i : ℕ) → IsIndexed layout image i → i ≡ 0 → ⊥
  unfolding indexes
  index_some i indexed none = omega (arith, rw none at indexed, present_some (directories layout image))

  -- the root's, and that of every directory that is there
  pub root_at : index_at layout image 0 ≡ 1
  unfolding index_at directories
  root_at = refl

  pub root_first : indexes layout image ≡ 1 ∷ present (map entry_index (entries layout (sector_of image 0)))
  unfolding indexes directories
  root_first = present_there 1 (map entry_index (entries layout (sector_of image 0))) (λ e. omega arith)

  pub root_indexed : IsIndexed layout image 1
  root_indexed = rw root_first (omega (arith, count_here 1 (present (map entry_index (entries layout (sector_of image 0))))))

  pub directory_indexed : (directory : ℕ) → (index_at layout image directory ≡ 0 → ⊥) → IsIndexed layout image (index_at layout image directory)
  unfolding indexes index_at
  directory_indexed directory some =
      let all = directories layout image in
      elim (dec_lt directory (length all)) [
        | yes inside ↦ omega (arith, present_counts all (get_or all directory 0) some, count_at all directory inside)
        | no past ↦ absurd (some (past_zero all directory (omega arith)))
      ]
    where
      past_zero : (l : List ℕ) (d : ℕ) → length l ≤ d → get_or l d 0 ≡ 0
      past_zero [] d h = refl
      past_zero (x ∷ l) zero h = absurd (omega arith)
      past_zero (x ∷ l) (suc d) h = past_zero l d (omega arith)

  -- on a volume whose entries keep their rules they are sectors of it
  pub index_inside : 2 ≤ sector_count image → AreEntries (sector_count image) (entries layout (sector_of image 0)) → (i : ℕ) → IsIndexed layout image i → (1 ≤ i) × (i < sector_count image)
  unfolding indexes directories
  index_inside large are i indexed =
      let es = entries layout (sector_of image 0) in
      let some = index_some i indexed in
      elim (ℕ_discrete 1 i) [
        | yes root ↦ (omega (arith, root), omega (arith, root))
        | no other ↦
            let there : 1 ≤ count i (map entry_index es) = omega (arith, indexed, present_counts (1 ∷ map entry_index es) i some, count_other i 1 (map entry_index es) other) in
            counted_all (λ (j : ℕ). (j ≡ 0 → ⊥) → (1 ≤ j) × (j < sector_count image)) (map entry_index es)
            (λ p h. rw (get_mapped entry_index es p [] 0 (rw (length-map es entry_index) at h)) (λ more. at_entry (get_or es p []) more (are.each p (rw (length-map es entry_index) at h)))) i there some
      ]
    where
      at_entry : (entry : List ℕ) → (entry_index entry ≡ 0 → ⊥) → IsAbsent entry ⊎ IsEntry (sector_count image) entry → (1 ≤ entry_index entry) × (entry_index entry < sector_count image)
      at_entry entry some (inl zeros) = absurd (some (omega (arith, zeros 10, zeros 11)))
      at_entry entry some (inr is) = (omega (arith, is.range), is.range.1)

-- the index of a directory, by its number: the root's; none without entries or past the third; and an entry's, by two bytes of the image
module _ (layout : Layout) (image : List ℕ) where
  entry_index_lem : (at : ℕ) → at + 12 ≤ 56 → entry_index (part (sector_of image 0) at 12) ≡ word_at image (at + 10)
  unfolding sector_of
  entry_index_lem at h =
      let byte : (j : ℕ) → j < 12 → byte_at (part (sector_of image 0) at 12) j ≡ byte_at image (at + j) =
      λ j low. let z : 0 + (at + j) ≡ at + j = omega arith in part_at (sector_of image 0) at 12 j low ∙ rw z at (part_at image 0 256 (at + j) (omega arith))
      in
      let e : at + 10 + 1 ≡ at + 11 = omega arith in
      rw (byte 10 (omega arith), byte 11 (omega arith), e)

  pub index_first_edition : (directory : ℕ) → layout.directories ≡ false → (directory ≡ 0 → ⊥) → index_at layout image directory ≡ 0
  unfolding index_at directories entries
  index_first_edition zero first some = absurd (some refl)
  index_first_edition (suc d) first some = rw first

  pub index_past : (directory : ℕ) → 3 < directory → index_at layout image directory ≡ 0
  unfolding index_at directories entries
  index_past zero past = absurd (omega arith)
  index_past (suc d) past = go layout.directories d (omega arith)
    where
      go : (t : Bool) (d : ℕ) → 2 < d → get_or (map entry_index (cond t (part (sector_of image 0) 20 12 ∷ (part (sector_of image 0) 32 12 ∷ (part (sector_of image 0) 44 12 ∷ []))) [])) d 0 ≡ 0
      go false d h = refl
      go true zero h = absurd (omega arith)
      go true (suc zero) h = absurd (omega arith)
      go true (suc (suc zero)) h = absurd (omega arith)
      go true (suc (suc (suc d))) h = refl

  pub index_entry : (directory : ℕ) → layout.directories ≡ true → (directory ≡ 0 → ⊥) → directory ≤ 3 → index_at layout image directory ≡ word_at image (18 + 12 * directory)
  unfolding index_at directories entries
  index_entry zero second some few = absurd (some refl)
  index_entry (suc zero) second some few = rw second (entry_index_lem 20 (omega arith))
  index_entry (suc (suc zero)) second some few = rw second (entry_index_lem 32 (omega arith))
  index_entry (suc (suc (suc zero))) second some few = rw second (entry_index_lem 44 (omega arith))
  index_entry (suc (suc (suc (suc d)))) second some few = absurd (omega arith)

-- without entries there is the root's alone
pub only_root : (layout : Layout) (image : List ℕ) → ((d : ℕ) → IsAbsent (get_or (entries layout (sector_of image 0)) d [])) → indexes layout image ≡ 1 ∷ []
unfolding present
only_root layout image absent =
    root_first layout image ∙ ap (λ (l : List ℕ). 1 ∷ l) (none (entries layout (sector_of image 0)) absent)
  where
    none : (es : List (List ℕ)) → ((d : ℕ) → IsAbsent (get_or es d [])) → present (map entry_index es) ≡ []
    none [] absent = refl
    none (entry ∷ es) absent = present_absent (entry_index entry) (map entry_index es) (omega (arith, absent 0 10, absent 0 11)) ∙ none es (λ d. absent (suc d))

-- marks do not touch them
pub marks_indexes : (layout : Layout) (image : List ℕ) → indexes (with_marks layout) image ≡ indexes layout image
unfolding indexes directories entries
marks_indexes layout image = refl

pub marks_index_at : (layout : Layout) (image : List ℕ) (directory : ℕ) → index_at (with_marks layout) image directory ≡ index_at layout image directory
unfolding index_at directories entries
marks_index_at layout image directory = refl

-- what the files of several indexes hold: those of one, and those of the rest
pub held_append : (image : List ℕ) (j : ℕ) (ks more : List ℕ) → count j (file_holders image (ks ++ more)) ≡ count j (file_holders image ks) + count j (file_holders image more)
unfolding file_holders
held_append image j [] more = omega (arith, count_none j)
held_append image j (k ∷ ks) more =
    omega (arith, held_append image j ks more, count_append j (k ∷ places_in image k) (file_holders image (ks ++ more)), count_append j (k ∷ places_in image k) (file_holders image ks))

held_without : (image : List ℕ) (i j : ℕ) (is : List ℕ) → 1 ≤ count i is
    → count j (file_holders image (files_of image is)) ≡ count j (file_holders image (files_in image i)) + count j (file_holders image (files_of image (without i is)))
unfolding files_of
held_without image i j [] some = absurd (omega (arith, some, count_none i))
held_without image i j (h ∷ hs) some =
    elim (ℕ_discrete h i) [
      | yes here ↦ rw (without_here i h hs here, here) (held_append image j (files_in image i) (files_of image hs))
      | no there ↦
          rw (without_later i h hs there)
          (omega (arith, held_without image i j hs (omega (arith, some, count_other i h hs there)), held_append image j (files_in image h) (files_of image hs), held_append image j (files_in image h) (files_of image (without i hs))))
    ]

-- the other indexes, and what they and their files hold
abbrev pub other_indexes : Layout → List ℕ → ℕ → List ℕ
other_indexes layout image i = without i (indexes layout image)

unfoldable pub others : Layout → List ℕ → ℕ → List ℕ
others layout image i = other_indexes layout image i ++ file_holders image (files_of image (other_indexes layout image i))

pub holders_seen : (layout : Layout) (image : List ℕ) (i : ℕ) → IsIndexed layout image i → (j : ℕ)
    → count j (holders layout image) ≡ count j (0 ∷ (i ∷ (file_holders image (files_in image i) ++ others layout image i)))
unfolding holders others
holders_seen layout image i indexed j =
    let is = indexes layout image in
    let rest = without i is in
    let own = file_holders image (files_in image i) in
    let away = file_holders image (files_of image rest) in
    omega (
      arith,
      without-count i j is indexed,
      held_without image i j is indexed,
      count_append j (0 ∷ []) (is ++ file_holders image (files_of image is)),
      count_append j is (file_holders image (files_of image is)),
      count_append j (0 ∷ (i ∷ [])) (own ++ (rest ++ away)),
      count_append j own (rest ++ away),
      count_append j rest away,
      count_append j (i ∷ []) rest,
      count_append j (0 ∷ []) (i ∷ []),
    )

-- an index that is another one
pub other_indexed : (layout : Layout) (image : List ℕ) (i j : ℕ) → IsIndexed layout image i → (j ≡ i → ⊥) → IsIndexed layout image j → 1 ≤ count j (other_indexes layout image i)
other_indexed layout image i j indexed other there = omega (arith, without-count i j (indexes layout image) indexed, count_other j i (other_indexes layout image i) (λ e. other (sym e)), there)

-- its files are among those of all, and they hold
pub files_of_has : (image : List ℕ) (i : ℕ) (is : List ℕ) → 1 ≤ count i is → (j : ℕ) → count j (files_in image i) ≤ count j (files_of image is)
unfolding files_of
files_of_has image i [] some j = absurd (omega (arith, some, count_none i))
files_of_has image i (h ∷ hs) some j =
    elim (ℕ_discrete h i) [
      | yes here ↦ rw here (omega (arith, count_append j (files_in image i) (files_of image hs)))
      | no there ↦ omega (arith, files_of_has image i hs (omega (arith, some, count_other i h hs there)) j, count_append j (files_in image h) (files_of image hs))
    ]

pub held_of_has : (image : List ℕ) (i : ℕ) (is : List ℕ) → 1 ≤ count i is → (j : ℕ) → count j (file_holders image (files_in image i)) ≤ count j (file_holders image (files_of image is))
held_of_has image i is some j = omega (arith, held_without image i j is some)

-- a file of several indexes is one of an index of them
pub files_of_one : {P : Type 0} (image : List ℕ) (is : List ℕ) (k : ℕ) → 1 ≤ count k (files_of image is) → ((i : ℕ) → 1 ≤ count i is → 1 ≤ count k (files_in image i) → P) → P
unfolding files_of
files_of_one image [] k some then = absurd (omega (arith, some, count_none k))
files_of_one image (h ∷ hs) k some then =
    elim (dec_lt 0 (count k (files_in image h))) [
      | yes here ↦ then h (omega (arith, count_here h hs)) here
      | no there ↦ files_of_one image hs k (omega (arith, some, there, count_append k (files_in image h) (files_of image hs))) (λ i among. then i (omega (arith, among, count_more i h hs)))
    ]

-- so what holds of all files of indexes that keep their rules, and lead to descriptors that do, holds of each of several
pub files_ruled : (layout : Layout) (image is : List ℕ) → ((i : ℕ) → 1 ≤ count i is → IsIndex (sector_count image) (sector_of image i))
    → ((i : ℕ) → 1 ≤ count i is → (p : ℕ) → p < length (files_in image i) → IsDescriptor layout (sector_count image) (sector_of image (file_at image i p)))
    → (k : ℕ) → 1 ≤ count k (files_of image is) → (2 ≤ k) × (k < sector_count image) × IsDescriptor layout (sector_count image) (sector_of image k)
unfolding files_in
files_ruled layout image is index descriptors k some =
    files_of_one image is k some
    (λ i among there.
    let range = counted_all (λ (j : ℕ). (2 ≤ j) × (j < sector_count image)) (files_in image i) (index i among).range k there in
    (range.0, range.1, counted_all (λ (j : ℕ). IsDescriptor layout (sector_count image) (sector_of image j)) (files_in image i) (descriptors i among) k there))

pub files_range : (layout : Layout) (image is : List ℕ) → ((i : ℕ) → 1 ≤ count i is → SoundIndex layout image i)
    → (k : ℕ) → 1 ≤ count k (files_of image is) → (2 ≤ k) × (k < sector_count image) × IsDescriptor layout (sector_count image) (sector_of image k)
files_range layout image is each = files_ruled layout image is (λ i among. (each i among).index) (λ i among. (each i among).descriptors)

-- all holders of a sound volume are sectors of it
pub holders_inside : (layout : Layout) (image : List ℕ) → Sound layout image → (p : ℕ) → 1 ≤ count p (holders layout image) → p < sector_count image
unfolding holders
holders_inside layout image is p some =
    let all = indexes layout image in
    let ks = files_of image all in
    elim (ℕ_discrete 0 p) [
      | yes here ↦ omega (arith, here, is.size)
      | no other ↦
          elim (dec_lt 0 (count p all)) [
            | yes index ↦ (index_inside layout image (omega (arith, is.size)) is.entered p index).1
            | no none ↦
                held_inside p (omega (arith, some, none, count_other p 0 (all ++ file_holders image ks) other, count_append p all (file_holders image ks)))
          ]
    ]
  where
    held_inside : (p : ℕ) → 1 ≤ count p (file_holders image (files_of image (indexes layout image))) → p < sector_count image
    held_inside p held =
        let rules = files_range layout image (indexes layout image) is.each in
        let ks = files_of image (indexes layout image) in
        (file_holders_inside layout (sector_count image) image ks p (λ q h. let r = rules (get_or ks q 0) (count_at ks q h) in (r.0, r.1)) (λ q h. (rules (get_or ks q 0) (count_at ks q h)).2) held).1

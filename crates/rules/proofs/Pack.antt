-- The parts of the packed form. The label: what is read of it with other index sectors in its entries, and that those of a sound volume get the numbers from 2 on. The rest: how long its parts
-- are for files of whole sectors, that the files of a sound volume are such, and that they have room on it.
use mathlib.Core.Path.{◌≡◌, refl, sym, ap, ◌∙◌}
use mathlib.Core.Logic.{◌⊎◌, inl, inr, ◌↔◌}
use mathlib.Core.Bool.{Bool, true, false, cond}
use mathlib.Core.List.{List, [], ◌∷◌, ◌++◌, map, map-append}
use Prim.Native.Nat.{ℕ, zero, suc, ◌+◌, ◌*◌, ◌≤◌, ◌<◌}
use native.Mathlib.Omega.{arith}
use native.Mathlib.Decide.{dec_lt}
use lib.Dec.{eqb}
use lib.ListN.{length, get_or, replicate, length-append, length-map, length-replicate, get_or-eq_default}
use lib.Seq.{ext_get_or}
use borrow.Author.Tests.{eq-eqb, ne_eqb, eqb-true, eqb-false}
use Rattle.rules.specs.Bytes.{byte_at, word_at, word_bytes, part, over, splice}
use Rattle.rules.specs.Sectors.{sector_of, sector_count, joined}
use Rattle.rules.specs.Chain.{run, chain_with}
use Rattle.rules.specs.Map.{count}
use Rattle.rules.specs.Descriptor.{IsDescriptor}
use Rattle.rules.specs.Index.{index_of}
use Rattle.rules.specs.Directory.{entries, entry_name, entry_index, is_absent, IsEntry, IsAbsent, AreEntries}
use Rattle.rules.specs.Volume.{File, present, indexes, files_in, files_of, places_in, file_holders, holders, header_in, contents_in, file_in, catalogue, catalogues}
use Rattle.rules.specs.Sound.{Sound}
use Rattle.rules.specs.Calls.Pack.{with_indexes, label_area, new_indexes, packed_label, one_block, packed_descriptor, packed_descriptors, packed_data, data_sectors, together, packed_indexes, packed_sectors}
use Rattle.rules.specs.declared.Layout.{Layout}
use Rattle.rules.proofs.Bytes.{part_length, part_at, zeros_at}
use Rattle.rules.proofs.Sectors.{sector_length}
use Rattle.rules.proofs.Splice.{splice-length, splice_none, splice_inside, splice_below, splice_above, splice_over, splice_whole}
use Rattle.rules.proofs.Map.{count_here, count_more, count_at}
use Rattle.rules.proofs.Directory.{is_absent_lem}
use Rattle.rules.proofs.Volume.{places_inside, get_mapped}
use Rattle.rules.proofs.Indexes.{files_range, present_absent, present_there}
use Rattle.rules.proofs.Free.{free_holders}
use Rattle.rules.proofs.Indexed.{index_length}
use Rattle.rules.proofs.Extended.{chain_with-length}

-- bytes laid over a buffer, and others laid before them: in either order
pub splice_apart : (buffer : List ℕ) (at : ℕ) (bytes : List ℕ) (from : ℕ) (others : List ℕ) → from + length others ≤ at
    → splice (splice buffer at bytes) from others ≡ splice (splice buffer from others) at bytes
unfolding splice over
splice_apart buffer at bytes zero [] h = splice_none (splice buffer at bytes) 0 ∙ ap (λ (l : List ℕ). splice l at bytes) (sym (splice_none buffer 0))
splice_apart buffer zero bytes zero (c ∷ others) h = absurd (omega arith)
splice_apart [] (suc at) bytes zero (c ∷ others) h = refl
splice_apart (b ∷ buffer) (suc at) bytes zero (c ∷ others) h = ap (λ (l : List ℕ). c ∷ l) (splice_apart buffer at bytes zero others (omega arith))
splice_apart buffer zero bytes (suc from) others h = absurd (omega arith)
splice_apart [] (suc at) bytes (suc from) others h = refl
splice_apart (b ∷ buffer) (suc at) bytes (suc from) others h = ap (λ (l : List ℕ). b ∷ l) (splice_apart buffer at bytes from others (omega arith))

-- parts of two lists that agree there
pub part_alike : (a b : List ℕ) (from to many : ℕ) → from + many ≤ length a → to + many ≤ length b → ((i : ℕ) → i < many → byte_at a (from + i) ≡ byte_at b (to + i)) → part a from many ≡ part b to many
part_alike a b from to many h l same =
    let long = part_length a from many h in
    ext_get_or 0 (part a from many) (part b to many) (long ∙ sym (part_length b to many l))
    (λ i inside.
    let low : i < many = omega (arith, inside, long) in
    part_at a from many i low ∙ same i low ∙ sym (part_at b to many i low))

-- Index sectors in the entries of a label: what is laid again stands alone; the bytes between stand as they stood; and the numbers are read back.
pub with_length : (label : List ℕ) (at : ℕ) (is : List ℕ) → length (with_indexes label at is) ≡ length label
unfolding with_indexes
with_length label at [] = refl
with_length label at (i ∷ is) = with_length (splice label at (word_bytes i)) (at + 12) is ∙ splice-length label at (word_bytes i)

with_apart : (label : List ℕ) (at : ℕ) (is : List ℕ) (from : ℕ) (others : List ℕ) → from + length others ≤ at → splice (with_indexes label at is) from others ≡ with_indexes (splice label from others) at is
unfolding with_indexes
with_apart label at [] from others h = refl
with_apart label at (i ∷ is) from others h =
    with_apart (splice label at (word_bytes i)) (at + 12) is from others (omega arith) ∙ ap (λ (l : List ℕ). with_indexes l (at + 12) is) (splice_apart label at (word_bytes i) from others h)

pub with_again : (label : List ℕ) (at : ℕ) (is js : List ℕ) → length is ≡ length js → with_indexes (with_indexes label at is) at js ≡ with_indexes label at js
unfolding with_indexes
with_again label at [] [] e = refl
with_again label at [] (j ∷ js) e = absurd (omega arith)
with_again label at (i ∷ is) [] e = absurd (omega arith)
with_again label at (i ∷ is) (j ∷ js) e =
    ap (λ (l : List ℕ). with_indexes l (at + 12) js) (with_apart (splice label at (word_bytes i)) (at + 12) is at (word_bytes j) (omega arith))
    ∙ with_again (splice (splice label at (word_bytes i)) at (word_bytes j)) (at + 12) is js (omega arith)
    ∙ ap (λ (l : List ℕ). with_indexes l (at + 12) js)
    (splice_over label at (word_bytes i) (word_bytes j) (omega arith) ∙ ap (splice label at) (splice_whole (word_bytes i) (word_bytes j) refl))

pub with_below : (label : List ℕ) (at : ℕ) (is : List ℕ) (j : ℕ) → j < at → byte_at (with_indexes label at is) j ≡ byte_at label j
unfolding with_indexes
with_below label at [] j h = refl
with_below label at (i ∷ is) j h = with_below (splice label at (word_bytes i)) (at + 12) is j (omega arith) ∙ splice_below label at (word_bytes i) j h

pub with_between : (label : List ℕ) (at : ℕ) (is : List ℕ) (d j : ℕ) → at + 12 * d + 2 ≤ j → j < at + 12 * d + 12 → byte_at (with_indexes label at is) j ≡ byte_at label j
unfolding with_indexes
with_between label at [] d j low high = refl
with_between label at (i ∷ is) zero j low high = with_below (splice label at (word_bytes i)) (at + 12) is j (omega arith) ∙ splice_above label at (word_bytes i) j (omega arith)
with_between label at (i ∷ is) (suc d) j low high =
    with_between (splice label at (word_bytes i)) (at + 12) is d j (omega arith) (omega arith) ∙ splice_above label at (word_bytes i) j (omega arith)

pub with_number : (label : List ℕ) (at : ℕ) (is : List ℕ) (d : ℕ) → d < length is → at + 12 * d + 2 ≤ length label → word_at (with_indexes label at is) (at + 12 * d) ≡ get_or is d 0
unfolding with_indexes
with_number label at [] d h room = absurd (omega arith)
with_number label at (i ∷ is) zero h room =
    let laid = splice label at (word_bytes i) in
    let z : at + 12 * 0 ≡ at + 0 = omega arith in
    let high = with_below laid (at + 12) is (at + 0) (omega arith) ∙ splice_inside label at (word_bytes i) 0 (omega arith) (omega arith) in
    let low = with_below laid (at + 12) is (at + 1) (omega arith) ∙ splice_inside label at (word_bytes i) 1 (omega arith) (omega arith) in
    let y : at + 0 + 1 ≡ at + 1 = omega arith in
    rw (z, y, high, low) (omega arith)
with_number label at (i ∷ is) (suc d) h room =
    let z : at + 12 * suc d ≡ at + 12 + 12 * d = omega arith in
    rw z (with_number (splice label at (word_bytes i)) (at + 12) is d (omega arith) (omega (arith, room, splice-length label at (word_bytes i))))

-- the entries of a label of 56 bytes or of sector 0: where each is, and what is read of it
pub entries_many : (layout : Layout) (a b : List ℕ) → length (entries layout a) ≡ length (entries layout b)
unfolding entries
entries_many layout a b = go layout.directories
  where
    go : (t : Bool)
        → length (cond t (part a 20 12 ∷ (part a 32 12 ∷ (part a 44 12 ∷ []))) []) ≡ length (cond t (part b 20 12 ∷ (part b 32 12 ∷ (part b 44 12 ∷ []))) [])
    go true = refl
    go false = refl

entry_at : (layout : Layout) (label : List ℕ) (d : ℕ) → d < length (entries layout label) → (d < 3) × (get_or (entries layout label) d [] ≡ part label (20 + 12 * d) 12)
unfolding entries
entry_at layout label d h = go layout.directories d h
  where
    go : (t : Bool) (d : ℕ) → d < length (cond t (part label 20 12 ∷ (part label 32 12 ∷ (part label 44 12 ∷ []))) [])
        → (d < 3) × (get_or (cond t (part label 20 12 ∷ (part label 32 12 ∷ (part label 44 12 ∷ []))) []) d [] ≡ part label (20 + 12 * d) 12)
    go false d h = absurd (omega arith)
    go true zero h = (omega arith, refl)
    go true (suc zero) h = (omega arith, refl)
    go true (suc (suc zero)) h = (omega arith, refl)
    go true (suc (suc (suc d))) h = absurd (omega arith)

pub entries_alike : (layout : Layout) (a b : List ℕ) → 56 ≤ length a → 56 ≤ length b → ((i : ℕ) → i < 56 → byte_at a i ≡ byte_at b i) → entries layout a ≡ entries layout b
unfolding entries
entries_alike layout a b long long' same =
    rw (
      part_alike a b 20 20 12 (omega arith) (omega arith) (λ i h. same (20 + i) (omega arith)),
      part_alike a b 32 32 12 (omega arith) (omega arith) (λ i h. same (32 + i) (omega arith)),
      part_alike a b 44 44 12 (omega arith) (omega arith) (λ i h. same (44 + i) (omega arith)),
    )

module _ (layout : Layout) (label : List ℕ) (long : 56 ≤ length label) (d : ℕ) (h : d < length (entries layout label)) where
  abbrev entry : List ℕ
  entry = get_or (entries layout label) d []

  pub entry_length : length entry ≡ 12
  entry_length = ap length (entry_at layout label d h).1 ∙ part_length label (20 + 12 * d) 12 (omega (arith, (entry_at layout label d h).0))

  pub entry_byte : (i : ℕ) → i < 12 → byte_at entry i ≡ byte_at label (20 + 12 * d + i)
  entry_byte i low = ap (λ (e : List ℕ). byte_at e i) (entry_at layout label d h).1 ∙ part_at label (20 + 12 * d) 12 i low

-- with other index sectors each entry keeps its name
module _ (layout : Layout) (label is : List ℕ) (long : 56 ≤ length label) (many : length is ≡ length (entries layout label)) (d : ℕ) (h : d < length (entries layout label)) where
  abbrev old : List ℕ
  old = get_or (entries layout label) d []

  abbrev new : List ℕ
  new = get_or (entries layout (with_indexes label 30 is)) d []

  long_with : 56 ≤ length (with_indexes label 30 is)
  long_with = omega (arith, long, with_length label 30 is)

  many_with : d < length (entries layout (with_indexes label 30 is))
  many_with = omega (arith, h, entries_many layout (with_indexes label 30 is) label)

  pub new_length : length new ≡ 12
  new_length = entry_length layout (with_indexes label 30 is) long_with d many_with

  new_byte : (i : ℕ) → i < 10 → byte_at new i ≡ byte_at old i
  new_byte i low =
      entry_byte layout (with_indexes label 30 is) long_with d many_with i (omega arith) ∙ kept d ∙ sym (entry_byte layout label long d h i (omega arith))
    where
      kept : (d : ℕ) → byte_at (with_indexes label 30 is) (20 + 12 * d + i) ≡ byte_at label (20 + 12 * d + i)
      kept zero = with_below label 30 is (20 + 12 * 0 + i) (omega arith)
      kept (suc d) = with_between label 30 is d (20 + 12 * suc d + i) (omega arith) (omega arith)

  pub new_name : entry_name new ≡ entry_name old
  unfolding entry_name
  new_name =
      part_alike new old 0 0 10 (omega (arith, new_length)) (omega (arith, entry_length layout label long d h)) (λ i low. let z : 0 + i ≡ i = omega arith in rw z (new_byte i low))

  pub new_index : entry_index new ≡ get_or is d 0
  new_index =
      let at : 20 + 12 * d + 10 ≡ 30 + 12 * d = omega arith in
      let next : 20 + 12 * d + 11 ≡ 30 + 12 * d + 1 = omega arith in
      let small = (entry_at layout label d h).0 in
      let high = rw at at (entry_byte layout (with_indexes label 30 is) long_with d many_with 10 (omega arith)) in
      let low = rw next at (entry_byte layout (with_indexes label 30 is) long_with d many_with 11 (omega arith)) in
      rw (high, low) (with_number label 30 is d (omega (arith, h, many)) (omega (arith, long, small)))

-- Numbers from i on in the place of those that are not zero.
unfoldable pub numbered_from : ℕ → List ℕ → List ℕ
numbered_from i [] = []
numbered_from i (k ∷ ks) = cond (eqb k 0) (0 ∷ numbered_from i ks) (i ∷ numbered_from (i + 1) ks)

module _ (i k : ℕ) (ks : List ℕ) where
  pub numbered_absent : k ≡ 0 → numbered_from i (k ∷ ks) ≡ 0 ∷ numbered_from i ks
  unfolding numbered_from
  numbered_absent none = rw (eq-eqb k 0 none)

  pub numbered_there : (k ≡ 0 → ⊥) → numbered_from i (k ∷ ks) ≡ i ∷ numbered_from (i + 1) ks
  unfolding numbered_from
  numbered_there some = rw (ne_eqb k 0 some)

pub numbered_length : (i : ℕ) (ks : List ℕ) → length (numbered_from i ks) ≡ length ks
unfolding numbered_from
numbered_length i [] = refl
numbered_length i (k ∷ ks) = go (eqb k 0) (λ j. numbered_length j ks)
  where
    go : (t : Bool) → ((j : ℕ) → length (numbered_from j ks) ≡ length ks) → length (cond t (0 ∷ numbered_from i ks) (i ∷ numbered_from (i + 1) ks)) ≡ length (k ∷ ks)
    go true more = ap suc (more i)
    go false more = ap suc (more (i + 1))

-- zeros are where they were, and the others are a run
pub numbered_zero : (i : ℕ) (ks : List ℕ) (d : ℕ) → 1 ≤ i → (get_or (numbered_from i ks) d 0 ≡ 0) ↔ (get_or ks d 0 ≡ 0)
unfolding numbered_from
numbered_zero i [] d some = ((λ e. e), (λ e. e))
numbered_zero i (k ∷ ks) d some = go (eqb k 0) refl d (λ j d h. numbered_zero j ks d h)
  where
    go : (t : Bool) → eqb k 0 ≡ t → (d : ℕ) → ((j d : ℕ) → 1 ≤ j → (get_or (numbered_from j ks) d 0 ≡ 0) ↔ (get_or ks d 0 ≡ 0))
        → (get_or (cond t (0 ∷ numbered_from i ks) (i ∷ numbered_from (i + 1) ks)) d 0 ≡ 0) ↔ (get_or (k ∷ ks) d 0 ≡ 0)
    go true e zero more = ((λ none. eqb-true k 0 e), (λ none. refl))
    go false e zero more = ((λ none. absurd (omega (arith, some, none))), (λ none. absurd (eqb-false k 0 e none)))
    go true e (suc d) more = more i d some
    go false e (suc d) more = more (i + 1) d (omega arith)

pub numbered_range : (i : ℕ) (ks : List ℕ) (d : ℕ) → (get_or (numbered_from i ks) d 0 ≡ 0 → ⊥) → (i ≤ get_or (numbered_from i ks) d 0) × (get_or (numbered_from i ks) d 0 < i + length (present ks))
unfolding numbered_from present
numbered_range i [] d some = absurd (some refl)
numbered_range i (k ∷ ks) d some = go (eqb k 0) d (λ j d h. numbered_range j ks d h) some
  where
    go : (t : Bool) (d : ℕ) → ((j d : ℕ) → (get_or (numbered_from j ks) d 0 ≡ 0 → ⊥) → (j ≤ get_or (numbered_from j ks) d 0) × (get_or (numbered_from j ks) d 0 < j + length (present ks)))
        → (get_or (cond t (0 ∷ numbered_from i ks) (i ∷ numbered_from (i + 1) ks)) d 0 ≡ 0 → ⊥)
        → (i ≤ get_or (cond t (0 ∷ numbered_from i ks) (i ∷ numbered_from (i + 1) ks)) d 0) × (get_or (cond t (0 ∷ numbered_from i ks) (i ∷ numbered_from (i + 1) ks)) d 0 < i + length (cond t (present ks) (k ∷ present ks)))
    go true zero more some = absurd (some refl)
    go false zero more some = (omega arith, omega arith)
    go true (suc d) more some = more i d some
    go false (suc d) more some = let later = more (i + 1) d some in (omega (arith, later), omega (arith, later))

pub numbered_present : (i : ℕ) (ks : List ℕ) → 1 ≤ i → present (numbered_from i ks) ≡ run i (length (present ks))
unfolding numbered_from present run
numbered_present i [] some = refl
numbered_present i (k ∷ ks) some = go (eqb k 0) (λ j h. numbered_present j ks h)
  where
    go : (t : Bool) → ((j : ℕ) → 1 ≤ j → present (numbered_from j ks) ≡ run j (length (present ks)))
        → present (cond t (0 ∷ numbered_from i ks) (i ∷ numbered_from (i + 1) ks)) ≡ run i (length (cond t (present ks) (k ∷ present ks)))
    go true more = present_absent 0 (numbered_from i ks) refl ∙ more i some
    go false more = present_there i (numbered_from (i + 1) ks) (λ none. omega (arith, some, none)) ∙ ap (λ (l : List ℕ). i ∷ l) (more (i + 1) (omega arith))

-- An entry with the name of another, and no index sector: it is absent where the other is.
module _ (entry bare : List ℕ) (long : length bare ≡ 12) (name : entry_name bare ≡ entry_name entry) (none : entry_index bare ≡ 0) where
  bare_byte : (i : ℕ) → i < 10 → byte_at bare i ≡ byte_at entry i
  unfolding entry_name
  bare_byte i low =
      let z : 0 + i ≡ i = omega arith in
      sym (rw z at (part_at bare 0 10 i low)) ∙ ap (λ (l : List ℕ). byte_at l i) name ∙ rw z at (part_at entry 0 10 i low)

  bare_zeros : IsAbsent entry → IsAbsent bare
  bare_zeros absent i =
      elim (dec_lt i 10) [
        | yes low ↦ bare_byte i low ∙ absent i
        | no high ↦
            elim (dec_lt i 12) [
              | yes low ↦ number (omega arith) low
              | no past ↦ get_or-eq_default bare 0 {n = i} (omega (arith, long))
            ]
      ]
    where
      number : 10 ≤ i → i < 12 → byte_at bare i ≡ 0
      number low high =
          elim (dec_lt i 11) [
            | yes first ↦ let z : i ≡ 10 = omega arith in rw z (omega (arith, none))
            | no second ↦ let z : i ≡ 11 = omega arith in rw z (omega (arith, none))
          ]

  absent_alike : (n : ℕ) → IsAbsent entry ⊎ IsEntry n entry → is_absent bare ≡ eqb (entry_index entry) 0
  unfolding entry_name is_absent
  absent_alike n (inl absent) = is_absent_lem bare (bare_zeros absent) ∙ sym (eq-eqb (entry_index entry) 0 (omega (arith, absent 10, absent 11)))
  absent_alike n (inr there) = differs (is_absent bare) refl ∙ sym (ne_eqb (entry_index entry) 0 (λ e. omega (arith, e, there.range)))
    where
      differs : (t : Bool) → is_absent bare ≡ t → is_absent bare ≡ false
      differs false e = e
      differs true e =
          let printed = (there.name.bytes 0 (omega (arith, there.name.some))).printable in
          absurd (omega (arith, zeros_at bare 0 e 0 (omega arith), bare_byte 0 (omega arith), part_at entry 0 10 0 (omega arith), printed))

numbering_alike : (i : ℕ) (bares es : List (List ℕ)) → length bares ≡ length es → ((d : ℕ) → d < length es → is_absent (get_or bares d []) ≡ eqb (entry_index (get_or es d [])) 0)
    → new_indexes i bares ≡ numbered_from i (map entry_index es)
unfolding new_indexes numbered_from
numbering_alike i [] [] e same = refl
numbering_alike i [] (entry ∷ es) e same = absurd (omega arith)
numbering_alike i (bare ∷ bares) [] e same = absurd (omega arith)
numbering_alike i (bare ∷ bares) (entry ∷ es) e same =
    rw (same 0 (omega arith))
    (go (eqb (entry_index entry) 0) (λ j. numbering_alike j bares es (omega arith) (λ d h. same (suc d) (omega arith))))
  where
    go : (t : Bool) → ((j : ℕ) → new_indexes j bares ≡ numbered_from j (map entry_index es))
        → cond t (0 ∷ new_indexes i bares) (i ∷ new_indexes (i + 1) bares) ≡ cond t (0 ∷ numbered_from i (map entry_index es)) (i ∷ numbered_from (i + 1) (map entry_index es))
    go true more = ap (λ (l : List ℕ). 0 ∷ l) (more i)
    go false more = ap (λ (l : List ℕ). i ∷ l) (more (i + 1))

-- The label of a sound volume.
module _ (layout : Layout) (image : List ℕ) (is : Sound layout image) where
  abbrev sector0 : List ℕ
  sector0 = sector_of image 0

  abbrev pub front : List ℕ
  front = part (sector_of image 0) 0 56

  abbrev pub old_indexes : List ℕ
  old_indexes = map entry_index (entries layout (sector_of image 0))

  abbrev zeros : List ℕ
  zeros = replicate (length (entries layout (sector_of image 0))) 0

  sector0_long : length sector0 ≡ 256
  sector0_long = sector_length image 0 (omega (arith, is.whole, is.size))

  pub front_length : length front ≡ 56
  front_length = part_length sector0 0 56 (omega (arith, sector0_long))

  pub front_byte : (i : ℕ) → i < 56 → byte_at front i ≡ byte_at sector0 i
  front_byte i h = let z : 0 + i ≡ i = omega arith in rw z at (part_at sector0 0 56 i h)

  pub front-entries : entries layout front ≡ entries layout sector0
  front-entries = entries_alike layout front sector0 (omega (arith, front_length)) (omega (arith, sector0_long)) front_byte

  pub label_length : length (label_area layout image) ≡ 56
  unfolding label_area
  label_length = with_length front 30 _ ∙ front_length

  pub label_byte : (i : ℕ) → i < 30 → byte_at (label_area layout image) i ≡ byte_at sector0 i
  unfolding label_area
  label_byte i h = with_below front 30 _ i h ∙ front_byte i (omega arith)

  -- none of its entries has an index sector, and each is absent where it was
  zeros_many : length zeros ≡ length (entries layout front)
  zeros_many = length-replicate (length (entries layout sector0)) 0 ∙ ap length (sym front-entries)

  pub new_numbers : new_indexes 2 (entries layout (label_area layout image)) ≡ numbered_from 2 old_indexes
  unfolding label_area
  new_numbers =
      let bare = with_indexes front 30 zeros in
      let room : 56 ≤ length front = omega (arith, front_length) in
      numbering_alike 2 (entries layout bare) (entries layout sector0) (entries_many layout bare sector0)
      (λ d h.
      let inside : d < length (entries layout front) = omega (arith, h, entries_many layout front sector0) in
      let same : get_or (entries layout front) d [] ≡ get_or (entries layout sector0) d [] = ap (λ (es : List (List ℕ)). get_or es d []) front-entries in
      absent_alike (get_or (entries layout sector0) d []) (get_or (entries layout bare) d [])
      (new_length layout front zeros room zeros_many d inside)
      (new_name layout front zeros room zeros_many d inside ∙ ap entry_name same)
      (new_index layout front zeros room zeros_many d inside ∙ zero_at (length (entries layout sector0)) d)
      (sector_count image) (is.entered.each d h))
    where
      zero_at : (m d : ℕ) → get_or {A = ℕ} (replicate m 0) d 0 ≡ 0
      zero_at zero d = refl
      zero_at (suc m) zero = refl
      zero_at (suc m) (suc d) = zero_at m d

  -- so its packed form has the numbers from 2 on in the place of those that it had
  pub packed_label_lem : packed_label layout (label_area layout image) ≡ with_indexes front 30 (numbered_from 2 old_indexes)
  unfolding packed_label label_area
  packed_label_lem =
      let long : length zeros ≡ length (numbered_from 2 old_indexes) = length-replicate (length (entries layout sector0)) 0 ∙ sym (numbered_length 2 old_indexes ∙ length-map (entries layout sector0) entry_index) in
      rw new_numbers (with_again front 30 zeros (numbered_from 2 old_indexes) long)

  -- they are read back, the entries keep their names, and so the rules of entries
  abbrev label : List ℕ
  label = packed_label layout (label_area layout image)

  abbrev news : List ℕ
  news = numbered_from 2 old_indexes

  news_many : length news ≡ length (entries layout front)
  news_many = numbered_length 2 old_indexes ∙ length-map (entries layout sector0) entry_index ∙ entries_many layout sector0 front

  module _ (d : ℕ) (h : d < length (entries layout label)) where
    there : d < length (entries layout front)
    there = omega (arith, h, entries_many layout label front)

    abbrev entry_before : List ℕ
    entry_before = get_or (entries layout (sector_of image 0)) d []

    abbrev entry_after : List ℕ
    entry_after = get_or (entries layout (packed_label layout (label_area layout image))) d []

    same_before : get_or (entries layout front) d [] ≡ entry_before
    same_before = ap (λ (es : List (List ℕ)). get_or es d []) front-entries

    same_after : entry_after ≡ get_or (entries layout (with_indexes front 30 news)) d []
    same_after = ap (λ (l : List ℕ). get_or (entries layout l) d []) packed_label_lem

    packed_name : entry_name entry_after ≡ entry_name entry_before
    packed_name = ap entry_name same_after ∙ new_name layout front news (omega (arith, front_length)) news_many d there ∙ ap entry_name same_before

    packed_number : entry_index entry_after ≡ get_or news d 0
    packed_number = ap entry_index same_after ∙ new_index layout front news (omega (arith, front_length)) news_many d there

    packed_entry_length : length entry_after ≡ 12
    packed_entry_length = ap length same_after ∙ new_length layout front news (omega (arith, front_length)) news_many d there

    old_number : get_or old_indexes d 0 ≡ entry_index entry_before
    old_number = get_mapped entry_index (entries layout sector0) d [] 0 (omega (arith, h, entries_many layout label sector0))

  pub packed_indexes_lem : map entry_index (entries layout label) ≡ news
  packed_indexes_lem =
      let long = length-map (entries layout label) entry_index in
      ext_get_or 0 (map entry_index (entries layout label)) news (long ∙ entries_many layout label front ∙ sym news_many)
      (λ d h.
      let inside : d < length (entries layout label) = omega (arith, h, long) in
      get_mapped entry_index (entries layout label) d [] 0 inside ∙ packed_number d inside)

  pub packed_entries : length (present old_indexes) + 2 ≤ sector_count image → AreEntries (sector_count image) (entries layout label)
  packed_entries room =
      record {
        each = λ d h. each d h (is.entered.each d (inside d h));
        differ = λ d e low h is_entry same.
            is.entered.differ d e low (inside e h) (was_entry d (omega arith) is_entry (is.entered.each d (inside d (omega arith)))) (sym (packed_name d (omega arith)) ∙ same ∙ packed_name e h);
      }
    where
      inside : (d : ℕ) → d < length (entries layout label) → d < length (entries layout sector0)
      inside d h = omega (arith, h, entries_many layout label sector0)

      each : (d : ℕ) (h : d < length (entries layout label)) → IsAbsent (entry_before d h) ⊎ IsEntry (sector_count image) (entry_before d h) → IsAbsent (entry_after d h) ⊎ IsEntry (sector_count image) (entry_after d h)
      each d h (inl absent) = inl (bare_zeros (entry_before d h) (entry_after d h) (packed_entry_length d h) (packed_name d h) none absent)
        where
          none : entry_index (entry_after d h) ≡ 0
          none = packed_number d h ∙ (numbered_zero 2 old_indexes d (omega arith)).1 (old_number d h ∙ omega (arith, absent 10, absent 11))
      each d h (inr was) =
          let some : get_or news d 0 ≡ 0 → ⊥ = λ z. omega (arith, was.range, old_number d h, (numbered_zero 2 old_indexes d (omega arith)).0 z) in
          let range = numbered_range 2 old_indexes d some in
          inr (record { name = rw (packed_name d h) was.name; range = (omega (arith, range, packed_number d h), omega (arith, range, packed_number d h, room)) })

      was_entry : (d : ℕ) (h : d < length (entries layout label)) → IsEntry (sector_count image) (entry_after d h) → IsAbsent (entry_before d h) ⊎ IsEntry (sector_count image) (entry_before d h) → IsEntry (sector_count image) (entry_before d h)
      was_entry d h now-is (inr was) = was
      was_entry d h now-is (inl absent) =
          absurd (omega (arith, now-is.range, packed_number d h, (numbered_zero 2 old_indexes d (omega arith)).1 (old_number d h ∙ omega (arith, absent 10, absent 11))))

-- a label area with any index sectors in it has the label area that it is of
pub label_again : (layout : Layout) (source target is : List ℕ) → length is ≡ length (entries layout (sector_of target 0)) → part (sector_of target 0) 0 56 ≡ with_indexes (label_area layout source) 30 is
    → label_area layout target ≡ label_area layout source
unfolding label_area
label_again layout source target is many e =
    let zeros : List ℕ = replicate (length (entries layout (sector_of target 0))) 0 in
    let old : List ℕ = replicate (length (entries layout (sector_of source 0))) 0 in
    let same : zeros ≡ old = ap (λ (m : ℕ). replicate m 0) (entries_many layout (sector_of target 0) (sector_of source 0)) in
    ap (λ (l : List ℕ). with_indexes l 30 zeros) e
    ∙ with_again (with_indexes (part (sector_of source 0) 0 56) 30 old) 30 is zeros (many ∙ sym (length-replicate (length (entries layout (sector_of target 0))) 0))
    ∙ ap (with_indexes (with_indexes (part (sector_of source 0) 0 56) 30 old) 30) same
    ∙ with_again (part (sector_of source 0) 0 56) 30 old old refl

-- contents of whole sectors
unfoldable pub Full : List (List ℕ) → Type 0
Full [] = Unit {0}
Full (sector ∷ sectors) = (length sector ≡ 256) × Full sectors

pub joined_length : (sectors : List (List ℕ)) → Full sectors → length (joined sectors) ≡ 256 * length sectors
unfolding joined Full
joined_length [] full = refl
joined_length (sector ∷ sectors) full = length-append sector (joined sectors) ∙ omega (arith, full.0, joined_length sectors full.1)

-- a file with a whole header and such contents
pub record Whole (file : File) : Type 0 where
  pub long : length file.header ≡ 28
  pub full : Full file.contents

unfoldable pub AllWhole : List File → Type 0
AllWhole [] = Unit {0}
AllWhole (file ∷ more) = Whole file × AllWhole more

-- its parts, and those of several
pub descriptor_length : (s : ℕ) (file : File) → Whole file → length (packed_descriptor s file) ≡ 256
unfolding packed_descriptor
descriptor_length s file whole =
    let bs = one_block s (length file.contents) in
    length-append file.header (chain_with bs) ∙ omega (arith, whole.long, chain_with-length bs)

pub descriptors_length : (s : ℕ) (files : List File) → AllWhole files → length (packed_descriptors s files) ≡ 256 * length files
unfolding AllWhole packed_descriptors
descriptors_length s [] whole = refl
descriptors_length s (file ∷ more) whole =
    let further = s + length file.contents in
    length-append (packed_descriptor s file) (packed_descriptors further more) ∙ omega (arith, descriptor_length s file whole.0, descriptors_length further more whole.1)

pub data_length : (files : List File) → AllWhole files → length (packed_data files) ≡ 256 * data_sectors files
unfolding AllWhole packed_data data_sectors
data_length [] whole = refl
data_length (file ∷ more) whole =
    length-append (joined file.contents) (packed_data more) ∙ omega (arith, joined_length file.contents whole.0.full, data_length more whole.1)

pub indexes_length : (s : ℕ) (all : List (List File)) → length (packed_indexes s all) ≡ 256 * length all
unfolding packed_indexes
indexes_length s [] = refl
indexes_length s (files ∷ more) =
    length-append (index_of (run s (length files))) (packed_indexes (s + length files) more) ∙ omega (arith, index_length (run s (length files)), indexes_length (s + length files) more)

-- The files of an image of whole sectors.
full_sectors : (image ks : List ℕ) → ((k : ℕ) → 1 ≤ count k ks → 256 * k + 256 ≤ length image) → Full (map (sector_of image) ks)
unfolding Full
full_sectors image [] inside = tt
full_sectors image (k ∷ ks) inside =
    (sector_length image k (inside k (omega (arith, count_here k ks))), full_sectors image ks (λ j h. inside j (omega (arith, h, count_more j k ks))))

module _ (n : ℕ) (image : List ℕ) (whole : length image ≡ 256 * n) where
  pub header_length : (k : ℕ) → k < n → length (header_in image k) ≡ 28
  unfolding header_in
  header_length k inside = part_length (sector_of image k) 0 28 (omega (arith, sector_length image k (omega arith)))

  pub file_whole : (layout : Layout) (k : ℕ) → k < n → IsDescriptor layout n (sector_of image k) → Whole (file_in image k)
  unfolding file_in contents_in
  file_whole layout k inside is =
      record { long = header_length k inside; full = full_sectors image (places_in image k) (λ p h. omega (arith, whole, places_inside layout n image k p is h)) }

  files_whole : (layout : Layout) (ks : List ℕ) → ((p : ℕ) → p < length ks → get_or ks p 0 < n) → ((p : ℕ) → p < length ks → IsDescriptor layout n (sector_of image (get_or ks p 0)))
      → AllWhole (map (file_in image) ks)
  unfolding AllWhole
  files_whole layout [] inside is = tt
  files_whole layout (k ∷ ks) inside is =
      (file_whole layout k (inside 0 (omega arith)) (is 0 (omega arith)), files_whole layout ks (λ p h. inside (suc p) (omega arith)) (λ p h. is (suc p) (omega arith)))

-- those of several indexes together are the files of all of them
pub together_files : (image is : List ℕ) → together (map (catalogue image) is) ≡ map (file_in image) (files_of image is)
unfolding together files_of catalogue
together_files image [] = refl
together_files image (i ∷ is) = ap (λ (l : List File). map (file_in image) (files_in image i) ++ l) (together_files image is) ∙ sym (map-append (file_in image) (files_in image i) (files_of image is))

-- the files of all indexes, and what the packed form takes of them
abbrev pub all_files : Layout → List ℕ → List ℕ
all_files layout image = files_of image (indexes layout image)

pub all_together : (layout : Layout) (image : List ℕ) → together (catalogues layout image) ≡ map (file_in image) (all_files layout image)
unfolding catalogues
all_together layout image = together_files image (indexes layout image)

pub all_sectors : (layout : Layout) (image : List ℕ)
    → packed_sectors (catalogues layout image) ≡ 1 + length (indexes layout image) + length (all_files layout image) + data_sectors (map (file_in image) (all_files layout image))
unfolding packed_sectors catalogues
all_sectors layout image = rw (together_files image (indexes layout image), length-map (indexes layout image) (catalogue image), length-map (all_files layout image) (file_in image)) refl

pub together_whole : (layout : Layout) (image : List ℕ) → Sound layout image → AllWhole (together (catalogues layout image))
together_whole layout image is =
    let ks = all_files layout image in
    let rules = files_range layout image (indexes layout image) is.each in
    rw (all_together layout image)
    (files_whole (sector_count image) image is.whole layout ks (λ p h. (rules (get_or ks p 0) (count_at ks p h)).1) (λ p h. (rules (get_or ks p 0) (count_at ks p h)).2))

-- the files hold their descriptors and their contents, and there is room for them
pub held_sectors : (image ks : List ℕ) → length (file_holders image ks) ≡ length ks + data_sectors (map (file_in image) ks)
unfolding file_holders data_sectors file_in contents_in
held_sectors image [] = refl
held_sectors image (k ∷ ks) =
    omega (arith, length-append (places_in image k) (file_holders image ks), length-map (places_in image k) (sector_of image), held_sectors image ks)

pub used_inside : (layout : Layout) (image : List ℕ) → Sound layout image → packed_sectors (catalogues layout image) ≤ sector_count image
unfolding holders
used_inside layout image is =
    let all = indexes layout image in
    let ks = all_files layout image in
    omega (arith, all_sectors layout image, free_holders layout image is, held_sectors image ks, length-append all (file_holders image ks))

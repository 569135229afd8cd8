-- A formatted volume is sound and its catalogue is empty: sector 0 is the new label, with no entries, and the map of sectors 0 and 1; sector 1 is zeros, so there are no files and no other holders.
use mathlib.Core.Path.{◌≡◌, refl, sym, ap, ◌∙◌}
use mathlib.Core.Bool.{Bool, true, false, cond}
use mathlib.Core.List.{List, [], ◌∷◌, ◌++◌, append_assoc}
use Prim.Native.Nat.{ℕ, zero, suc, ◌+◌, ◌-◌, ◌*◌, ◌/◌, ◌%◌, ◌≤◌, ◌<◌}
use mathlib.Core.Logic.{inl}
use native.Mathlib.Omega.{arith}
use native.Mathlib.Decide.{dec_lt}
use lib.ListN.{length, take, drop, get_or, replicate, get_or-replicate, get_or-append, get_or-eq_default}
use lib.Seq.{take_at, drop_at, take_all, drop-drop, get_or-append-add}
use borrow.Author.Tests.{not-false, eqb-true}
use Rattle.std.proofs.lemmas.List.{drop-replicate}
use Rattle.rules.specs.Bytes.{byte_at, word_at, part}
use Rattle.rules.specs.Sectors.{sector_of, sector_count}
use Rattle.rules.specs.Name.{name_rule, IsName}
use Rattle.rules.specs.Label.{IsLabel}
use Rattle.rules.specs.Map.{map_bit, taken, map_of}
use Rattle.rules.specs.Index.{numbers}
use Rattle.rules.specs.Volume.{indexes, files_in, files_of, file_holders, holders, catalogue, catalogues}
use Rattle.rules.specs.Verdict.{size_rule}
use Rattle.rules.specs.Sound.{SoundIndex, Sound}
use Rattle.rules.specs.Directory.{entries, IsAbsent}
use Rattle.rules.specs.Calls.Format.{Geometry, new_label, formatted, format_tests, format_number, after_format}
use Rattle.rules.specs.Tests.{Passed}
use Rattle.rules.specs.declared.Layout.{Layout}
use Rattle.rules.proofs.Tests.{all_passed, unless_passed}
use Rattle.rules.proofs.Bytes.{part_short, part_at, part_behind, part_and_rest}
use Rattle.rules.proofs.Name.{name_is}
use Rattle.rules.proofs.Map.{only_one, taken_below, taken_past, map_of_bits}
use Rattle.rules.proofs.Directory.{absent_no_entry}
use Rattle.rules.proofs.Indexes.{only_root}
use Rattle.rules.proofs.Verdict.{size_is, passes}
use Rattle.rules.proofs.Formatted.{zero_index, system_once, map_length, label_length, sector0_length, formatted_parts, formatted-length, formatted_sector0, formatted_sector1}
use Rattle.demands.specs.Formatting.{EmptyVolume, Formats}
use Rattle.demands.specs.Does.{Formatting, FormatCall}

-- a sector that begins with a name, and what stands behind it
named_label : (n : ℕ) (name label map : List ℕ) → IsName name → word_at (label ++ map) 0 ≡ n
    → (byte_at (label ++ map) 3 ≡ 0x44) × (byte_at (label ++ map) 4 ≡ 0x53) × (byte_at (label ++ map) 5 ≡ 0x4B)
    → IsLabel n ((name ++ label) ++ map)
named_label n name label map named counted dsk =
    rw (append_assoc name label map)
    (record {
      name = rw (take_at name (label ++ map) 10 named.ten) named;
      count = rw (behind 0, behind 1) counted;
      dsk = (behind 3 ∙ dsk.0, behind 4 ∙ dsk.1, behind 5 ∙ dsk.2);
    })
  where
    behind : (i : ℕ) → byte_at (name ++ (label ++ map)) (10 + i) ≡ byte_at (label ++ map) i
    behind i = rw named.ten at (get_or-append-add name (label ++ map) i 0)

module _ (n : ℕ) (name : List ℕ) (g : Geometry) (large : 3 ≤ n) (small : n ≤ 1600) (named : IsName name) where
  abbrev fields : List ℕ
  fields = (n / 256) ∷ ((n % 256) ∷ (g.sectors_per_track ∷ (0x44 ∷ (0x53 ∷ (0x4B ∷ (0x20 ∷ (g.tracks ∷ (g.sides ∷ (g.density ∷ [])))))))))

  abbrev volume : List ℕ
  volume = map_of n (0 ∷ (1 ∷ [])) ++ (replicate 256 0 ++ replicate (256 * (n - 2)) 0xE5)

  new_label_lem : IsLabel n (new_label n name g ++ map_of n (0 ∷ (1 ∷ [])))
  unfolding new_label
  new_label_lem = named_label n name _ (map_of n (0 ∷ (1 ∷ []))) named (omega arith) (refl, refl, refl)

  new_map : (k : ℕ) → k < 1600 → map_bit (new_label n name g ++ map_of n (0 ∷ (1 ∷ []))) k ≡ taken n (0 ∷ (1 ∷ [])) k
  new_map =
      let long = label_length n name g named.ten in
      map_of_bits n (0 ∷ (1 ∷ [])) (new_label n name g ++ map_of n (0 ∷ (1 ∷ []))) system_once
      (ap (take 200) (drop_at (new_label n name g) (map_of n (0 ∷ (1 ∷ []))) 56 long) ∙ take_all 200 (map_of n (0 ∷ (1 ∷ []))) (omega (arith, map_length n (0 ∷ (1 ∷ [])))))

  no_files : files_in (formatted n name g) 1 ≡ []
  unfolding files_in numbers
  no_files = rw (formatted_sector1 n name g named.ten)

  -- the label has no entries: bytes 20 to 55 are zeros
  label_zeros : (i : ℕ) → i < 36 → byte_at (new_label n name g ++ map_of n (0 ∷ (1 ∷ []))) (20 + i) ≡ 0
  unfolding new_label
  label_zeros i low =
      let e : 20 + i ≡ 10 + (10 + i) = omega arith in
      rw (append_assoc name (fields ++ replicate 36 0) (map_of n (0 ∷ (1 ∷ []))), append_assoc fields (replicate 36 0) (map_of n (0 ∷ (1 ∷ []))), e)
      (rw named.ten at (get_or-append-add name (fields ++ (replicate 36 0 ++ map_of n (0 ∷ (1 ∷ [])))) (10 + i) 0)
      ∙ get_or-append-add fields (replicate 36 0 ++ map_of n (0 ∷ (1 ∷ []))) i 0
      ∙ get_or-append (replicate 36 0) (map_of n (0 ∷ (1 ∷ []))) 0 i low
      ∙ get_or-replicate 36 i 0 0 low)

  absent_entry : (at : ℕ) → at + 12 ≤ 36 → IsAbsent (part (new_label n name g ++ map_of n (0 ∷ (1 ∷ []))) (20 + at) 12)
  absent_entry at inside i =
      elim (dec_lt i 12) [
        | yes low ↦
            let e : 20 + at + i ≡ 20 + (at + i) = omega arith in
            part_at (new_label n name g ++ map_of n (0 ∷ (1 ∷ []))) (20 + at) 12 i low ∙ rw e (label_zeros (at + i) (omega arith))
        | no past ↦ get_or-eq_default (part (new_label n name g ++ map_of n (0 ∷ (1 ∷ []))) (20 + at) 12) 0 {n = i} (omega (arith, part_short (new_label n name g ++ map_of n (0 ∷ (1 ∷ []))) (20 + at) 12))
      ]

  no_entries : (layout : Layout) (d : ℕ) → IsAbsent (get_or (entries layout (new_label n name g ++ map_of n (0 ∷ (1 ∷ [])))) d [])
  unfolding entries
  no_entries layout d = go layout.directories d
    where
      go : (t : Bool) (d : ℕ)
          → IsAbsent (get_or (cond t (part (new_label n name g ++ map_of n (0 ∷ (1 ∷ []))) 20 12 ∷ (part (new_label n name g ++ map_of n (0 ∷ (1 ∷ []))) 32 12 ∷ (part (new_label n name g ++ map_of n (0 ∷ (1 ∷ []))) 44 12 ∷ []))) []) d [])
      go true zero = absent_entry 0 (omega arith)
      go true (suc zero) = absent_entry 12 (omega arith)
      go true (suc (suc zero)) = absent_entry 24 (omega arith)
      go true (suc (suc (suc d))) = λ i. refl
      go false d = λ i. refl

  root_alone : (layout : Layout) → indexes layout (formatted n name g) ≡ 1 ∷ []
  root_alone layout = only_root layout (formatted n name g) (λ d. rw (formatted_sector0 n name g named.ten) (no_entries layout d))

  new_holders : (layout : Layout) → holders layout (formatted n name g) ≡ 0 ∷ (1 ∷ [])
  unfolding holders files_of file_holders
  new_holders layout = rw (root_alone layout, no_files)

  new_count : sector_count (formatted n name g) ≡ n
  new_count = rw (formatted-length n name g named.ten (omega arith)) (omega arith)

  formatted_sound : (layout : Layout) → Sound layout (formatted n name g)
  formatted_sound layout =
      let s0 = formatted_sector0 n name g named.ten in
      record {
        whole = rw new_count (formatted-length n name g named.ten (omega arith));
        size = rw new_count (large, small);
        label = rw (new_count, s0) new_label_lem;
        entered = rw s0 (record { each = λ d h. inl (no_entries layout d); differ = λ d e l h is same. absent_no_entry _ _ (no_entries layout d) is });
        each = λ i indexed. let root : 1 ≡ i = only_one 1 i (rw (root_alone layout) at indexed) in rw (← root) sound_root;
        single = rw (new_holders layout) system_once;
        marked = rw (new_count, s0, new_holders layout) (λ k h. new_map k (omega arith) ∙ taken_below n (0 ∷ (1 ∷ [])) k h);
        filled = rw (new_count, s0) (λ k h l. new_map k l ∙ taken_past n (0 ∷ (1 ∷ [])) k h);
      }
    where
      sound_root : SoundIndex layout (formatted n name g) 1
      sound_root =
          record {
            index = rw (formatted_sector1 n name g named.ten) (zero_index (sector_count (formatted n name g)) 256);
            descriptors = rw no_files (λ p h. absurd (omega arith));
            ascending = rw no_files (λ p q h l. absurd (omega arith));
          }

  empty_volume : (layout : Layout) → EmptyVolume layout (formatted n name g)
  unfolding catalogues catalogue
  empty_volume layout = record { sound = formatted_sound layout; judged = passes layout (formatted n name g) (formatted_sound layout); empty = rw (root_alone layout, no_files) }

  -- every byte
  fields_at : (i many : ℕ) → part (formatted n name g) (10 + i) many ≡ part (fields ++ (replicate 36 0 ++ volume)) i many
  unfolding formatted new_label
  fields_at i many =
      rw (append_assoc name (fields ++ replicate 36 0) volume, append_assoc fields (replicate 36 0) volume) (part_behind name (fields ++ (replicate 36 0 ++ volume)) 10 i many named.ten)

  name_at : part (formatted n name g) 0 10 ≡ name
  unfolding formatted new_label
  name_at = rw (append_assoc name (fields ++ replicate 36 0) volume) (take_at name ((fields ++ replicate 36 0) ++ volume) 10 named.ten)

  -- from sector 2 on, and so from any byte behind it
  fresh_from : (from : ℕ) → 512 ≤ from → drop from (formatted n name g) ≡ replicate (length (formatted n name g) - from) 0xE5
  fresh_from from behind =
      let image = formatted n name g in
      let zeros : List ℕ = replicate 256 0 in
      let rest : List ℕ = replicate (256 * (n - 2)) 0xE5 in
      let sector0 = new_label n name g ++ map_of n (0 ∷ (1 ∷ [])) in
      let fresh : drop 512 image ≡ rest =
      rw (formatted_parts n name g named.ten)
      (sym (drop-drop 256 256 (sector0 ++ (zeros ++ rest)))
      ∙ ap (drop 256) (drop_at sector0 (zeros ++ rest) 256 (sector0_length n name g named.ten))
      ∙ drop_at zeros rest 256 refl)
      in
      let split : from ≡ 512 + (from - 512) = omega arith in
      let left : 256 * (n - 2) - (from - 512) ≡ length image - from = omega (arith, formatted-length n name g named.ten (omega arith)) in
      ap (λ (m : ℕ). drop m image) split
      ∙ sym (drop-drop (from - 512) 512 image)
      ∙ ap (drop (from - 512)) fresh
      ∙ drop-replicate (from - 512) (256 * (n - 2)) 0xE5
      ∙ ap (λ (m : ℕ). replicate m 0xE5) left

  pub formatted_bytes : Formats n name g (formatted n name g)
  unfolding sector_of
  formatted_bytes =
      let zeros : List ℕ = replicate 256 0 in
      let rest : List ℕ = replicate (256 * (n - 2)) 0xE5 in
      record {
        name_is = name_at;
        fields = fields_at 0 10;
        reserved = fields_at 10 36;
        map = fields_at 46 200 ∙ take_at (map_of n (0 ∷ (1 ∷ []))) (zeros ++ rest) 200 (map_length n (0 ∷ (1 ∷ [])));
        index = formatted_sector1 n name g named.ten;
        rest = fresh_from _ (omega arith);
      }

pub formatting : (layout : Layout) → Formatting layout
unfolding Formatting
formatting layout n name g large small rule = empty_volume n name g large small (name_is name rule) layout

-- number 0: the tests that were passed
pub format_passed : (image : List ℕ) (n : ℕ) (name : List ℕ) → format_number image n name ≡ 0 → (3 ≤ n) × (n ≤ 1600) × (name_rule name ≡ true)
unfolding format_tests Passed
format_passed image n name e =
    let passed = all_passed (format_tests image n name) e in
    let size = size_is image (not-false (size_rule image) passed.0) in
    let asked = eqb-true n (sector_count image) (not-false _ passed.1.0) in
    (omega arith, omega arith, not-false (name_rule name) passed.1.1.0)

pub format_size : (image : List ℕ) (n : ℕ) (name : List ℕ) → format_number image n name ≡ 0 → length image ≡ 256 * n
unfolding format_tests Passed
format_size image n name e =
    let passed = all_passed (format_tests image n name) e in
    rw (eqb-true n (sector_count image) (not-false _ passed.1.0)) (size_is image (not-false (size_rule image) passed.0)).0

pub format_call : (layout : Layout) → FormatCall layout
unfolding Formatting FormatCall after_format
format_call layout image n name g e =
    let passed = format_passed image n name e in
    rw (unless_passed (format_tests image n name) (formatted n name g) image e) (formatting layout n name g passed.0 passed.1 passed.2)

-- and so of the image that the call leaves; two images that it leaves are one
pub format_bytes : (image : List ℕ) (n : ℕ) (name : List ℕ) (g : Geometry) → format_number image n name ≡ 0 → Formats n name g (after_format image n name g)
unfolding after_format
format_bytes image n name g e =
    let passed = format_passed image n name e in
    rw (unless_passed (format_tests image n name) (formatted n name g) image e) (formatted_bytes n name g passed.0 passed.1 (name_is name passed.2))

pub formats_one : (n : ℕ) (name : List ℕ) (g : Geometry) (a b : List ℕ) → length a ≡ length b → Formats n name g a → Formats n name g b → a ≡ b
formats_one n name g a b long one two =
    let rest = one.rest ∙ ap (λ (m : ℕ). replicate (m - 512) 0xE5) long ∙ sym two.rest in
    let index = part_and_rest a b 256 256 (one.index ∙ sym two.index) rest in
    let map = part_and_rest a b 56 200 (one.map ∙ sym two.map) index in
    let reserved = part_and_rest a b 20 36 (one.reserved ∙ sym two.reserved) map in
    let fields = part_and_rest a b 10 10 (one.fields ∙ sym two.fields) reserved in
    part_and_rest a b 0 10 (one.name_is ∙ sym two.name_is) fields

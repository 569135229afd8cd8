-- Store, where its number is 0: a new program was entered, with a free sector for each 256 of its bytes and for the rest.
use mathlib.Core.Path.{◌≡◌, sym, ◌∙◌}
use mathlib.Core.List.{List, [], ◌∷◌, ◌++◌}
use Prim.Native.Nat.{ℕ, ◌+◌, ◌%◌, ◌≤◌, ◌<◌}
use native.Mathlib.Omega.{arith}
use lib.ListN.{length}
use borrow.Author.Tests.{ltb-false, leb-false}
use Rattle.rules.specs.Sectors.{Write, sector_of, sector_count, written, sectors_in, Whole}
use Rattle.rules.specs.Kind.{allowed_bits, marking, kind_of, sectors_for, IsKind}
use Rattle.rules.specs.Map.{count, free_count, marked, marked_all}
use Rattle.rules.specs.Chain.{extended_all}
use Rattle.rules.specs.Descriptor.{new_descriptor, with_chain}
use Rattle.rules.specs.Volume.{files_in, catalogue}
use Rattle.rules.specs.Choice.{descriptor_choice, data_choices}
use Rattle.rules.specs.Tests.{Passed}
use Rattle.rules.specs.Opening.{open_of}
use Rattle.rules.specs.Calls.Create.{entered}
use Rattle.rules.specs.Calls.Store.{data_writes, new_sectors, new_blocks, store_tests, storing, store_of}
use Rattle.rules.specs.declared.Layout.{Layout}
use Rattle.rules.proofs.Name.{name_is}
use Rattle.rules.proofs.Marks.{allowed_four, marking-status, marking_kind, program_status}
use Rattle.rules.proofs.Choice.{Chosen, sound_fenced, choices_length, new_free, new_once}
use Rattle.rules.proofs.Listed.{label_long}
use Rattle.rules.proofs.Tests.{all_passed, unless_passed}
use Rattle.rules.proofs.Opening.{IsAbsent, absent_at, open_refused, added_done}
use Rattle.demands.specs.Catalogue.{put_in}
use Rattle.demands.specs.Call.{store}
use Rattle.demands.specs.Ours.{outcome}
use Rattle.demands.specs.Effects.{effect, Done, new_header, pieces, new_program}
use Rattle.demands.specs.Taking.{ForDescriptor, Takes}
use Rattle.demands.specs.Touches.{Enters, TouchesIn}
use Rattle.demands.specs.Does.{Does}
use Rattle.demands.proofs.NewFile.{with_chain_made}
use Rattle.demands.proofs.Taking.{descriptor_lowest, new_takes}
use Rattle.demands.proofs.Entering.{new_file_done}

program_kind : (layout : Layout) (c end_offset : ℕ) → (c ≡ 0 → end_offset ≡ 0) → IsKind (kind_of (marking layout 0x01) c end_offset 0) c end_offset
unfolding kind_of IsKind
program_kind layout c end_offset rule = rw (marking_kind layout 0x01 c end_offset 0) rule

-- the new program, with c sectors ks
program_done : (layout : Layout) (image : List ℕ) (i : ℕ) (name bytes : List ℕ) (k : ℕ) (ks : List ℕ) (c : ℕ) → length ks ≡ c → (c ≡ 0 → length bytes % 256 ≡ 0) → c ≤ 4096 → IsAbsent layout image name i → length (files_in image i) < 127
    → ((j : ℕ) → count j (k ∷ ks) ≤ 1) → ((j : ℕ) → 1 ≤ count j (k ∷ ks) → Chosen (sector_count image) (sector_of image 0) j) → length (extended_all [] ks) ≤ 76
    → ForDescriptor image k → Takes image (k ∷ []) [] [] ks (extended_all [] ks)
    → let end_offset = length bytes % 256 in
    let descriptor = with_chain (new_descriptor name (marking layout 0x01) 0 end_offset 0) c (extended_all [] ks) in
    let after = written image (data_writes bytes ks ++ entered image i name k descriptor (marked_all 1 (sector_of image 0) (k ∷ ks))) in
    Done layout image after i name (effect (put_in (record { header = new_header name (marking layout 0x01) 0 c end_offset 0; contents = pieces c bytes }) (catalogue image i)) (1 + c) 0)
    × Enters image after i name c (sectors_in (data_writes bytes ks ++ entered image i name k descriptor (marked_all 1 (sector_of image 0) (k ∷ ks))))
    × Whole (length image) (data_writes bytes ks ++ entered image i name k descriptor (marked_all 1 (sector_of image 0) (k ∷ ks)))
program_done layout image i name bytes k ks c many empty small absent few once free short chosen takes =
    let end_offset = length bytes % 256 in
    let made = with_chain_made name (marking layout 0x01) 0 end_offset 0 (name_is name absent.rule).ten c (extended_all [] ks) in
    rw many at
    (new_file_done layout image i name bytes k ks (marking layout 0x01) 0 end_offset 0 absent few once free short (omega (arith, many, small)) (marking-status layout 0x01 (program_status (allowed_bits layout) (allowed_four layout))) (program_kind layout (length ks) end_offset (λ none. empty (sym many ∙ none)))
    (with_chain (new_descriptor name (marking layout 0x01) 0 end_offset 0) c (extended_all [] ks)) (rw many made) chosen takes)

-- what is stored, with the sectors chosen for it
module _ (layout : Layout) (image : List ℕ) (i : ℕ) (name bytes : List ℕ) where
  abbrev sector0 : List ℕ
  sector0 = sector_of image 0

  abbrev c : ℕ
  c = sectors_for (length bytes)

  abbrev k : ℕ
  k = descriptor_choice sector0

  abbrev ks : List ℕ
  ks = data_choices c (marked 1 sector0 k)

  abbrev writes : List Write
  writes = data_writes bytes ks ++ entered image i name k (with_chain (new_descriptor name (marking layout 0x01) 0 (length bytes % 256) 0) c (extended_all [] ks)) (marked_all 1 sector0 (k ∷ ks))

  stored_done : IsAbsent layout image name i → Passed (store_tests image bytes i)
      → Done layout image (written image writes) i name (effect (put_in (new_program layout name bytes) (catalogue image i)) (1 + c) 0) × Enters image (written image writes) i name c (sectors_in writes)
      × Whole (length image) writes
  unfolding store_tests new_blocks new_sectors Passed
  stored_done absent passed =
      let fence = sound_fenced layout image absent.whole in
      let free = ltb-false (free_count sector0) (1 + c) passed.1.1.0 in
      program_done layout image i name bytes k ks c (choices_length c (marked 1 sector0 k)) (λ none. omega (arith, none)) (omega (arith, ltb-false 32768 (length bytes) passed.0)) absent
      (leb-false 127 (length (files_in image i)) passed.1.0) (new_once (sector_count image) sector0 c (label_long layout image absent.whole) fence free) (new_free (sector_count image) sector0 c (label_long layout image absent.whole) fence free)
      (ltb-false 76 (length (extended_all [] ks)) passed.1.1.1.0) (descriptor_lowest layout image absent.whole (omega (arith, free))) (new_takes layout image c absent.whole free)

pub stores : (layout : Layout) (bytes : List ℕ) → Does layout (store bytes)
unfolding outcome store_of storing new_blocks new_sectors TouchesIn
stores layout bytes image directory name e =
    let added = added_done (open_of layout image directory name) (storing layout image name bytes) (open_refused layout image directory name) e in
    let i = added.index in
    let tests = store_tests image bytes i in
    let absent = absent_at layout image directory name i added.absent in
    rw (added.is, unless_passed tests (writes layout image i name bytes) [] added.number, absent.0) (stored_done layout image i name bytes absent.1 (all_passed tests added.number))

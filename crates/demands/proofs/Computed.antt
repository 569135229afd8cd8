-- What is computed of case M, in one test, so that its image is built once: the bench table holds, the listing is what the paper prints, the volume is sound, and
-- NOTES, which has a sector, can be appended to.
use mathlib.Core.Path.{◌≡◌, refl}
use mathlib.Core.Bool.{Bool, true, false, ◌&&◌}
use mathlib.Core.List.{List, [], ◌∷◌, ◌++◌}
use Prim.Native.Nat.{ℕ, ◌≤◌}
use lib.Dec.{eqb, ltb}
use lib.ListN.{length, replicate}
use borrow.Author.Tests.{eqb-true, ltb-true}
use Rattle.rules.specs.Bytes.{all_are, same, over, splice, with_bit}
use Rattle.rules.specs.Sectors.{sector_of, written, joined}
use Rattle.rules.specs.Name.{name_byte, padded, name_rule, wrong_from, wrong_place, precedes}
use Rattle.rules.specs.Label.{label_rule}
use Rattle.rules.specs.Map.{map_bit, count, taken, bits_rule, map_rule, byte_of, bytes_of, map_of, zero_bits, free_count, marked, marked_all}
use Rattle.rules.specs.Chain.{block_bytes, block_of, ends_chain, blocks, blocks_rule, chain_rule, run, places_from, places, extended, extended_all, blocks_bytes}
use Rattle.rules.specs.Kind.{allowed_bits, within, status_rule, marking, program_length, kind_of, kind_rule}
use Rattle.rules.specs.Descriptor.{name_of, chain_of, file_kind, descriptor_rule, new_descriptor, with_chain, marked_by}
use Rattle.rules.specs.Index.{numbers, range_rule, index_rule, numbers_bytes, index_of, without}
use Rattle.rules.specs.Volume.{directories, index_at, present, indexes, every, files_in, files_of, name_in, places_in, file_holders, holders, placed, header_in, contents_in, file_in, catalogue, catalogues}
use Rattle.rules.specs.Directory.{entries, entry_name, is_absent, is_named, entry_rule, entries_rule}
use Rattle.rules.specs.Calls.Pack.{with_indexes, label_area, new_indexes, packed_label, together, packed_indexes, one_block, packed_descriptor, packed_descriptors, packed_data, data_sectors, packed_sectors, packed}
use Rattle.rules.specs.Verdict.{size_rule, descriptors_rule, held_twice, volume_tests, verdict}
use Rattle.rules.specs.Choice.{lowest_free, descriptor_choice, data_choice, data_choices}
use Rattle.rules.specs.Tests.{first_of, unless_met}
use Rattle.rules.specs.Outcome.{if_wrong}
use Rattle.rules.specs.Opening.{find_from, find_in, in_directory, on_sound, under_name, open_of, changing, adding}
use Rattle.rules.specs.Calls.Format.{new_label, formatted}
use Rattle.rules.specs.Calls.Create.{create_status, entered, create_tests, creating, create_of}
use Rattle.rules.specs.Calls.Append.{longer_blocks, append_tests, append_writes, appending, append_of}
use Rattle.rules.specs.Calls.Store.{data_writes, new_sectors, new_blocks, store_tests, storing, store_of}
use Rattle.rules.specs.Calls.Listing.{digits, decimal, unpadded, kind_word, kind_length, disk_line, mark_field, file_line, file_lines, listing_text}
use Rattle.rules.specs.declared.Layout.{Layout}
use Rattle.rules.proofs.Tests.{both}
use Rattle.demands.specs.Catalogue.{named}
use Rattle.demands.specs.CaseM.{notes, case_m, printed}
use Rattle.demands.specs.Bench.{Case, disk_x, geometry, table_of}

unfoldable pub holds : List Case → Bool
holds [] = true
holds (row ∷ rows) = same row.computed row.printed && holds rows

-- the bytes of a second sector for NOTES
abbrev pub second_sector : List ℕ
second_sector = replicate 256 0x43

-- the table with the sectors 0 of the empty volumes as they are known to be
abbrev pub rows : Layout → List ℕ → List Case
rows layout m = table_of layout (new_label 35 disk_x geometry ++ map_of 35 (0 ∷ (1 ∷ []))) (new_label 360 disk_x geometry ++ map_of 360 (0 ∷ (1 ∷ []))) m

unfoldable ready : (layout : Layout) → List ℕ → Bool
ready layout m = eqb (verdict layout m) 0 && (eqb (append_of layout m 0 notes second_sector).number 0 && ltb 0 (length (named notes (catalogue m 1)).contents))

unfoldable tests : (layout : Layout) → List ℕ → Bool
tests layout m = holds (rows layout m) && (same (listing_text layout m 1) (printed layout) && ready layout m)

-- what the tests say of an image that passes them
pub record Shown (layout : Layout) (m : List ℕ) : Type 0 where
  pub tabled : holds (rows layout m) ≡ true
  pub listed : same (listing_text layout m 1) (printed layout) ≡ true
  pub judged : verdict layout m ≡ 0
  pub appended : (append_of layout m 0 notes second_sector).number ≡ 0
  pub held : 1 ≤ length (named notes (catalogue m 1)).contents

passed : (layout : Layout) (m : List ℕ) → tests layout m ≡ true → Shown layout m
unfolding tests ready
passed layout m e =
    let first = both (holds (rows layout m)) (same (listing_text layout m 1) (printed layout) && ready layout m) e in
    let next = both (same (listing_text layout m 1) (printed layout)) (ready layout m) first.1 in
    let sound = both (eqb (verdict layout m) 0) (eqb (append_of layout m 0 notes second_sector).number 0 && ltb 0 (length (named notes (catalogue m 1)).contents)) next.1 in
    let last = both (eqb (append_of layout m 0 notes second_sector).number 0) (ltb 0 (length (named notes (catalogue m 1)).contents)) sound.1 in
    record {
      tabled = first.0;
      listed = next.0;
      judged = eqb-true (verdict layout m) 0 sound.0;
      appended = eqb-true (append_of layout m 0 notes second_sector).number 0 last.0;
      held = ltb-true 0 (length (named notes (catalogue m 1)).contents) last.1;
    }

-- by either rule, in either edition
all_pass : (marks directories : Bool) → tests (record { marks = marks; directories = directories }) (case_m (record { marks = marks; directories = directories })) ≡ true
unfolding header_in contents_in file_in catalogue joined with_indexes label_area new_indexes packed_label together packed_indexes one_block packed_descriptor packed_descriptors packed_data data_sectors packed_sectors packed same holds table_of case_m over splice all_are with_bit sector_of written name_byte padded name_rule precedes label_rule map_bit count taken bits_rule map_rule byte_of bytes_of map_of zero_bits free_count marked marked_all block_bytes block_of ends_chain blocks blocks_rule chain_rule run places_from places extended extended_all blocks_bytes allowed_bits within status_rule marking program_length kind_of kind_rule name_of chain_of file_kind descriptor_rule new_descriptor with_chain marked_by numbers range_rule index_rule numbers_bytes index_of without entries entry_name is_absent is_named entry_rule entries_rule directories index_at present indexes every files_in files_of catalogues name_in places_in file_holders holders placed size_rule descriptors_rule held_twice volume_tests verdict first_of unless_met lowest_free descriptor_choice data_choice data_choices wrong_from wrong_place if_wrong find_from find_in in_directory on_sound under_name open_of changing adding new_label formatted create_status entered create_tests creating create_of longer_blocks append_tests append_writes appending append_of data_writes new_sectors new_blocks store_tests storing store_of digits decimal unpadded kind_word kind_length disk_line mark_field file_line file_lines listing_text named tests ready
all_pass true true = refl
all_pass true false = refl
all_pass false true = refl
all_pass false false = refl

pub computed : (layout : Layout) → Shown layout (case_m layout)
computed layout = passed layout (case_m layout) (all_pass layout.marks layout.directories)

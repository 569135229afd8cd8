-- The backup mark, and the sets of allowed bits. Laws of new files and of protecting hold for any set that has document 01's four; those of the mark for either rule, by whether it has the bit.
use mathlib.Core.Path.{◌≡◌, refl, sym, ap, ◌∙◌}
use mathlib.Core.Bool.{false}
use mathlib.Core.List.{List}
use Prim.Native.Nat.{ℕ, ◌+◌, ◌*◌, ◌≤◌, ◌<◌}
use native.Mathlib.Omega.{arith}
use native.Mathlib.Decide.{ℕ_discrete}
use lib.ListN.{length, get_or, take, set, length-set}
use lib.Seq.{get_or-set_same, get_or-set_other, set-get_or, get_or-take, take-set-lt}
use Rattle.rules.specs.Bytes.{byte_at, bit_of, with_bit, splice}
use Rattle.rules.specs.Sectors.{sector_of, written}
use Rattle.rules.specs.Kind.{allowed_bits, marking, kind_of, IsStatus}
use Rattle.rules.specs.Descriptor.{name_of, status_of, sectors_of, chain_of, marked_by, IsDescriptor}
use Rattle.rules.specs.Volume.{places_in}
use Rattle.rules.specs.Calls.Overwrite.{overwrite_writes}
use Rattle.rules.specs.declared.Layout.{Layout}
use Rattle.rules.proofs.Written.{sector_back}
use Rattle.rules.proofs.Tests.{by_rule}
use Rattle.rules.proofs.Map.{by_eight}
use Rattle.rules.proofs.Marking.{with_bit_other, with_bit_same, with_bit_below}
use Rattle.rules.proofs.Descriptor.{name_same, chain_same, set_rules}

-- a set that has the four bits of document 01; both rules do
pub record HoldsFour (bits : ℕ) : Type 0 where
  pub program : bit_of bits 0 ≡ 1
  pub internal : bit_of bits 1 ≡ 1
  pub protected : bit_of bits 3 ≡ 1
  pub variable : bit_of bits 7 ≡ 1

pub allowed_four : (layout : Layout) → HoldsFour (allowed_bits layout)
unfolding allowed_bits
allowed_four =
    by_rule (λ layout. HoldsFour (allowed_bits layout)) (λ edition. record { program = refl; internal = refl; protected = refl; variable = refl })
    (λ edition. record { program = refl; internal = refl; protected = refl; variable = refl })

-- a status with its bit 3 or 4 made `bit`: it keeps its rule where the set has that bit or the bit is made zero
pub bit_status : (bits status j bit : ℕ) → bit ≤ 1 → 3 ≤ j → j ≤ 4 → (bit_of bits j ≡ 0 → bit ≡ 0) → IsStatus bits status → IsStatus bits (with_bit status j bit)
bit_status bits status j bit small low high fits is =
    let zeroth = with_bit_other status j bit small 0 (λ e. omega arith) in
    let first = with_bit_other status j bit small 1 (λ e. omega arith) in
    let seventh = with_bit_other status j bit small 7 (λ e. omega arith) in
    record {
      small = with_bit_below status j bit small is.small (omega arith);
      others = λ i h out.
          elim (ℕ_discrete i j) [
            | yes here ↦ ap (bit_of (with_bit status j bit)) here ∙ with_bit_same status j bit small ∙ fits (ap (bit_of bits) (sym here) ∙ out)
            | no other ↦ with_bit_other status j bit small i other ∙ is.others i h out
          ];
      excludes = rw (zeroth, first, seventh) is.excludes;
    }

-- the descriptor with such a status
pub bit_rules : (layout : Layout) (j bit : ℕ) → bit ≤ 1 → 3 ≤ j → j ≤ 4 → (bit_of (allowed_bits layout) j ≡ 0 → bit ≡ 0) → (d : List ℕ) → length d ≡ 256
    → (n : ℕ) → IsDescriptor layout n d → IsDescriptor layout n (set d 12 (with_bit (status_of d) j bit))
bit_rules layout j bit small low high fits d long n is =
    let new = with_bit (status_of d) j bit in
    let status : status_of (set d 12 new) ≡ new = get_or-set_same d 12 new 0 (omega arith) in
    set_rules layout d 12 new (omega arith) (omega arith)
    (λ i third fourth. rw status (with_bit_other (status_of d) j bit small i (λ e. elim (ℕ_discrete j 3) [ yes three ↦ third (e ∙ three) | no four ↦ fourth (omega (arith, e, four)) ])))
    (rw status (bit_status (allowed_bits layout) (status_of d) j bit small low high fits is.status)) n is

-- The status of a file that a call makes or changes: the mark is set by the rule that has it, and no other bit changes.
module _ (layout : Layout) (status : ℕ) where
  pub marking_bit : (j : ℕ) → (j ≡ 4 → ⊥) → bit_of (marking layout status) j ≡ bit_of status j
  unfolding marking
  marking_bit j other = by_rule (λ layout. bit_of (marking layout status) j ≡ bit_of status j) (λ edition. with_bit_other status 4 1 (omega arith) j other) (λ edition. refl) layout

  pub marking-status : IsStatus (allowed_bits layout) status → IsStatus (allowed_bits layout) (marking layout status)
  unfolding marking allowed_bits
  marking-status =
      by_rule (λ layout. IsStatus (allowed_bits layout) status → IsStatus (allowed_bits layout) (marking layout status))
      (λ edition is. bit_status _ status 4 1 (omega arith) (omega arith) (omega arith) (λ none. absurd (omega (arith, none))) is) (λ edition is. is) layout

  -- so it is a file of the same kind
  pub marking_kind : (c end_offset record_length : ℕ) → kind_of (marking layout status) c end_offset record_length ≡ kind_of status c end_offset record_length
  unfolding kind_of
  marking_kind c end_offset record_length = rw (marking_bit 0 (λ e. omega arith), marking_bit 1 (λ e. omega arith), marking_bit 7 (λ e. omega arith))

-- Its descriptor.
module _ (layout : Layout) (d : List ℕ) where
  pub mark_length : length (marked_by layout d) ≡ length d
  unfolding marked_by
  mark_length = length-set d 12 (marking layout (status_of d))

  pub mark_byte : (i : ℕ) → (i ≡ 12 → ⊥) → byte_at (marked_by layout d) i ≡ byte_at d i
  unfolding marked_by
  mark_byte i other = get_or-set_other d 12 i (marking layout (status_of d)) 0 other

  pub mark_status : 12 < length d → status_of (marked_by layout d) ≡ marking layout (status_of d)
  unfolding marked_by
  mark_status inside = get_or-set_same d 12 (marking layout (status_of d)) 0 inside

  pub mark_name : name_of (marked_by layout d) ≡ name_of d
  mark_name = name_same d (marked_by layout d) mark_length (λ i low. mark_byte i (λ e. omega arith))

  pub mark_chain : chain_of (marked_by layout d) ≡ chain_of d
  mark_chain = chain_same d (marked_by layout d) mark_length (λ i low. mark_byte i (λ e. omega arith))

  pub mark_sectors : sectors_of (marked_by layout d) ≡ sectors_of d
  mark_sectors = rw (mark_byte 14 (λ e. omega arith), mark_byte 15 (λ e. omega arith))

  pub mark_rules : length d ≡ 256 → (n : ℕ) → IsDescriptor layout n d → IsDescriptor layout n (marked_by layout d)
  unfolding marked_by
  mark_rules long n is =
      let status = mark_status (omega arith) in
      set_rules layout d 12 (marking layout (status_of d)) (omega arith) (omega arith) (λ j third fourth. rw status (marking_bit layout (status_of d) j fourth))
      (rw status (marking-status layout (status_of d) is.status)) n is

  -- its header, as the catalogue holds it
  pub mark_header : take 28 (marked_by layout d) ≡ set (take 28 d) 12 (marking layout (byte_at (take 28 d) 12))
  unfolding marked_by
  mark_header = rw (get_or-take 28 d 12 0 (omega arith)) (take-set-lt 28 d 12 (marking layout (status_of d)) (omega arith))

  -- without marks it stays
  pub mark_none : layout.marks ≡ false → marked_by layout d ≡ d
  unfolding marked_by marking
  mark_none e = rw e (set-get_or d 12 0)

-- Overwriting by either rule: the descriptor marked, and then the data. Without marks the descriptor is laid where it lies.
pub overwrite_written : (layout : Layout) (image bytes : List ℕ) (offset k : ℕ)
    → written image (overwrite_writes layout image offset bytes k)
    ≡ splice (splice image (256 * k) (marked_by layout (sector_of image k))) (256 * get_or (places_in image k) offset 0) bytes
unfolding overwrite_writes written
overwrite_written layout image bytes offset k =
    by_rule
    (λ layout.
    written image (overwrite_writes layout image offset bytes k)
    ≡ splice (splice image (256 * k) (marked_by layout (sector_of image k))) (256 * get_or (places_in image k) offset 0) bytes)
    (λ edition. refl) (λ edition. rw (mark_none (record { marks = false; directories = edition }) (sector_of image k) refl, sector_back image k)) layout

-- The statuses of new files, by any set that has the four.
module _ (bits : ℕ) (four : HoldsFour bits) where
  pub program_status : IsStatus bits 0x01
  program_status =
      record {
        small = omega arith;
        others =
            by_eight (λ (j : ℕ). bit_of bits j ≡ 0 → bit_of 0x01 j ≡ 0) (λ e. absurd (omega (arith, e, four.program))) (λ e. refl) (λ e. refl) (λ e. refl) (λ e. refl) (λ e. refl) (λ e. refl)
            (λ e. refl);
        excludes = λ e. (refl, refl);
      }

  -- of records: the bits of internal and variable files, or none
  pub records_status : (internal variable : ℕ) → internal ≤ 1 → variable ≤ 1 → IsStatus bits (2 * internal + 128 * variable)
  records_status internal variable one one' =
      record {
        small = omega arith;
        others =
            by_eight (λ (j : ℕ). bit_of bits j ≡ 0 → bit_of (2 * internal + 128 * variable) j ≡ 0) (λ e. omega arith) (λ e. absurd (omega (arith, e, four.internal))) (λ e. omega arith)
            (λ e. omega arith) (λ e. omega arith) (λ e. omega arith) (λ e. omega arith) (λ e. absurd (omega (arith, e, four.variable)));
        excludes = λ e. absurd (omega (arith, e));
      }

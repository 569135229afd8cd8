-- A descriptor's rule, as a test and as facts; its record count and the two bytes of it, each had back from the other; what is read of a descriptor of which other bytes were changed, and
-- of a new one.
use mathlib.Core.Path.{◌≡◌, ap, ◌∙◌}
use mathlib.Core.Bool.{true, ◌&&◌}
use mathlib.Core.List.{List, [], ◌∷◌, ◌++◌}
use Prim.Native.Nat.{ℕ, ◌+◌, ◌/◌, ◌%◌, ◌≤◌, ◌<◌}
use native.Mathlib.Omega.{arith}
use lib.ListN.{length, set, take, replicate, length-set, length-append}
use lib.Seq.{get_or-set_other, drop-append-add}
use Rattle.rules.specs.Bytes.{byte_at, bit_of, word_bytes, part, splice}
use Rattle.rules.specs.Name.{name_rule, IsName}
use Rattle.rules.specs.Chain.{chain_rule}
use Rattle.rules.specs.Kind.{allowed_bits, status_rule, kind_of, kind_rule, IsStatus}
use Rattle.rules.specs.Descriptor.{name_of, status_of, sectors_of, record_count_of, chain_of, file_kind, descriptor_rule, new_descriptor, IsDescriptor}
use Rattle.rules.specs.declared.Layout.{Layout}
use Rattle.rules.proofs.Tests.{both}
use Rattle.rules.proofs.Bytes.{part_same}
use Rattle.rules.proofs.Splice.{splice-length, splice_inside, splice_above}
use Rattle.rules.proofs.Name.{name_is, is_name}
use Rattle.rules.proofs.Chain.{chain_is, is_chain}
use Rattle.rules.proofs.Status.{status_is, is_status, kind_is_lem, is_kind}

pub descriptor_is : (layout : Layout) (n : ℕ) (d : List ℕ) → descriptor_rule layout n d ≡ true → IsDescriptor layout n d
unfolding descriptor_rule
descriptor_is layout n d e =
    let kind = kind_rule (file_kind d) (sectors_of d) (byte_at d 16) in
    let chain = chain_rule n (sectors_of d) (chain_of d) in
    let named = both (name_rule (name_of d)) (status_rule (allowed_bits layout) (status_of d) && (kind && chain)) e in
    let marked = both (status_rule (allowed_bits layout) (status_of d)) (kind && chain) named.1 in
    let last = both kind chain marked.1 in
    record {
      name = name_is (name_of d) named.0;
      status = status_is (allowed_bits layout) (status_of d) marked.0;
      kind = kind_is_lem (file_kind d) (sectors_of d) (byte_at d 16) last.0;
      chain = chain_is n (sectors_of d) (chain_of d) last.1;
    }

pub is_descriptor : (layout : Layout) (n : ℕ) (d : List ℕ) → IsDescriptor layout n d → descriptor_rule layout n d ≡ true
unfolding descriptor_rule
is_descriptor layout n d is =
    rw (is_name (name_of d) is.name, is_status (allowed_bits layout) (status_of d) is.status, is_kind (file_kind d) (sectors_of d) (byte_at d 16) is.kind, is_chain n (sectors_of d) (chain_of d) is.chain)

-- the record count: a number whose low byte is byte 18 and whose high byte is byte 19; so one that is laid there low byte first is read back
pub record_count_back : (d : List ℕ) (number : ℕ) → byte_at d 18 ≡ number % 256 → byte_at d 19 ≡ number / 256 → record_count_of d ≡ number
unfolding record_count_of
record_count_back d number low high = omega arith

pub record_count_laid : (d : List ℕ) (number : ℕ) → 20 ≤ length d → record_count_of (splice d 18 ((number % 256) ∷ ((number / 256) ∷ []))) ≡ number
record_count_laid d number long =
    let bytes = (number % 256) ∷ ((number / 256) ∷ []) in
    record_count_back (splice d 18 bytes) number (splice_inside d 18 bytes 0 (omega arith) (omega arith)) (splice_inside d 18 bytes 1 (omega arith) (omega arith))

-- and its two bytes are those of the count
pub record_count_bytes : (d : List ℕ) → byte_at d 18 < 256 → (byte_at d 18 ≡ record_count_of d % 256) × (byte_at d 19 ≡ record_count_of d / 256)
unfolding record_count_of
record_count_bytes d low = (omega arith, omega arith)

module _ (d d' : List ℕ) (long : length d' ≡ length d) where
  pub name_same : ((i : ℕ) → i < 10 → byte_at d' i ≡ byte_at d i) → name_of d' ≡ name_of d
  unfolding name_of
  name_same same = part_same d' d 0 10 long (λ i low high. same i (omega arith))

  pub chain_same : ((i : ℕ) → 28 ≤ i → byte_at d' i ≡ byte_at d i) → chain_of d' ≡ chain_of d
  unfolding chain_of
  chain_same same = part_same d' d 28 228 long (λ i low high. same i low)

  -- where nothing was changed from c on, and of the status protection and mark alone, the rules are kept
  pub front_changed : (layout : Layout) (n : ℕ) → ((i : ℕ) → 14 ≤ i → byte_at d' i ≡ byte_at d i) → ((j : ℕ) → (j ≡ 3 → ⊥) → (j ≡ 4 → ⊥) → bit_of (status_of d') j ≡ bit_of (status_of d) j)
      → IsName (name_of d') → IsStatus (allowed_bits layout) (status_of d') → IsDescriptor layout n d → IsDescriptor layout n d'
  unfolding file_kind kind_of
  front_changed layout n same bits name status is =
      let c : sectors_of d' ≡ sectors_of d = rw (same 14 (omega arith), same 15 (omega arith)) in
      let kind : file_kind d' ≡ file_kind d = rw (bits 0 (λ e. omega arith) (λ e. omega arith), bits 1 (λ e. omega arith) (λ e. omega arith), bits 7 (λ e. omega arith) (λ e. omega arith), same 14 (omega arith), same 15 (omega arith), same 16 (omega arith), same 17 (omega arith)) in
      record {
        name = name;
        status = status;
        kind = rw (kind, c, same 16 (omega arith)) is.kind;
        chain = rw (chain_same (λ i low. same i (omega arith)), c) is.chain;
      }

-- one byte set between the name and c
pub set_rules : (layout : Layout) (d : List ℕ) (i value : ℕ) → 10 ≤ i → i < 14 → ((j : ℕ) → (j ≡ 3 → ⊥) → (j ≡ 4 → ⊥) → bit_of (status_of (set d i value)) j ≡ bit_of (status_of d) j) → IsStatus (allowed_bits layout) (status_of (set d i value))
    → (n : ℕ) → IsDescriptor layout n d → IsDescriptor layout n (set d i value)
set_rules layout d i value low high bits status n is =
    let same = length-set d i value in
    let name = name_same d (set d i value) same (λ j h. get_or-set_other d i j value 0 (λ e. omega arith)) in
    front_changed d (set d i value) same layout n (λ j h. get_or-set_other d i j value 0 (λ e. omega arith)) bits (rw name is.name) status is

-- the number of sectors does not touch the chain
pub numbered_chain : (d : List ℕ) (c : ℕ) → chain_of (splice d 14 (word_bytes c)) ≡ chain_of d
numbered_chain d c = chain_same d (splice d 14 (word_bytes c)) (splice-length d 14 (word_bytes c)) (λ i low. splice_above d 14 (word_bytes c) i (omega arith))

-- a new descriptor is a whole sector, and has no chain
module _ (name : List ℕ) (status records_per_sector end_offset record_length : ℕ) (ten : length name ≡ 10) where
  pub new_length : length (new_descriptor name status records_per_sector end_offset record_length) ≡ 256
  unfolding new_descriptor
  new_length = length-append name _ ∙ rw ten

  pub new_chain : chain_of (new_descriptor name status records_per_sector end_offset record_length) ≡ replicate 228 0
  unfolding new_descriptor chain_of
  new_chain =
      let back : List ℕ = 0 ∷ (0 ∷ (status ∷ (records_per_sector ∷ (0 ∷ (0 ∷ (end_offset ∷ (record_length ∷ replicate 238 0))))))) in
      let e : 28 ≡ length name + 18 = omega arith in
      ap (λ (from : ℕ). part (name ++ back) from 228) e ∙ ap (take 228) (drop-append-add name back 18)

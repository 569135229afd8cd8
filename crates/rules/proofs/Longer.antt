-- A descriptor with one sector more: its name and status stay, and its header but for the number of sectors; it keeps its rules, and its places are the old ones and the new one.
use mathlib.Core.Path.{◌≡◌, sym, ap, ◌∙◌}
use mathlib.Core.Bool.{false}
use mathlib.Core.List.{List, [], ◌∷◌, ◌++◌}
use Prim.Native.Nat.{ℕ, ◌+◌, ◌-◌, ◌*◌, ◌≤◌, ◌<◌}
use native.Mathlib.Omega.{arith}
use native.Mathlib.Decide.{dec_lt}
use lib.ListN.{length, take, get_or-eq_default}
use Rattle.rules.specs.Bytes.{byte_at, word_bytes, splice}
use Rattle.rules.specs.Chain.{blocks, places_from, places, extended, blocks_bytes, chain_with, Linked}
use Rattle.rules.specs.Kind.{is_program}
use Rattle.rules.specs.Descriptor.{name_of, status_of, sectors_of, chain_of, file_kind, with_chain, IsDescriptor}
use Rattle.rules.specs.declared.Layout.{Layout}
use Rattle.rules.specs.declared.Block.{Block}
use Rattle.rules.proofs.Bytes.{part_at, part_short}
use Rattle.rules.proofs.Splice.{splice_past, splice-take}
use Rattle.rules.proofs.Descriptor.{name_same}
use Rattle.rules.proofs.Status.{any_kind}
use Rattle.rules.proofs.Extended.{Writable, extended_places, extended_linked, extended-length, linked_writable, with_chain-length, with_chain_sectors, with_chain_before, with_chain-blocks, with_chain_with, with_chain_is}

abbrev pub longer_blocks_lem : List ℕ → ℕ → List Block
longer_blocks_lem d new = extended 0 (blocks (chain_of d)) new

abbrev pub longer_descriptor : List ℕ → ℕ → List ℕ
longer_descriptor d new = with_chain d (sectors_of d + 1) (extended 0 (blocks (chain_of d)) new)

-- the header
module _ (d : List ℕ) (new : ℕ) where
  pub longer_name : name_of (longer_descriptor d new) ≡ name_of d
  longer_name =
      name_same d (longer_descriptor d new) (with_chain-length d (sectors_of d + 1) (longer_blocks_lem d new))
      (λ i low. with_chain_before d (sectors_of d + 1) (longer_blocks_lem d new) i (omega arith))

  pub longer_header : take 28 (longer_descriptor d new) ≡ splice (take 28 d) 14 (word_bytes (sectors_of d + 1))
  unfolding with_chain
  longer_header =
      splice-take 28 (splice d 14 (word_bytes (sectors_of d + 1))) 28 (blocks_bytes (longer_blocks_lem d new))
      ∙ splice_past (take 28 (splice d 14 (word_bytes (sectors_of d + 1)))) 28 _ (part_short (splice d 14 (word_bytes (sectors_of d + 1))) 0 28)
      ∙ splice-take 28 d 14 (word_bytes (sectors_of d + 1))

  pub longer_status : status_of (longer_descriptor d new) ≡ status_of d
  longer_status = with_chain_before d (sectors_of d + 1) (longer_blocks_lem d new) 12 (omega arith)

-- the rules and the places
module _ (layout : Layout) (n : ℕ) (d : List ℕ) (new : ℕ) (size : length d ≡ 256) (is : IsDescriptor layout n d) (small : n ≤ 1600) (short : sectors_of d ≤ 1600) (from : 2 ≤ new) (inside : new < n)
    (records : is_program (status_of d) ≡ false) (few : length (longer_blocks_lem d new) ≤ 76) where
  linked : Linked n (sectors_of d + 1) 0 (longer_blocks_lem d new)
  linked = extended_linked n new from inside (sectors_of d) 0 (blocks (chain_of d)) is.chain.linked

  writable : Writable (longer_blocks_lem d new)
  writable = linked_writable n (sectors_of d + 1) 0 (longer_blocks_lem d new) (omega arith) (omega arith) linked

  zero_behind : (i : ℕ) → 28 + 3 * length (longer_blocks_lem d new) ≤ i → byte_at d i ≡ 0
  unfolding chain_of
  zero_behind i h =
      elim (dec_lt i 256) [
        | yes low ↦
            let e : 28 + (i - 28) ≡ i = omega arith in
            let read = rw e at (part_at d 28 228 (i - 28) (omega arith)) in
            sym read ∙ is.chain.rest (i - 28) (omega (arith, h, (extended-length 0 (blocks (chain_of d)) new).0))
        | no past ↦ get_or-eq_default d 0 {n = i} (omega arith)
      ]

  pub longer_places : places (chain_of (longer_descriptor d new)) ≡ places (chain_of d) ++ (new ∷ [])
  unfolding places
  longer_places =
      ap (places_from 0) (with_chain-blocks d (sectors_of d + 1) (longer_blocks_lem d new) size writable few zero_behind)
      ∙ extended_places n new (sectors_of d) 0 (blocks (chain_of d)) is.chain.linked

  pub longer_chain : chain_of (longer_descriptor d new) ≡ chain_with (longer_blocks_lem d new)
  longer_chain = with_chain_with d (sectors_of d + 1) (longer_blocks_lem d new) size writable few zero_behind

  pub longer_rules : IsDescriptor layout n (longer_descriptor d new)
  unfolding file_kind
  longer_rules =
      let c = with_chain_sectors d (sectors_of d + 1) (longer_blocks_lem d new) (omega arith) in
      record {
        name = rw (longer_name d new) is.name;
        status = rw (longer_status d new) is.status;
        kind = any_kind _ _ _ _ (rw (longer_status d new) records);
        chain = rw c (with_chain_is d (sectors_of d + 1) (longer_blocks_lem d new) size writable few zero_behind n linked);
      }

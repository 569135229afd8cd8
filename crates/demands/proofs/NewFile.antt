-- The descriptor of a new file is its header and behind it its blocks and zeros, whether it has sectors or none; so it keeps the rules, and its places are those sectors.
use mathlib.Core.Path.{◌≡◌, sym, ap, ◌∙◌}
use mathlib.Core.Bool.{true}
use mathlib.Core.List.{List, [], ◌∷◌, ◌++◌, append_assoc}
use Prim.Native.Nat.{ℕ, ◌+◌, ◌/◌, ◌%◌, ◌≤◌}
use native.Mathlib.Omega.{arith}
use native.Mathlib.Nat.{zero-add, suc-add}
use lib.ListN.{length, take, replicate, length-append}
use lib.Seq.{take_at, drop_at, take_all, get_or-append-add}
use Rattle.rules.specs.Bytes.{byte_at, word_bytes, part, over, splice}
use Rattle.rules.specs.Name.{name_rule}
use Rattle.rules.specs.Chain.{blocks, places_from, places, blocks_bytes, Linked, chain_with}
use Rattle.rules.specs.Kind.{allowed_bits, kind_of, IsStatus, IsKind}
use Rattle.rules.specs.Descriptor.{name_of, status_of, sectors_of, chain_of, file_kind, new_descriptor, with_chain, IsDescriptor}
use Rattle.rules.specs.declared.Layout.{Layout}
use Rattle.rules.specs.declared.Block.{Block}
use Rattle.rules.proofs.Name.{name_is}
use Rattle.rules.proofs.Extended.{chain_with-length, chain_with_past, blocks-over, linked_writable}
use Rattle.demands.specs.Effects.{new_header}

-- bytes laid behind the front of a list leave the front
splice_behind : (front back : List ℕ) (i : ℕ) (bytes : List ℕ) → splice (front ++ back) (length front + i) bytes ≡ front ++ splice back i bytes
unfolding splice
splice_behind [] back i bytes = rw (zero-add i)
splice_behind (b ∷ front) back i bytes = rw (suc-add (length front) i) (ap (λ (l : List ℕ). b ∷ l) (splice_behind front back i bytes))

module _ (name : List ℕ) (status records_per_sector end_offset record_length : ℕ) (ten : length name ≡ 10) where
  -- the 18 bytes behind the name, and behind them a chain
  abbrev fields : ℕ → List ℕ → List ℕ
  fields c chain =
      0 ∷ (0 ∷ (status ∷ (records_per_sector ∷ ((c / 256) ∷ ((c % 256) ∷ (end_offset ∷ (record_length ∷ (0 ∷ (0 ∷ (0 ∷ (0 ∷ (0 ∷ (0 ∷ (0 ∷ (0 ∷ (0 ∷ (0 ∷ chain)))))))))))))))))

  header_length : (c : ℕ) → length (new_header name status records_per_sector c end_offset record_length) ≡ 28
  unfolding new_header
  header_length c = length-append name _ ∙ rw ten

  header_fields : (c : ℕ) (chain : List ℕ) → new_header name status records_per_sector c end_offset record_length ++ chain ≡ name ++ fields c chain
  unfolding new_header
  header_fields c chain = append_assoc name _ chain

  -- what is read of the header
  pub header_name : (c : ℕ) → part (new_header name status records_per_sector c end_offset record_length) 0 10 ≡ name
  unfolding new_header
  header_name c = take_at name (fields c []) 10 ten

  header_byte : (c i : ℕ) → byte_at (new_header name status records_per_sector c end_offset record_length) (10 + i) ≡ byte_at (fields c []) i
  unfolding new_header
  header_byte c i = rw ten at (get_or-append-add name (fields c []) i 0)

  pub header_status : (c : ℕ) → byte_at (new_header name status records_per_sector c end_offset record_length) 12 ≡ status
  header_status c = header_byte c 2

  pub header_end : (c : ℕ) → byte_at (new_header name status records_per_sector c end_offset record_length) 16 ≡ end_offset
  header_end c = header_byte c 6

  -- the descriptor is the header and a chain
  pub new_is : new_descriptor name status records_per_sector end_offset record_length ≡ new_header name status records_per_sector 0 end_offset record_length ++ chain_with []
  unfolding new_descriptor over blocks_bytes
  new_is = sym (header_fields 0 (replicate 228 0))

  pub with_chain_made : (c : ℕ) (bs : List Block)
      → with_chain (new_descriptor name status records_per_sector end_offset record_length) c bs ≡ new_header name status records_per_sector c end_offset record_length ++ chain_with bs
  unfolding new_descriptor with_chain splice over
  with_chain_made c bs =
      let numbered = splice_behind name (fields 0 (replicate 228 0)) 4 (word_bytes c) in
      let chained = splice_behind name (fields c (replicate 228 0)) 18 (blocks_bytes bs) in
      ap (λ (d : List ℕ). splice d 28 (blocks_bytes bs)) (rw ten at numbered) ∙ rw ten at chained ∙ sym (header_fields c (chain_with bs))

  -- what is read of it
  module _ (c : ℕ) (bs : List Block) where
    abbrev pub descriptor_with : List ℕ
    descriptor_with = new_header name status records_per_sector c end_offset record_length ++ chain_with bs

    pub made_length : length descriptor_with ≡ 256
    made_length = omega (arith, length-append (new_header name status records_per_sector c end_offset record_length) (chain_with bs), header_length c, chain_with-length bs)

    pub made_header : part descriptor_with 0 28 ≡ new_header name status records_per_sector c end_offset record_length
    made_header = take_at (new_header name status records_per_sector c end_offset record_length) (chain_with bs) 28 (header_length c)

    pub made_name : name_of descriptor_with ≡ name
    unfolding name_of
    made_name = ap (take 10) (header_fields c (chain_with bs)) ∙ take_at name (fields c (chain_with bs)) 10 ten

    made_byte : (i : ℕ) → byte_at descriptor_with (10 + i) ≡ byte_at (fields c (chain_with bs)) i
    made_byte i = ap (λ (l : List ℕ). byte_at l (10 + i)) (header_fields c (chain_with bs)) ∙ rw ten at (get_or-append-add name (fields c (chain_with bs)) i 0)

    made_status : status_of descriptor_with ≡ status
    made_status = made_byte 2

    made_sectors : sectors_of descriptor_with ≡ c
    made_sectors = omega (arith, made_byte 4, made_byte 5)

    made_kind : file_kind descriptor_with ≡ kind_of status c end_offset record_length
    unfolding file_kind
    made_kind = rw (made_status, made_sectors, made_byte 6, made_byte 7)

    pub made_chain : chain_of descriptor_with ≡ chain_with bs
    unfolding chain_of
    made_chain =
        ap (take 228) (drop_at (new_header name status records_per_sector c end_offset record_length) (chain_with bs) 28 (header_length c))
        ∙ take_all 228 (chain_with bs) (omega (arith, chain_with-length bs))

    module _ (n : ℕ) (small : n ≤ 4096) (few : c ≤ 4096) (short : length bs ≤ 76) (linked : Linked n c 0 bs) where
      blocks_back : blocks (chain_with bs) ≡ bs
      blocks_back = blocks-over 228 bs (linked_writable n c 0 bs small few linked) (omega arith)

      pub made_places : places (chain_of descriptor_with) ≡ places_from 0 bs
      unfolding places
      made_places = ap (places_from 0) (ap blocks made_chain ∙ blocks_back)

      pub made_rules : (layout : Layout) → name_rule name ≡ true → IsStatus (allowed_bits layout) status → IsKind (kind_of status c end_offset record_length) c end_offset → IsDescriptor layout n descriptor_with
      made_rules layout rule is kind =
          record {
            name = rw made_name (name_is name rule);
            status = rw made_status is;
            kind = rw (made_kind, made_sectors, made_byte 6) kind;
            chain = rw (made_sectors, made_chain) (record { linked = rw blocks_back linked; rest = λ i h. chain_with_past bs i (omega (arith, h, ap length blocks_back)) });
          }

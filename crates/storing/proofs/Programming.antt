-- A program's sectors made and written: its descriptor, whose chain the sectors are spread into, and the writes one after another, the last of which enters it. They are those of the
-- definition, and so is their order.
use mathlib.Core.Path.{◌≡◌, refl, sym, ap, ◌∙◌}
use mathlib.Core.Bool.{Bool}
use mathlib.Core.List.{List, [], ◌∷◌, ◌++◌}
use Prim.Native.Nat.{ℕ, suc, ◌+◌, ◌*◌, ◌%◌, ◌≤◌, ◌<◌}
use native.Mathlib.Omega.{arith}
use lib.Dec.{leb}
use lib.ListN.{length, replicate, length-append}
use borrow.Rule.Slice.PartMut.{put_mid}
use Rattle.rules.specs.Bytes.{word_bytes, splice}
use Rattle.rules.specs.Sectors.{Write, sectors_in, sector_of, sector_count, written}
use Rattle.rules.specs.Map.{free_count, marked, marked_all}
use Rattle.rules.specs.Chain.{blocks, places, blocks_bytes}
use Rattle.rules.specs.Kind.{sectors_for, marking}
use Rattle.rules.specs.Descriptor.{new_descriptor, chain_of, with_chain}
use Rattle.rules.specs.Index.{index_of}
use Rattle.rules.specs.Volume.{files_in, placed}
use Rattle.rules.specs.Sound.{IsIndexed, Sound}
use Rattle.rules.specs.Choice.{descriptor_choice}
use Rattle.rules.specs.Outcome.{write, order_of}
use Rattle.rules.specs.Calls.Create.{entered}
use Rattle.rules.specs.Calls.Store.{data_writes, new_sectors, new_blocks}
use Rattle.rules.specs.declared.Layout.{Layout}
use Rattle.rules.proofs.Splice.{splice-length, splice_append, put_back}
use Rattle.rules.proofs.Descriptor.{numbered_chain, new_length, new_chain}
use Rattle.rules.proofs.Extended.{with_chain-length, with_chain_chain, with_chain_laid}
use Rattle.rules.proofs.Marking.{all_length}
use Rattle.rules.proofs.Choice.{choices_length, sound_fenced, new_free}
use Rattle.rules.proofs.Listed.{label_long}
use Rattle.rules.proofs.Outcome.{order_laid}
use Rattle.rules.proofs.Written.{written_both}
use Rattle.rules.proofs.Through.{data_order}
use Rattle.index.proofs.Entered.{written-entered}
use Rattle.storing.specs.Spread.{IsSpread, Taken, Spread}
use Rattle.storing.specs.Program.{program_descriptor, program_map, program_writes}

-- the header is a whole sector, and its chain is empty
module _ (layout : Layout) (name : List ℕ) (many size : ℕ) (ten : length name ≡ 10) {header : List ℕ} (is : header ≡ splice (new_descriptor name (marking layout 0x01) 0 (size % 256) 0) 14 (word_bytes many)) where
  abbrev new : List ℕ
  new = new_descriptor name (marking layout 0x01) 0 (size % 256) 0

  whole : length new ≡ 256
  whole = new_length name (marking layout 0x01) 0 (size % 256) 0 ten

  empty : chain_of new ≡ replicate 228 0
  empty = new_chain name (marking layout 0x01) 0 (size % 256) 0 ten

  pub header_long : length header ≡ 256
  header_long = ap length is ∙ splice-length new 14 (word_bytes many) ∙ whole

  pub header_empty : chain_of header ≡ replicate 228 0
  header_empty = ap chain_of is ∙ numbered_chain new many ∙ empty

  -- a chain spread into it
  module _ {chain : List ℕ} (spread : IsSpread chain) where
    laid_in : put_mid 28 228 header chain ≡ splice header 28 chain
    laid_in = put_back header chain 28 228 spread.size (omega (arith, header_long))

    pub chain_in : put_mid 28 228 header chain ≡ with_chain (new_descriptor name (marking layout 0x01) 0 (size % 256) 0) many (blocks chain)
    chain_in = laid_in ∙ ap (λ (h : List ℕ). splice h 28 chain) is ∙ with_chain_laid new many (blocks chain) whole chain (rw empty spread.laid)

    pub chain_long : length (put_mid 28 228 header chain) ≡ 256
    chain_long = ap length laid_in ∙ splice-length header 28 chain ∙ header_long

    pub chain_out : chain_of (put_mid 28 228 header chain) ≡ chain
    chain_out =
        ap chain_of chain_in
        ∙ with_chain_chain new many (blocks chain) whole
        ∙ ap (λ (s : List ℕ). splice s 0 (blocks_bytes (blocks chain))) empty
        ∙ sym spread.laid

-- the sectors are those of the definition
module _ (image name bytes : List ℕ) (k many : ℕ) (chosen : k ≡ descriptor_choice (sector_of image 0)) (so_many : many ≡ sectors_for (length bytes)) (after chain : List ℕ) where
  pub enough_is : (enough : Bool) → Spread many (marked 1 (sector_of image 0) k) enough after chain → enough ≡ leb (length (new_blocks image many)) 76
  unfolding new_blocks new_sectors
  enough_is enough is = rw (← chosen) is.enough_is

  -- written one after another
  module _ (is : Taken many (marked 1 (sector_of image 0) k) after chain) where
    pub places_new : places chain ≡ new_sectors image many
    unfolding new_sectors
    places_new = rw (← chosen) is.places_are

    pub program_written : (layout : Layout) (one two descriptor : List ℕ) → one ≡ written image (data_writes bytes (places chain)) → two ≡ splice one (256 * k) descriptor
        → descriptor ≡ with_chain (new_descriptor name (marking layout 0x01) 0 (length bytes % 256) 0) many (blocks chain)
        → splice two 0 after ≡ written image (program_writes layout image name bytes)
    unfolding program_writes program_descriptor program_map new_blocks new_sectors marked_all written
    program_written layout one two descriptor one-is two_is descriptor_is =
        rw (two_is, one-is, descriptor_is, is.places_are, is.blocks_are, is.map, chosen, so_many) (written_both image (data_writes bytes (new_sectors image (sectors_for (length bytes)))) _)

-- the sectors of writes, as many as they are
sectors_length : (writes : List Write) → length (sectors_in writes) ≡ length writes
unfolding sectors_in
sectors_length [] = refl
sectors_length (write ∷ writes) = ap suc (sectors_length writes)

-- listed behind those of the data, with the number of all of them
order_behind : (changes bytes ks : List ℕ) (more : List Write) → 0 < length more
    → splice (splice (splice changes 2 ks) (2 + length ks) (sectors_in more)) 1 ((length ks + length more) ∷ []) ≡ splice changes 1 (order_of (data_writes bytes ks ++ more))
order_behind changes bytes ks more some =
    let writes = data_writes bytes ks ++ more in
    let sectors = data_order bytes ks more in
    let number : length writes ≡ length ks + length more = sym (sectors_length writes) ∙ ap length sectors ∙ length-append ks (sectors_in more) ∙ ap (λ (n : ℕ). length ks + n) (sectors_length more) in
    rw (splice_append changes 2 ks (sectors_in more), ← sectors, ← number) (order_laid changes writes (omega (arith, number)))

-- and then entered into index i: all its sectors were free
module _ (layout : Layout) (image : List ℕ) (i : ℕ) (name bytes : List ℕ) (whole : Sound layout image) (indexed : IsIndexed layout image i) (ten : length name ≡ 10) (room : 1 + sectors_for (length bytes) ≤ free_count (sector_of image 0)) where
  descriptor_long : length (program_descriptor layout image name bytes) ≡ 256
  unfolding program_descriptor
  descriptor_long = with_chain-length _ (sectors_for (length bytes)) (new_blocks image (sectors_for (length bytes))) ∙ new_length name (marking layout 0x01) 0 (length bytes % 256) 0 ten

  map_long : length (program_map image bytes) ≡ 256
  unfolding program_map
  map_long = all_length 1 (sector_of image 0) _ ∙ label_long layout image whole

  pub program_entered : (k : ℕ) → k ≡ descriptor_choice (sector_of image 0) → (there after : List ℕ) → there ≡ written image (program_writes layout image name bytes)
      → after ≡ written there (write i (index_of (placed there name k (files_in there i))) ∷ [])
      → after ≡ written image (data_writes bytes (new_sectors image (sectors_for (length bytes))) ++ entered image i name (descriptor_choice (sector_of image 0)) (program_descriptor layout image name bytes) (program_map image bytes))
  unfolding program_writes new_sectors
  program_entered k chosen there after there-is after_is =
      written-entered layout image i name bytes (descriptor_choice (sector_of image 0)) (new_sectors image (sectors_for (length bytes))) (program_descriptor layout image name bytes) (program_map image bytes) whole indexed
      (new_free (sector_count image) (sector_of image 0) (sectors_for (length bytes)) (label_long layout image whole) (sound_fenced layout image whole) room) descriptor_long map_long there after there-is
      (after_is ∙ ap (λ (j : ℕ). written there (write i (index_of (placed there name j (files_in there i))) ∷ [])) chosen)

  -- with its order
  pub program_listed : (k : ℕ) → k ≡ descriptor_choice (sector_of image 0) → (changes there order : List ℕ) → there ≡ splice changes 2 (new_sectors image (sectors_for (length bytes)))
      → order ≡ splice (splice there (2 + sectors_for (length bytes)) (k ∷ (0 ∷ (i ∷ [])))) 1 ((sectors_for (length bytes) + 3) ∷ [])
      → order ≡ splice changes 1 (order_of (data_writes bytes (new_sectors image (sectors_for (length bytes))) ++ entered image i name (descriptor_choice (sector_of image 0)) (program_descriptor layout image name bytes) (program_map image bytes)))
  unfolding new_sectors entered sectors_in
  program_listed k chosen changes there order there-is order_is =
      let ks = new_sectors image (sectors_for (length bytes)) in
      let many : length ks ≡ sectors_for (length bytes) = choices_length (sectors_for (length bytes)) (marked 1 (sector_of image 0) (descriptor_choice (sector_of image 0))) in
      order_is
      ∙ ap (λ (l : List ℕ). splice (splice l (2 + sectors_for (length bytes)) (k ∷ (0 ∷ (i ∷ [])))) 1 ((sectors_for (length bytes) + 3) ∷ [])) there-is
      ∙ ap (λ (n : ℕ). splice (splice (splice changes 2 ks) (2 + n) (k ∷ (0 ∷ (i ∷ [])))) 1 ((n + 3) ∷ [])) (sym many)
      ∙ ap (λ (j : ℕ). splice (splice (splice changes 2 ks) (2 + length ks) (j ∷ (0 ∷ (i ∷ [])))) 1 ((length ks + 3) ∷ [])) chosen
      ∙ order_behind changes bytes ks (entered image i name (descriptor_choice (sector_of image 0)) (program_descriptor layout image name bytes) (program_map image bytes)) (omega arith)

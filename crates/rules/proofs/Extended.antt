-- One sector more at the end of a chain: the blocks and their places afterwards, their bytes, which read back as the blocks that were laid down, and the descriptor that takes them. Last, how many sectors a sound file can have.
use mathlib.Core.Path.{◌≡◌, refl, sym, ap, ◌∙◌}
use mathlib.Core.Bool.{Bool, true, false, cond}
use mathlib.Core.List.{List, [], ◌∷◌, ◌++◌, append_assoc, append-nil}
use Prim.Native.Nat.{ℕ, zero, suc, ◌+◌, ◌-◌, ◌*◌, ◌/◌, ◌%◌, ◌≤◌, ◌<◌}
use native.Mathlib.Omega.{arith}
use native.Mathlib.Decide.{dec_lt, ℕ_discrete}
use lib.Dec.{eqb}
use lib.ListN.{length, drop, get_or, replicate, length-append, length-replicate, get_or-replicate, get_or-eq_default}
use lib.Seq.{get_or-drop, ext_get_or}
use borrow.Author.Tests.{eq-eqb, ne_eqb, eqb-true}
use Rattle.rules.specs.Bytes.{byte_at, word_bytes, part, over, splice}
use Rattle.rules.specs.Sectors.{sector_of, sector_count}
use Rattle.rules.specs.declared.Layout.{Layout}
use Rattle.rules.specs.declared.Block.{Block}
use Rattle.rules.specs.Chain.{block_bytes, ends_chain, blocks, run, places_from, extended, extended_all, blocks_bytes, chain_with, Linked, IsChain}
use Rattle.rules.specs.Map.{count}
use Rattle.rules.specs.Descriptor.{sectors_of, chain_of, with_chain}
use Rattle.rules.specs.Volume.{files_in, places_in, file_holders, holders}
use Rattle.rules.specs.Sound.{file_at, IsIndexed, Sound}
use Rattle.rules.proofs.Bytes.{part_length, part_short, part_at}
use Rattle.rules.proofs.Map.{count_here, count_more}
use Rattle.rules.proofs.Splice.{splice-length, splice_inside, splice_below, splice_above, splice_parts}
use Rattle.rules.proofs.Chain.{block_bytes_lem, run_step}
use Rattle.rules.proofs.Volume.{places_count}
use Rattle.rules.proofs.Free.{free_holders}
use Rattle.rules.proofs.Indexed.{counts_length}
use Rattle.rules.proofs.Indexes.{others, holders_seen}

-- three bytes a block
pub blocks_bytes-length : (bs : List Block) → length (blocks_bytes bs) ≡ 3 * length bs
unfolding blocks_bytes block_bytes
blocks_bytes-length [] = refl
blocks_bytes-length (block ∷ more) = omega (arith, blocks_bytes-length more)

pub blocks_bytes_append : (as' bs : List Block) → blocks_bytes (as' ++ bs) ≡ blocks_bytes as' ++ blocks_bytes bs
unfolding blocks_bytes
blocks_bytes_append [] bs = refl
blocks_bytes_append (block ∷ more) bs =
    ap (λ (l : List ℕ). block_bytes block ++ l) (blocks_bytes_append more bs) ∙ sym (append_assoc (block_bytes block) (blocks_bytes more) (blocks_bytes bs))

-- Blocks that three bytes each can hold, and no three that end the chain.
unfoldable pub Writable : List Block → Type 0
Writable [] = Unit {0}
Writable (block ∷ more) = (1 ≤ block.start) × (block.start < 4096) × (block.last < 4096) × Writable more

goes_on : (block : Block) → 1 ≤ block.start → ends_chain (block.start % 256) (block.start / 256 + 16 * (block.last % 16)) (block.last / 16) ≡ false
unfolding ends_chain
goes_on block h =
    elim (ℕ_discrete (block.start % 256) 0) [
      | no low ↦ rw (ne_eqb (block.start % 256) 0 low)
      | yes low ↦
          rw (eq-eqb (block.start % 256) 0 low, ne_eqb (block.start / 256 + 16 * (block.last % 16)) 0 (λ e. omega arith))
    ]

-- the blocks laid down are read back
pub blocks_back : (bs : List Block) (rest : List ℕ) → Writable bs → blocks (blocks_bytes bs ++ rest) ≡ bs ++ blocks rest
unfolding Writable blocks blocks_bytes block_bytes
blocks_back [] rest w = refl
blocks_back (block ∷ more) rest w =
    rw (goes_on block w.0, block_bytes_lem block.start block.last w.1, blocks_back more rest w.3)

-- zeros hold no block
pub blocks_zeros : (bytes : List ℕ) → ((i : ℕ) → byte_at bytes i ≡ 0) → blocks bytes ≡ []
unfolding blocks ends_chain
blocks_zeros [] z = refl
blocks_zeros (a ∷ []) z = refl
blocks_zeros (a ∷ (b ∷ [])) z = refl
blocks_zeros (a ∷ (b ∷ (c ∷ bytes))) z = rw (eq-eqb a 0 (z 0), eq-eqb b 0 (z 1), eq-eqb c 0 (z 2))

-- so blocks laid over the front of a buffer are its blocks where it is zero behind them
pub blocks_laid : (buffer : List ℕ) (bs : List Block) → Writable bs → 3 * length bs ≤ length buffer → ((i : ℕ) → 3 * length bs ≤ i → byte_at buffer i ≡ 0)
    → blocks (splice buffer 0 (blocks_bytes bs)) ≡ bs
blocks_laid buffer bs w fits z =
    let long = blocks_bytes-length bs in
    let behind = drop (0 + length (blocks_bytes bs)) buffer in
    let none = blocks_zeros behind (λ i. get_or-drop (0 + length (blocks_bytes bs)) buffer i 0 ∙ z (0 + length (blocks_bytes bs) + i) (omega arith)) in
    ap blocks (sym (splice_parts buffer 0 (blocks_bytes bs) (omega arith))) ∙ blocks_back bs behind w ∙ rw (none, append-nil bs)

pub replicate_zero : (many i : ℕ) → byte_at (replicate many 0) i ≡ 0
replicate_zero many i =
    elim (dec_lt i many) [
      | yes inside ↦ get_or-replicate many i 0 0 inside
      | no past ↦ get_or-eq_default (replicate many 0) 0 {n = i} (omega (arith, length-replicate {A = ℕ} many 0))
    ]

pub chain_with-length : (bs : List Block) → length (chain_with bs) ≡ 228
unfolding splice
chain_with-length bs = splice-length (replicate 228 0) 0 (blocks_bytes bs) ∙ length-replicate {A = ℕ} 228 0

pub chain_with_past : (bs : List Block) (i : ℕ) → 3 * length bs ≤ i → byte_at (chain_with bs) i ≡ 0
unfolding splice
chain_with_past bs i h = splice_above (replicate 228 0) 0 (blocks_bytes bs) i (omega (arith, blocks_bytes-length bs)) ∙ replicate_zero 228 i

pub blocks-over : (many : ℕ) (bs : List Block) → Writable bs → 3 * length bs ≤ many → blocks (over (replicate many 0) (blocks_bytes bs)) ≡ bs
unfolding splice
blocks-over many bs w fits =
    blocks_laid (replicate many 0) bs w (omega (arith, length-replicate {A = ℕ} many 0)) (λ i h. replicate_zero many i)

-- bytes laid over what is zero behind them are laid over zeros
over_zeros : (buffer bytes : List ℕ) → ((i : ℕ) → length bytes ≤ i → byte_at buffer i ≡ 0) → over buffer bytes ≡ over (replicate (length buffer) 0) bytes
unfolding over
over_zeros [] bytes zeros = refl
over_zeros (b ∷ buffer) [] zeros = rw (zeros 0 (omega arith)) (ap (λ (l : List ℕ). 0 ∷ l) (alone buffer (over_zeros buffer [] (λ i h. zeros (suc i) (omega arith)))))
  where
    alone : (buffer : List ℕ) → over buffer [] ≡ over (replicate (length buffer) 0) [] → buffer ≡ replicate (length buffer) 0
    alone [] e = refl
    alone (b ∷ buffer) e = e
over_zeros (b ∷ buffer) (c ∷ bytes) zeros = ap (λ (l : List ℕ). c ∷ l) (over_zeros buffer bytes (λ i h. zeros (suc i) (omega arith)))

-- a run with one place more
run_more : (s many : ℕ) → run s (many + 1) ≡ run s many ++ ((s + many) ∷ [])
unfolding run
run_more s zero = let e : s + 0 ≡ s = omega arith in rw (e, run_step s 0)
run_more s (suc many) =
    let e : s + 1 + many ≡ s + suc many = omega arith in
    let f : suc many + 1 ≡ suc (many + 1) = omega arith in
    rw f (ap (λ (l : List ℕ). s ∷ l) (run_more (s + 1) many ∙ rw e))

-- A chain with one sector more covers the old places and the new one.
module _ (n : ℕ) (k : ℕ) where
  pub extended_places : (c next : ℕ) (bs : List Block) → Linked n c next bs → places_from next (extended next bs k) ≡ places_from next bs ++ (k ∷ [])
  unfolding Linked extended places_from run
  extended_places c next [] is = let e : next - next + 1 ≡ suc zero = omega arith in rw e
  extended_places c next (block ∷ []) is = go (eqb k (block.start + (block.last + 1 - next))) refl
    where
      go : (t : Bool) → eqb k (block.start + (block.last + 1 - next)) ≡ t
          → places_from next (cond t (record { start = block.start; last = block.last + 1 } ∷ []) (block ∷ (record { start = k; last = block.last + 1 } ∷ [])))
          ≡ places_from next (block ∷ []) ++ (k ∷ [])
      go true e =
          let follows = eqb-true k (block.start + (block.last + 1 - next)) e in
          let one : block.last + 1 - next ≡ block.last - next + 1 = omega (arith, is.1) in
          rw (append-nil (run block.start (block.last + 1 - next + 1)), append-nil (run block.start (block.last - next + 1)), one, run_more block.start (block.last - next + 1), follows, one)
      go false e =
          let one : block.last + 1 - (block.last + 1) + 1 ≡ suc zero = omega arith in
          rw (one, append-nil (run block.start (block.last - next + 1)))
  extended_places c next (block ∷ (second ∷ more)) is =
      ap (λ (l : List ℕ). run block.start (block.last - next + 1) ++ l) (extended_places c (block.last + 1) (second ∷ more) is.3)
      ∙ sym (append_assoc (run block.start (block.last - next + 1)) (places_from (block.last + 1) (second ∷ more)) (k ∷ []))

  -- and is linked where k is a place of the volume
  pub extended_linked : 2 ≤ k → k < n → (c next : ℕ) (bs : List Block) → Linked n c next bs → Linked n (c + 1) next (extended next bs k)
  unfolding Linked extended
  extended_linked low high c next [] is = (low, omega arith, omega arith, omega arith)
  extended_linked low high c next (block ∷ []) is = go (eqb k (block.start + (block.last + 1 - next))) refl
    where
      go : (t : Bool) → eqb k (block.start + (block.last + 1 - next)) ≡ t
          → Linked n (c + 1) next (cond t (record { start = block.start; last = block.last + 1 } ∷ []) (block ∷ (record { start = k; last = block.last + 1 } ∷ [])))
      go true e =
          let follows = eqb-true k (block.start + (block.last + 1 - next)) e in
          (is.0, omega (arith, is.1), omega arith, omega (arith, is.3))
      go false e = (is.0, is.1, is.2, (low, omega arith, omega arith, omega (arith, is.3)))
  extended_linked low high c next (block ∷ (second ∷ more)) is =
      (is.0, is.1, is.2, extended_linked low high c (block.last + 1) (second ∷ more) is.3)

-- A chain of some blocks by its last one and its last place: a sector more extends that block where it follows that place, and otherwise begins a block.
pub record Ending (k c next : ℕ) (bs : List Block) : Type 0 where
  pub front : List Block
  pub block : Block
  pub was : bs ≡ front ++ (block ∷ [])
  pub before : List ℕ
  pub last : ℕ
  pub places_are : places_from next bs ≡ before ++ (last ∷ [])
  pub extends : k ≡ last + 1 → extended next bs k ≡ front ++ (record { start = block.start; last = block.last + 1 } ∷ [])
  pub begins : (k ≡ last + 1 → ⊥) → extended next bs k ≡ bs ++ (record { start = k; last = c } ∷ [])

pub ending : (n k c next : ℕ) (block : Block) (more : List Block) → Linked n c next (block ∷ more) → Ending k c next (block ∷ more)
unfolding Linked places_from extended
ending n k c next block [] is =
    let many = block.last - next in
    let e : block.start + (block.last + 1 - next) ≡ block.start + many + 1 = omega (arith, is.1) in
    record {
      front = [];
      block = block;
      was = refl;
      before = run block.start many;
      last = block.start + many;
      places_are = append-nil (run block.start (many + 1)) ∙ run_more block.start many;
      extends = λ follows. rw (eq-eqb k (block.start + (block.last + 1 - next)) (follows ∙ sym e));
      begins = λ apart. rw (ne_eqb k (block.start + (block.last + 1 - next)) (λ f. apart (f ∙ e)), is.3);
    }
ending n k c next block (second ∷ more) is =
    let rest = ending n k c (block.last + 1) second more is.3 in
    let here = run block.start (block.last - next + 1) in
    record {
      front = block ∷ rest.front;
      block = rest.block;
      was = ap (λ (l : List Block). block ∷ l) rest.was;
      before = here ++ rest.before;
      last = rest.last;
      places_are = ap (λ (l : List ℕ). here ++ l) rest.places_are ∙ sym (append_assoc here rest.before (rest.last ∷ []));
      extends = λ follows. ap (λ (l : List Block). block ∷ l) (rest.extends follows);
      begins = λ apart. ap (λ (l : List Block). block ∷ l) (rest.begins apart);
    }

-- it has as many blocks or one more, and at least one
pub extended-length : (next : ℕ) (bs : List Block) (k : ℕ)
    → (length bs ≤ length (extended next bs k)) × (length (extended next bs k) ≤ length bs + 1) × (1 ≤ length (extended next bs k))
unfolding extended
extended-length next [] k = (omega arith, omega arith, omega arith)
extended-length next (block ∷ []) k = go (eqb k (block.start + (block.last + 1 - next)))
  where
    go : (t : Bool)
        → let bs = cond t (record { start = block.start; last = block.last + 1 } ∷ []) (block ∷ (record { start = k; last = block.last + 1 } ∷ [])) in
        (length (block ∷ []) ≤ length bs) × (length bs ≤ length (block ∷ []) + 1) × (1 ≤ length bs)
    go true = (omega arith, omega arith, omega arith)
    go false = (omega arith, omega arith, omega arith)
extended-length next (block ∷ (second ∷ more)) k =
    let rest = extended-length (block.last + 1) (second ∷ more) k in
    (omega (arith, rest.0), omega (arith, rest.1), omega arith)

-- The same for several sectors, one after another.
module _ (n : ℕ) where
  pub extended_all_linked : (ks : List ℕ) → ((k : ℕ) → 1 ≤ count k ks → (2 ≤ k) × (k < n)) → (c : ℕ) (bs : List Block) → Linked n c 0 bs
      → Linked n (c + length ks) 0 (extended_all bs ks)
  unfolding extended_all
  extended_all_linked [] inside c bs is = let e : c + 0 ≡ c = omega arith in rw e is
  extended_all_linked (k ∷ ks) inside c bs is =
      let e : c + 1 + length ks ≡ c + suc (length ks) = omega arith in
      let here = inside k (omega (arith, count_here k ks)) in
      rw (← e) (extended_all_linked ks (λ j h. inside j (omega (arith, count_more j k ks))) (c + 1) (extended 0 bs k) (extended_linked n k here.0 here.1 c 0 bs is))

  pub extended_all_places : (ks : List ℕ) → ((k : ℕ) → 1 ≤ count k ks → (2 ≤ k) × (k < n)) → (c : ℕ) (bs : List Block) → Linked n c 0 bs
      → places_from 0 (extended_all bs ks) ≡ places_from 0 bs ++ ks
  unfolding extended_all
  extended_all_places [] inside c bs is = sym (append-nil (places_from 0 bs))
  extended_all_places (k ∷ ks) inside c bs is =
      let here = inside k (omega (arith, count_here k ks)) in
      extended_all_places ks (λ j h. inside j (omega (arith, count_more j k ks))) (c + 1) (extended 0 bs k) (extended_linked n k here.0 here.1 c 0 bs is)
      ∙ ap (λ (l : List ℕ). l ++ ks) (extended_places n k c 0 bs is)
      ∙ append_assoc (places_from 0 bs) (k ∷ []) ks

pub extended_all-length : (ks : List ℕ) (bs : List Block) → length bs ≤ length (extended_all bs ks)
unfolding extended_all
extended_all-length [] bs = omega arith
extended_all-length (k ∷ ks) bs = omega (arith, extended_all-length ks (extended 0 bs k), (extended-length 0 bs k).0)

-- no block of a linked chain ends past c
linked_most : (n c next : ℕ) (bs : List Block) → Linked n c next bs → next ≤ c
unfolding Linked
linked_most n c next [] is = omega arith
linked_most n c next (block ∷ more) is = omega (arith, is.1, linked_most n c (block.last + 1) more is.3)

pub linked_writable : (n c next : ℕ) (bs : List Block) → n ≤ 4096 → c ≤ 4096 → Linked n c next bs → Writable bs
unfolding Linked Writable
linked_writable n c next [] small few is = tt
linked_writable n c next (block ∷ more) small few is =
    (omega (arith, is.0), omega (arith, is.2), omega (arith, linked_most n c (block.last + 1) more is.3), linked_writable n c (block.last + 1) more small few is.3)

-- A descriptor with its number of sectors and its chain changed. No other byte is: 14 and 15 hold the number, the blocks begin at 28.
module _ (d : List ℕ) (c : ℕ) (bs : List Block) where
  pub with_chain-length : length (with_chain d c bs) ≡ length d
  unfolding with_chain
  with_chain-length = splice-length (splice d 14 (word_bytes c)) 28 (blocks_bytes bs) ∙ splice-length d 14 (word_bytes c)

  pub with_chain_sectors : 16 ≤ length d → sectors_of (with_chain d c bs) ≡ c
  unfolding with_chain
  with_chain_sectors long =
      let above = splice_below (splice d 14 (word_bytes c)) 28 (blocks_bytes bs) in
      let high = above 14 (omega arith) ∙ splice_inside d 14 (word_bytes c) 0 (omega arith) (omega arith) in
      let low = above 15 (omega arith) ∙ splice_inside d 14 (word_bytes c) 1 (omega arith) (omega arith) in
      omega (arith, high, low)

  pub with_chain_before : (i : ℕ) → i < 14 → byte_at (with_chain d c bs) i ≡ byte_at d i
  unfolding with_chain
  with_chain_before i h = splice_below (splice d 14 (word_bytes c)) 28 (blocks_bytes bs) i (omega arith) ∙ splice_below d 14 (word_bytes c) i h

  pub with_chain_between : (i : ℕ) → 16 ≤ i → i < 28 → byte_at (with_chain d c bs) i ≡ byte_at d i
  unfolding with_chain
  with_chain_between i low high = splice_below (splice d 14 (word_bytes c)) 28 (blocks_bytes bs) i high ∙ splice_above d 14 (word_bytes c) i (omega arith)

  -- its chain is the old one with the blocks laid over it
  module _ (size : length d ≡ 256) where
    pub with_chain_chain : chain_of (with_chain d c bs) ≡ splice (chain_of d) 0 (blocks_bytes bs)
    unfolding with_chain chain_of
    with_chain_chain =
        let numbered = splice d 14 (word_bytes c) in
        let after = splice numbered 28 (blocks_bytes bs) in
        let old = part_length d 28 228 (omega arith) in
        let numbered-long = splice-length d 14 (word_bytes c) in
        let new = part_length after 28 228 (omega (arith, splice-length numbered 28 (blocks_bytes bs))) in
        ext_get_or 0 (part after 28 228) (splice (part d 28 228) 0 (blocks_bytes bs)) (new ∙ sym (splice-length (part d 28 228) 0 (blocks_bytes bs) ∙ old))
        (λ i h.
        let z : 0 + i ≡ i = omega arith in
        part_at after 28 228 i (omega arith)
        ∙ elim (dec_lt i (length (blocks_bytes bs))) [
          | yes inside ↦
              splice_inside numbered 28 (blocks_bytes bs) i inside (omega arith)
              ∙ sym (rw z at (splice_inside (part d 28 228) 0 (blocks_bytes bs) i inside (omega arith)))
          | no past ↦
              splice_above numbered 28 (blocks_bytes bs) (28 + i) (omega arith)
              ∙ splice_above d 14 (word_bytes c) (28 + i) (omega arith)
              ∙ sym (splice_above (part d 28 228) 0 (blocks_bytes bs) i (omega arith) ∙ part_at d 28 228 i (omega arith))
        ])

    -- so it is had by laying those bytes
    pub with_chain_laid : (chain : List ℕ) → chain ≡ splice (chain_of d) 0 (blocks_bytes bs) → splice (splice d 14 (word_bytes c)) 28 chain ≡ with_chain d c bs
    unfolding with_chain chain_of
    with_chain_laid chain e =
        let numbered = splice d 14 (word_bytes c) in
        let after = splice numbered 28 (blocks_bytes bs) in
        let numbered-long = splice-length d 14 (word_bytes c) in
        let after-long = splice-length numbered 28 (blocks_bytes bs) in
        let whole = part_length after 28 228 (omega arith) in
        ap (splice numbered 28) (e ∙ sym with_chain_chain)
        ∙ ext_get_or 0 (splice numbered 28 (part after 28 228)) after (splice-length numbered 28 (part after 28 228) ∙ sym after-long)
        (λ i h.
        let long = splice-length numbered 28 (part after 28 228) in
        elim (dec_lt i 28) [
          | yes below ↦ splice_below numbered 28 (part after 28 228) i below ∙ sym (splice_below numbered 28 (blocks_bytes bs) i below)
          | no inside ↦
              let z : 28 + (i - 28) ≡ i = omega arith in
              let laid = splice_inside numbered 28 (part after 28 228) (i - 28) (omega arith) (omega arith) ∙ part_at after 28 228 (i - 28) (omega arith) in
              rw z at laid
        ])

    -- and holds the blocks alone where the descriptor is zero behind them
    module _ (w : Writable bs) (few : length bs ≤ 76) (zero-from : (i : ℕ) → 28 + 3 * length bs ≤ i → byte_at d i ≡ 0) where
      chain_zero : (i : ℕ) → 3 * length bs ≤ i → byte_at (chain_of d) i ≡ 0
      unfolding chain_of
      chain_zero i h =
          elim (dec_lt i 228) [
            | yes inside ↦ part_at d 28 228 i inside ∙ zero-from (28 + i) (omega arith)
            | no past ↦ get_or-eq_default (part d 28 228) 0 {n = i} (omega (arith, part_short d 28 228))
          ]

      chain_long : length (chain_of d) ≡ 228
      unfolding chain_of
      chain_long = part_length d 28 228 (omega arith)

      pub with_chain-blocks : blocks (chain_of (with_chain d c bs)) ≡ bs
      with_chain-blocks = ap blocks with_chain_chain ∙ blocks_laid (chain_of d) bs w (omega (arith, chain_long)) chain_zero

      pub with_chain_with : chain_of (with_chain d c bs) ≡ chain_with bs
      unfolding splice
      with_chain_with =
          with_chain_chain
          ∙ over_zeros (chain_of d) (blocks_bytes bs) (λ i h. chain_zero i (omega (arith, h, blocks_bytes-length bs)))
          ∙ ap (λ (many : ℕ). over (replicate many 0) (blocks_bytes bs)) chain_long

      pub with_chain_is : (n : ℕ) → Linked n c 0 bs → IsChain n c (chain_of (with_chain d c bs))
      with_chain_is n is =
          record {
            linked = rw with_chain-blocks is;
            rest = λ i h.
                let many = ap length with_chain-blocks in
                ap (λ (l : List ℕ). byte_at l i) with_chain_chain
                ∙ splice_above (chain_of d) 0 (blocks_bytes bs) i (omega (arith, many, blocks_bytes-length bs))
                ∙ chain_zero i (omega (arith, many));
          }

-- On a sound volume a file's sectors are few: its places are among the holders, and those are at most n.
places_among : (image ks : List ℕ) (p : ℕ) → p < length ks → length (places_in image (get_or ks p 0)) ≤ length (file_holders image ks)
unfolding file_holders
places_among image [] p h = absurd (omega arith)
places_among image (k ∷ ks) zero h = omega (arith, length-append (places_in image k) (file_holders image ks))
places_among image (k ∷ ks) (suc p) h =
    omega (arith, places_among image ks p (omega arith), length-append (places_in image k) (file_holders image ks))

pub sectors_few : (layout : Layout) (image : List ℕ) (i p : ℕ) → Sound layout image → IsIndexed layout image i → p < length (files_in image i) → sectors_of (sector_of image (file_at image i p)) ≤ 1600
sectors_few layout image i p is indexed h =
    let own = file_holders image (files_in image i) in
    let all = counts_length (holders layout image) (0 ∷ (i ∷ (own ++ others layout image i))) (holders_seen layout image i indexed) in
    omega (
      arith,
      free_holders layout image is,
      is.size,
      all,
      length-append own (others layout image i),
      places_among image (files_in image i) p h,
      places_count layout (sector_count image) image (file_at image i p) ((is.each i indexed).descriptors p h),
    )

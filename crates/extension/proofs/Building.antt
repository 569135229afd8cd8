-- A chain that is built: how one begins, what a sector more makes of it, and how it stands in a descriptor.
use mathlib.Core.Path.{◌≡◌, refl, sym, ap, ◌∙◌}
use mathlib.Core.Bool.{Bool, true, false, cond}
use mathlib.Core.List.{List, [], ◌∷◌, ◌++◌, append-nil}
use Prim.Native.Nat.{ℕ, zero, suc, ◌+◌, ◌-◌, ◌*◌, ◌≤◌, ◌<◌}
use native.Mathlib.Omega.{arith}
use native.Mathlib.Decide.{dec_lt}
use lib.ListN.{length, take, replicate, length-take, length-replicate}
use lib.Seq.{take-length, ext_get_or}
use Rattle.rules.specs.Bytes.{byte_at, over, splice}
use Rattle.rules.specs.Chain.{block_bytes, blocks_bytes, block_of, ends_chain, blocks, extended, Linked, IsChain}
use Rattle.rules.specs.declared.Block.{Block}
use Rattle.rules.proofs.Splice.{splice-length, splice_none, splice_inside, splice_above, splice_append}
use Rattle.rules.proofs.Chain.{bytes_block}
use Rattle.rules.proofs.Extended.{replicate_zero, blocks_bytes-length, blocks_bytes_append, blocks_laid, blocks_zeros, extended-length, extended_linked, linked_writable}
use Rattle.extension.specs.declared.Tip.{Tip}
use Rattle.extension.specs.Tip.{no_tip, tip_from, tip_of, tip_with, IsTip}
use Rattle.extension.specs.Built.{Built, Extendable, Extends}
use Rattle.extension.proofs.Tips.{tip_next, tip_with_lem, length_with, next_with, start_with, last_with}

-- A chain of 228 zeros is built of nothing.
pub no_blocks : (many : ℕ) → blocks (replicate many 0) ≡ []
no_blocks many = blocks_zeros (replicate many 0) (replicate_zero many)

pub built_none : (many : ℕ) → many ≡ 228 → Built (replicate many 0) no_tip
unfolding tip_of tip_from Linked
built_none many e =
    let long = length-replicate {A = ℕ} many 0 in
    record {
      size = omega arith;
      tip_is = record { is = rw (no_blocks many); used = omega arith; start = omega arith; next = omega arith };
      chain_is = record { linked = rw (no_blocks many); rest = λ i h. replicate_zero many i };
    }

-- A chain that keeps its rules is built: that of a sound file has n and c up to 1,600.
linked_wider : (n m c next : ℕ) (bs : List Block) → n ≤ m → Linked n c next bs → Linked m c next bs
unfolding Linked
linked_wider n m c next [] wide is = is
linked_wider n m c next (block ∷ more) wide is = (is.0, is.1, omega (arith, is.2), linked_wider n m c (block.last + 1) more wide is.3)

pub built_chain : (n c : ℕ) (chain : List ℕ) (tip : Tip) → n ≤ 4096 → length chain ≡ 228 → IsChain n c chain → IsTip chain tip → Built chain tip × (tip.next ≡ c)
built_chain n c chain tip wide size is at =
    let next : tip.next ≡ c = ap (λ (t : Tip). t.next) at.is ∙ tip_next n c (blocks chain) is.linked in (
      record { size = size; tip_is = at; chain_is = record { linked = rw next (linked_wider n 4096 c 0 (blocks chain) wide is.linked); rest = is.rest } },
      next,
    )

-- How many blocks a sector more leaves, by the tip that `tip_with` gives: where they are more than 76, there is no room for it.
pub longer_used : (chain : List ℕ) (tip : Tip) (k : ℕ) → IsTip chain tip → (longer : Tip) → longer ≡ tip_with tip k → longer.used ≡ length (extended 0 (blocks chain) k)
longer_used chain tip k at longer is = ap (λ (t : Tip). t.used) is ∙ ap (λ (t : Tip). (tip_with t k).used) at.is ∙ sym (length_with (blocks chain) k)

-- the first blocks of a chain, laid over it, change nothing
front_laid : (chain : List ℕ) (many : ℕ) → ((i : ℕ) → byte_at chain i < 256) → splice chain 0 (blocks_bytes (take many (blocks chain))) ≡ chain
unfolding blocks blocks_bytes splice over
front_laid chain zero small = splice_none chain 0
front_laid [] (suc many) small = refl
front_laid (a ∷ []) (suc many) small = refl
front_laid (a ∷ (b ∷ [])) (suc many) small = refl
front_laid (a ∷ (b ∷ (c ∷ chain))) (suc many) small = go (ends_chain a b c) (front_laid chain many (λ i. small (suc (suc (suc i)))))
  where
    go : (t : Bool) → splice chain 0 (blocks_bytes (take many (blocks chain))) ≡ chain
        → splice (a ∷ (b ∷ (c ∷ chain))) 0 (blocks_bytes (take (suc many) (cond t [] (block_of a b c ∷ blocks chain)))) ≡ a ∷ (b ∷ (c ∷ chain))
    go true rest = refl
    go false rest =
        rw (bytes_block a b c (small 0) (small 1) (small 2)) (ap (λ (l : List ℕ). a ∷ (b ∷ (c ∷ l))) rest)

-- so the block of the new tip, laid in its place, lays all blocks
one_laid : (chain : List ℕ) (k : ℕ) → ((i : ℕ) → byte_at chain i < 256)
    → let tip = tip_with (tip_of (blocks chain)) k in
    splice chain (3 * (tip.used - 1)) (block_bytes (record { start = tip.start; last = tip.next - 1 }))
    ≡ splice chain 0 (blocks_bytes (extended 0 (blocks chain) k))
unfolding blocks_bytes
one_laid chain k small =
    let bs = blocks chain in
    let tip = tip_with (tip_of bs) k in
    let block : Block = record { start = tip.start; last = tip.next - 1 } in
    let front = blocks_bytes (take (tip.used - 1) bs) in
    let many = extended-length 0 bs k in
    let long : length front ≡ 3 * (tip.used - 1) =
    blocks_bytes-length (take (tip.used - 1) bs) ∙ ap (λ (m : ℕ). 3 * m) (length-take (tip.used - 1) bs ∙ omega (arith, length_with bs k, many.1))
    in
    let e : 0 + length front ≡ 3 * (tip.used - 1) = omega arith in
    let all : blocks_bytes (extended 0 bs k) ≡ front ++ block_bytes block =
    ap blocks_bytes (last_with bs k) ∙ blocks_bytes_append (take (tip.used - 1) bs) (block ∷ []) ∙ ap (λ (l : List ℕ). front ++ l) (append-nil (block_bytes block))
    in
    ap (λ (l : List ℕ). splice l (3 * (tip.used - 1)) (block_bytes block)) (sym (front_laid chain (tip.used - 1) small))
    ∙ ap (λ (at : ℕ). splice (splice chain 0 front) at (block_bytes block)) (sym e)
    ∙ splice_append chain 0 front (block_bytes block)
    ∙ ap (splice chain 0) (sym all)

-- A sector more.
module _ (chain : List ℕ) (tip : Tip) (k : ℕ) (can : Extendable chain tip k) (longer : Tip) (is : longer ≡ tip_with tip k) where
  longer_is : longer ≡ tip_of (extended 0 (blocks chain) k)
  longer_is = is ∙ ap (λ (t : Tip). tip_with t k) can.built.tip_is.is ∙ sym (tip_with_lem (blocks chain) k)

  -- the new tip's numbers
  pub longer_numbers : (longer.used ≡ length (extended 0 (blocks chain) k))
      × (1 ≤ longer.used)
      × (longer.used ≤ 76)
      × (longer.start < 4096)
      × (longer.next ≡ tip.next + 1)
  longer_numbers =
      let used = longer_used chain tip k can.built.tip_is longer is in (
        used,
        omega (arith, used, (extended-length 0 (blocks chain) k).2),
        rw is can.room,
        rw is (start_with tip k 4096 can.built.tip_is.start can.high),
        rw is (next_with tip k),
      )

  pub extends : ((i : ℕ) → byte_at chain i < 256) → (after : List ℕ)
      → after ≡ splice chain (3 * (longer.used - 1)) (block_bytes (record { start = longer.start; last = longer.next - 1 }))
      → Extends chain tip k after longer
  extends small after written =
      let numbers = longer_numbers in
      let bs = extended 0 (blocks chain) k in
      let laid : after ≡ splice chain 0 (blocks_bytes bs) =
      written
      ∙ ap (λ (t : Tip). splice chain (3 * (t.used - 1)) (block_bytes (record { start = t.start; last = t.next - 1 }))) (is ∙ ap (λ (t : Tip). tip_with t k) can.built.tip_is.is)
      ∙ one_laid chain k small
      in
      let linked : Linked 4096 longer.next 0 bs =
      rw numbers.4 (extended_linked 4096 k can.low can.high tip.next 0 (blocks chain) can.built.chain_is.linked)
      in
      let more = extended-length 0 (blocks chain) k in
      let size = can.built.size in
      let zero-from : (i : ℕ) → 3 * length bs ≤ i → byte_at chain i ≡ 0 =
      λ i h. can.built.chain_is.rest i (omega (arith, more.0))
      in
      let blocks_are : blocks after ≡ bs =
      ap blocks laid
      ∙ blocks_laid chain bs (linked_writable 4096 longer.next 0 bs (omega arith) (omega (arith, numbers.4, can.next)) linked) (omega (arith, numbers.0, numbers.2, size)) zero-from
      in
      let long : length after ≡ 228 = ap length laid ∙ splice-length chain 0 (blocks_bytes bs) ∙ size in
      record {
        built = record {
          size = long;
          tip_is = record {
            is = rw blocks_are longer_is;
            used = omega (arith, numbers.2, long);
            start = numbers.3;
            next = omega (arith, numbers.4, can.next);
          };
          chain_is = record {
            linked = rw blocks_are linked;
            rest = λ i h.
                let many = ap length blocks_are in
                ap (λ (l : List ℕ). byte_at l i) laid
                ∙ splice_above chain 0 (blocks_bytes bs) i (omega (arith, blocks_bytes-length bs, many))
                ∙ zero-from i (omega (arith, many));
          };
        };
        next = numbers.4;
        blocks_are = blocks_are;
        laid = laid;
      }

-- A chain that is built is its blocks, laid over zeros.
pub built_laid : (many : ℕ) (chain : List ℕ) (tip : Tip) → many ≡ 228 → Built chain tip → ((i : ℕ) → byte_at chain i < 256)
    → chain ≡ splice (replicate many 0) 0 (blocks_bytes (blocks chain))
built_laid many chain tip e is small =
    let bytes = blocks_bytes (blocks chain) in
    let long = blocks_bytes-length (blocks chain) in
    let all = length-replicate {A = ℕ} many 0 in
    let whole : splice chain 0 bytes ≡ chain =
    ap (λ (bs : List Block). splice chain 0 (blocks_bytes bs)) (sym (take-length (blocks chain))) ∙ front_laid chain (length (blocks chain)) small
    in
    ext_get_or 0 chain (splice (replicate many 0) 0 bytes) (is.size ∙ sym (splice-length (replicate many 0) 0 bytes ∙ all ∙ e))
    (λ i h.
    let z : 0 + i ≡ i = omega arith in
    elim (dec_lt i (length bytes)) [
      | yes inside ↦
          let old = splice_inside chain 0 bytes i inside (omega arith) in
          let new = splice_inside (replicate many 0) 0 bytes i inside (omega (arith, is.size)) in
          sym (ap (λ (l : List ℕ). byte_at l i) whole) ∙ rw z at old ∙ sym (rw z at new)
      | no past ↦
          is.chain_is.rest i (omega arith) ∙ sym (splice_above (replicate many 0) 0 bytes i (omega arith) ∙ replicate_zero many i)
    ])

-- The tip of a chain: a block at a time, and with one sector more; and the one block that then changes.
use mathlib.Core.Path.{◌≡◌, refl, sym, ap, ◌∙◌}
use mathlib.Core.Bool.{Bool, true, false, cond}
use mathlib.Core.List.{List, [], ◌∷◌, ◌++◌}
use Prim.Native.Nat.{ℕ, suc, ◌+◌, ◌-◌, ◌*◌, ◌≤◌, ◌<◌}
use native.Mathlib.Omega.{arith}
use lib.Dec.{eqb}
use lib.ListN.{length, take}
use borrow.Author.Tests.{lt-ltb}
use Rattle.rules.specs.Chain.{block_of, ends_chain, blocks, extended, Linked}
use Rattle.rules.specs.declared.Block.{Block}
use Rattle.rules.proofs.Extended.{extended-length}
use Rattle.extension.specs.declared.Tip.{Tip}
use Rattle.extension.specs.Tip.{no_tip, tip_from, tip_of, is_next, tip_with}

-- the tip of no blocks, by its numbers
pub tip_none : (tip : Tip) → tip.used ≡ 0 → tip.start ≡ 0 → tip.first ≡ 0 → tip.next ≡ 0 → tip ≡ no_tip
tip_none tip used start first next =
    let e : tip ≡ record { used = tip.used; start = tip.start; first = tip.first; next = tip.next } = refl in
    e ∙ rw (used, start, first, next)

-- behind a tip, one block and the rest, and none
module _ (tip : Tip) (bs : List Block) where
  pub tip_step : (block : Block) (more : List Block) → bs ≡ block ∷ more
      → tip_from tip bs ≡ tip_from (record { used = tip.used + 1; start = block.start; first = tip.next; next = block.last + 1 }) more
  unfolding tip_from
  tip_step block more here = rw here

  pub tip_end : bs ≡ [] → tip_from tip bs ≡ tip
  unfolding tip_from
  tip_end none = rw none

-- a chain has a block in three bytes each
pub blocks_few : (chain : List ℕ) → 3 * length (blocks chain) ≤ length chain
unfolding blocks
blocks_few [] = omega arith
blocks_few (a ∷ []) = omega arith
blocks_few (a ∷ (b ∷ [])) = omega arith
blocks_few (a ∷ (b ∷ (c ∷ chain))) = go (ends_chain a b c) (blocks_few chain)
  where
    go : (t : Bool) → 3 * length (blocks chain) ≤ length chain → 3 * length (cond t [] (block_of a b c ∷ blocks chain)) ≤ suc (suc (suc (length chain)))
    go true few = omega arith
    go false few = omega (arith, few)

-- how many blocks, and where they end
tip_from-used : (tip : Tip) (bs : List Block) → (tip_from tip bs).used ≡ tip.used + length bs
unfolding tip_from
tip_from-used tip [] = omega arith
tip_from-used tip (block ∷ more) = tip_from-used (record { used = tip.used + 1; start = block.start; first = tip.next; next = block.last + 1 }) more ∙ omega arith

pub tip_used : (bs : List Block) → (tip_of bs).used ≡ length bs
unfolding tip_of
tip_used bs = tip_from-used no_tip bs ∙ omega arith

tip_from-next : (n c : ℕ) (tip : Tip) (bs : List Block) → Linked n c tip.next bs → (tip_from tip bs).next ≡ c
unfolding tip_from Linked
tip_from-next n c tip [] is = is
tip_from-next n c tip (block ∷ more) is = tip_from-next n c (record { used = tip.used + 1; start = block.start; first = tip.next; next = block.last + 1 }) more is.3

pub tip_next : (n c : ℕ) (bs : List Block) → Linked n c 0 bs → (tip_of bs).next ≡ c
unfolding tip_of
tip_next n c bs is = tip_from-next n c no_tip bs is

-- with one sector more
tip_from_with : (tip : Tip) (block : Block) (more : List Block) (k : ℕ)
    → tip_from tip (extended tip.next (block ∷ more) k) ≡ tip_with (tip_from tip (block ∷ more)) k
unfolding tip_from extended tip_with is_next
tip_from_with tip block [] k =
    rw (lt-ltb 0 (tip.used + 1) (omega arith)) (go (eqb k (block.start + (block.last + 1 - tip.next))))
  where
    go : (t : Bool)
        → tip_from tip (cond t (record { start = block.start; last = block.last + 1 } ∷ []) (block ∷ (record { start = k; last = block.last + 1 } ∷ [])))
        ≡ cond t (record { used = tip.used + 1; start = block.start; first = tip.next; next = block.last + 1 + 1 })
        (record { used = tip.used + 1 + 1; start = k; first = block.last + 1; next = block.last + 1 + 1 })
    go true = refl
    go false = refl
tip_from_with tip block (second ∷ more) k =
    tip_from_with (record { used = tip.used + 1; start = block.start; first = tip.next; next = block.last + 1 }) second more k

pub tip_with_lem : (bs : List Block) (k : ℕ) → tip_of (extended 0 bs k) ≡ tip_with (tip_of bs) k
unfolding tip_of tip_from extended tip_with is_next
tip_with_lem [] k = refl
tip_with_lem (block ∷ more) k = tip_from_with no_tip block more k

-- so the blocks of a chain with k behind it are those that the new tip counts: one more where k is not next
pub length_with : (bs : List Block) (k : ℕ) → length (extended 0 bs k) ≡ (tip_with (tip_of bs) k).used
length_with bs k = sym (tip_used (extended 0 bs k)) ∙ ap (λ (tip : Tip). tip.used) (tip_with_lem bs k)

module _ (tip : Tip) (k : ℕ) where
  pub next_with : (tip_with tip k).next ≡ tip.next + 1
  unfolding tip_with
  next_with = go (is_next tip k) refl
    where
      go : (t : Bool) → is_next tip k ≡ t → (tip_with tip k).next ≡ tip.next + 1
      go true e = rw e
      go false e = rw e

  pub start_with : (limit : ℕ) → tip.start < limit → k < limit → (tip_with tip k).start < limit
  unfolding tip_with
  start_with limit old new = go (is_next tip k) refl
    where
      go : (t : Bool) → is_next tip k ≡ t → (tip_with tip k).start < limit
      go true e = rw e old
      go false e = rw e new

-- and all blocks but the last stay: it is the block of the new tip
last_from : (tip : Tip) (bs : List Block) (k : ℕ)
    → let longer = extended tip.next bs k in
    longer ≡ take (length longer - 1) bs ++ (record { start = (tip_from tip longer).start; last = (tip_from tip longer).next - 1 } ∷ [])
unfolding extended tip_from
last_from tip [] k = let e : tip.next + 1 - 1 ≡ tip.next = omega arith in rw e
last_from tip (block ∷ []) k = go (eqb k (block.start + (block.last + 1 - tip.next)))
  where
    go : (t : Bool)
        → let longer = cond t (record { start = block.start; last = block.last + 1 } ∷ []) (block ∷ (record { start = k; last = block.last + 1 } ∷ [])) in
        longer ≡ take (length longer - 1) (block ∷ []) ++ (record { start = (tip_from tip longer).start; last = (tip_from tip longer).next - 1 } ∷ [])
    go true = let e : block.last + 1 + 1 - 1 ≡ block.last + 1 = omega arith in rw e
    go false = let e : block.last + 1 + 1 - 1 ≡ block.last + 1 = omega arith in rw e
last_from tip (block ∷ (second ∷ more)) k =
    let rest = extended (block.last + 1) (second ∷ more) k in
    let e : suc (length rest) - 1 ≡ suc (length rest - 1) = omega (arith, (extended-length (block.last + 1) (second ∷ more) k).2) in
    rw e
    (ap (λ (l : List Block). block ∷ l) (last_from (record { used = tip.used + 1; start = block.start; first = tip.next; next = block.last + 1 }) (second ∷ more) k))

last_of : (bs : List Block) (k : ℕ)
    → let longer = extended 0 bs k in
    longer ≡ take (length longer - 1) bs ++ (record { start = (tip_of longer).start; last = (tip_of longer).next - 1 } ∷ [])
unfolding tip_of
last_of bs k = last_from no_tip bs k

pub last_with : (bs : List Block) (k : ℕ)
    → let tip = tip_with (tip_of bs) k in
    extended 0 bs k ≡ take (tip.used - 1) bs ++ (record { start = tip.start; last = tip.next - 1 } ∷ [])
last_with bs k = let e = last_of bs k in rw (length_with bs k, tip_with_lem bs k) at e

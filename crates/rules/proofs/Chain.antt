-- The chain: a block and its bytes, each had back from the other; the blocks, a block at a time; the rule as a test and as facts; the places of a file.
use mathlib.Core.Path.{◌≡◌, refl, ap, ◌∙◌}
use mathlib.Core.Bool.{true, false, ◌&&◌}
use mathlib.Core.List.{List, [], ◌∷◌, ◌++◌}
use Prim.Native.Nat.{ℕ, zero, suc, ◌+◌, ◌-◌, ◌*◌, ◌/◌, ◌%◌, ◌≤◌, ◌<◌}
use native.Mathlib.Omega.{arith}
use native.Mathlib.Numerals.{add-one}
use native.Mathlib.Decide.{dec_lt, ℕ_discrete}
use lib.Dec.{leb, ltb}
use lib.ListN.{length, drop, get_or, length-drop, length-append, get_or-append}
use lib.Seq.{get_or-append-add}
use borrow.Author.Tests.{eq-eqb, eqb-true, le-leb, leb-true, lt-ltb, ltb-true}
use Rattle.rules.specs.Bytes.{byte_at, all_are}
use Rattle.rules.specs.declared.Block.{Block}
use Rattle.rules.specs.Chain.{block_bytes, block_of, ends_chain, blocks, blocks_rule, chain_rule, run, places_from, Linked, IsChain}
use Rattle.rules.specs.Map.{count}
use Rattle.rules.proofs.Tests.{both}
use Rattle.rules.proofs.Bytes.{drop_three, zeros_at, at_zeros}
use Rattle.rules.proofs.Map.{count_none, count_here, count_other, count_at, count_append}

-- a block is had back from its bytes
pub same_block : (s o s' o' : ℕ) → s ≡ s' → o ≡ o' → ◌≡◌ {A = Block} (record { start = s; last = o }) (record { start = s'; last = o' })
same_block s o s' o' p q = rw (p, q)

pub block_bytes_lem : (s o : ℕ) → s < 4096
    → let bytes = block_bytes (record { start = s; last = o }) in
    block_of (byte_at bytes 0) (byte_at bytes 1) (byte_at bytes 2) ≡ record { start = s; last = o }
unfolding block_of block_bytes
block_bytes_lem s o h = same_block _ _ s o (omega arith) (omega arith)

-- and the bytes from the block
same_three : (a b c a' b' c' : ℕ) → a ≡ a' → b ≡ b' → c ≡ c' → ◌≡◌ {A = List ℕ} (a ∷ (b ∷ (c ∷ []))) (a' ∷ (b' ∷ (c' ∷ [])))
same_three a b c a' b' c' p q r = rw (p, q, r)

pub bytes_block : (a b c : ℕ) → a < 256 → b < 256 → c < 256 → block_bytes (block_of a b c) ≡ a ∷ (b ∷ (c ∷ []))
unfolding block_of block_bytes
bytes_block a b c ha hb hc =
    let low : (a + 256 * (b % 16)) / 256 ≡ b % 16 = omega arith in
    let high : (b / 16 + 16 * c) % 16 ≡ b / 16 = omega arith in
    same_three _ _ _ a b c (omega arith) (rw (low, high) (omega arith)) (omega arith)

-- the blocks of the chain from byte i on: one and the rest, the end, and too few bytes for one
module _ (chain : List ℕ) (i : ℕ) where
  pub blocks_step : i + 3 ≤ length chain → ends_chain (byte_at chain i) (byte_at chain (i + 1)) (byte_at chain (i + 2)) ≡ false
      → blocks (drop i chain) ≡ block_of (byte_at chain i) (byte_at chain (i + 1)) (byte_at chain (i + 2)) ∷ blocks (drop (i + 3) chain)
  unfolding blocks
  blocks_step h e = rw (drop_three chain i h, e)

  pub blocks_end : i + 3 ≤ length chain → ends_chain (byte_at chain i) (byte_at chain (i + 1)) (byte_at chain (i + 2)) ≡ true → blocks (drop i chain) ≡ []
  unfolding blocks
  blocks_end h e = rw (drop_three chain i h, e)

  pub blocks_short : length chain < i + 3 → blocks (drop i chain) ≡ []
  unfolding blocks
  blocks_short h = short (drop i chain) (rw length-drop (omega arith))
    where
      short : (rest : List ℕ) → length rest < 3 → blocks rest ≡ []
      short [] k = refl
      short (a ∷ []) k = refl
      short (a ∷ (b ∷ [])) k = refl
      short (a ∷ (b ∷ (c ∷ rest))) k = absurd (omega arith)

-- the rule and the facts
linked_is : (n c next : ℕ) (bs : List Block) → blocks_rule n c next bs ≡ true → Linked n c next bs
unfolding blocks_rule Linked
linked_is n c next [] e = eqb-true next c e
linked_is n c next (block ∷ more) e =
    let reach = block.start + (block.last - next) in
    let low = both (leb 2 block.start) (leb next block.last && (ltb reach n && blocks_rule n c (block.last + 1) more)) e in
    let up = both (leb next block.last) (ltb reach n && blocks_rule n c (block.last + 1) more) low.1 in
    let below = both (ltb reach n) (blocks_rule n c (block.last + 1) more) up.1 in
    (leb-true _ _ low.0, leb-true _ _ up.0, ltb-true _ _ below.0, linked_is n c (block.last + 1) more below.1)

is_linked : (n c next : ℕ) (bs : List Block) → Linked n c next bs → blocks_rule n c next bs ≡ true
unfolding blocks_rule Linked
is_linked n c next [] e = eq-eqb next c e
is_linked n c next (block ∷ more) e =
    rw (le-leb 2 block.start e.0, le-leb next block.last e.1, lt-ltb (block.start + (block.last - next)) n e.2)
    (is_linked n c (block.last + 1) more e.3)

pub chain_is : (n c : ℕ) (chain : List ℕ) → chain_rule n c chain ≡ true → IsChain n c chain
unfolding chain_rule
chain_is n c chain e =
    let parts = both (blocks_rule n c 0 (blocks chain)) (all_are 0 (drop (3 * length (blocks chain)) chain)) e in
    record { linked = linked_is n c 0 (blocks chain) parts.0; rest = zeros_at chain (3 * length (blocks chain)) parts.1 }

pub is_chain : (n c : ℕ) (chain : List ℕ) → IsChain n c chain → chain_rule n c chain ≡ true
unfolding chain_rule
is_chain n c chain is = rw (is_linked n c 0 (blocks chain) is.linked, at_zeros chain (3 * length (blocks chain)) is.rest)

-- a run of places
pub run_length : (s many : ℕ) → length (run s many) ≡ many
unfolding run
run_length s zero = refl
run_length s (suc many) = ap suc (run_length (s + 1) many)

pub run_at : (s many k : ℕ) → k < many → get_or (run s many) k 0 ≡ s + k
unfolding run
run_at s zero k h = absurd (omega arith)
run_at s (suc many) zero h = omega arith
run_at s (suc many) (suc k) h = run_at (s + 1) many k (omega arith) ∙ omega arith

pub run_none : (s : ℕ) → run s 0 ≡ []
unfolding run
run_none s = refl

pub run_step : (s many : ℕ) → run s (many + 1) ≡ s ∷ run (s + 1) many
unfolding run
run_step s many = rw (add-one many)

pub run_holds : (p s many : ℕ) → 1 ≤ count p (run s many) → (s ≤ p) × (p < s + many)
unfolding run
run_holds p s zero h = absurd (omega (arith, count_none p))
run_holds p s (suc many) h =
    elim (ℕ_discrete s p) [
      | yes here ↦ (omega arith, omega arith)
      | no there ↦
          let rest = run_holds p (s + 1) many (omega (arith, count_other p s (run (s + 1) many) there)) in
          (omega arith, omega arith)
    ]

pub run_once : (k s many : ℕ) → count k (run s many) ≤ 1
unfolding run
run_once k s zero = omega (arith, count_none k)
run_once k s (suc many) =
    elim (ℕ_discrete s k) [
      | yes here ↦
          elim (dec_lt 0 (count k (run (s + 1) many))) [
            | yes again ↦ absurd (omega (arith, here, run_holds k (s + 1) many again))
            | no none ↦ rw here (omega (arith, count_here k (run (k + 1) many), rw here at none))
          ]
      | no other ↦ omega (arith, count_other k s (run (s + 1) many) other, run_once k (s + 1) many)
    ]

pub run_counts : (p s many : ℕ) → s ≤ p → p < s + many → 1 ≤ count p (run s many)
run_counts p s many low high =
    let e : s + (p - s) ≡ p = omega arith in
    rw (run_at s many (p - s) (omega arith), e) at (count_at (run s many) (p - s) (omega (arith, run_length s many)))

pub run_parts : (s first second : ℕ) → run s (first + second) ≡ run s first ++ run (s + first) second
unfolding run
run_parts s zero second =
    let e : s + 0 ≡ s = omega arith in
    let f : 0 + second ≡ second = omega arith in
    rw (e, f)
run_parts s (suc first) second =
    let e : s + 1 + first ≡ s + suc first = omega arith in
    let f : suc first + second ≡ suc (first + second) = omega arith in
    rw (f, ← e) (ap (λ (l : List ℕ). s ∷ l) (run_parts (s + 1) first second))

-- the places of a linked chain: c of them, each from 2 to n - 1
pub places_length : (n c next : ℕ) (bs : List Block) → Linked n c next bs → next + length (places_from next bs) ≡ c
unfolding Linked places_from
places_length n c next [] e = omega arith
places_length n c next (block ∷ more) e =
    let rest = places_length n c (block.last + 1) more e.3 in
    rw (length-append, run_length) (omega (arith, e.1))

pub places_hold : (n c next : ℕ) (bs : List Block) (p : ℕ) → Linked n c next bs → 1 ≤ count p (places_from next bs) → (2 ≤ p) × (p < n)
unfolding Linked places_from
places_hold n c next [] p e h = absurd (omega (arith, count_none p))
places_hold n c next (block ∷ more) p e h =
    let many = block.last - next + 1 in
    let split = count_append p (run block.start many) (places_from (block.last + 1) more) in
    elim (dec_lt 0 (count p (run block.start many))) [
      | yes here ↦ let in-run = run_holds p block.start many here in (omega (arith, e.0), omega (arith, e.1, e.2))
      | no there ↦ places_hold n c (block.last + 1) more p e.3 (omega (arith, split))
    ]

-- place `left` of the blocks from here on: in the next block, or in those after it
module _ (next : ℕ) (block : Block) (more : List Block) (left : ℕ) where
  pub place_here : left < block.last - next + 1 → get_or (places_from next (block ∷ more)) left 0 ≡ block.start + left
  unfolding places_from
  place_here h =
      get_or-append (run block.start (block.last - next + 1)) (places_from (block.last + 1) more) 0 left (rw run_length h)
      ∙ run_at block.start (block.last - next + 1) left h

  pub place_later : block.last - next + 1 ≤ left → get_or (places_from next (block ∷ more)) left 0 ≡ get_or (places_from (block.last + 1) more) (left - (block.last - next + 1)) 0
  unfolding places_from
  place_later h =
      let many = block.last - next + 1 in
      let e : left ≡ length (run block.start many) + (left - many) = rw run_length (omega arith) in
      ap (λ (j : ℕ). get_or (run block.start many ++ places_from (block.last + 1) more) j 0) e
      ∙ get_or-append-add (run block.start many) (places_from (block.last + 1) more) (left - many) 0

pub no_place : (next left : ℕ) → get_or (places_from next []) left 0 ≡ 0
unfolding places_from
no_place next left = refl

-- The chain: 76 blocks of three bytes, from byte 28 of a descriptor on.
use Rattle.std.specs.Prelude.{◌≡◌, Bool, cond, ◌&&◌, List, [], ◌∷◌, ◌++◌, ℕ, zero, suc, ◌+◌, ◌-◌, ◌*◌, ◌/◌, ◌%◌, ◌≤◌, ◌<◌, eqb, leb, ltb, length, drop, replicate}
use Rattle.rules.specs.Bytes.{byte_at, all_are, over}
use Rattle.rules.specs.declared.Block.{Block}

-- a block of start s and last offset o holds: s mod 256; then s/256 + 16 × (o mod 16); then o/16
unfoldable pub block_bytes : Block → List ℕ
block_bytes block = (block.start % 256) ∷ ((block.start / 256 + 16 * (block.last % 16)) ∷ ((block.last / 16) ∷ []))

unfoldable pub block_of : ℕ → ℕ → ℕ → Block
block_of a b c = record { start = a + 256 * (b % 16); last = b / 16 + 16 * c }

-- three zero bytes end the chain
unfoldable pub ends_chain : ℕ → ℕ → ℕ → Bool
ends_chain a b c = eqb a 0 && (eqb b 0 && eqb c 0)

unfoldable pub blocks : List ℕ → List Block
blocks [] = []
blocks (a ∷ []) = []
blocks (a ∷ (b ∷ [])) = []
blocks (a ∷ (b ∷ (c ∷ chain))) = cond (ends_chain a b c) [] (block_of a b c ∷ blocks chain)

-- The rules of the blocks from file sector `next` on: each s is at least 2, the offsets ascend strictly, all places are below n, the last offset + 1 is c.
unfoldable pub blocks_rule : ℕ → ℕ → ℕ → List Block → Bool
blocks_rule n c next [] = eqb next c
blocks_rule n c next (block ∷ more) =
    leb 2 block.start
    && (leb next block.last && (ltb (block.start + (block.last - next)) n && blocks_rule n c (block.last + 1) more))

-- and all after the last block is zero
unfoldable pub chain_rule : ℕ → ℕ → List ℕ → Bool
chain_rule n c chain = blocks_rule n c 0 (blocks chain) && all_are 0 (drop (3 * length (blocks chain)) chain)

-- `many` sectors at consecutive places from s on
unfoldable pub run : ℕ → ℕ → List ℕ
run s zero = []
run s (suc many) = s ∷ run (s + 1) many

-- a block covers the file's sectors from `next` to its last offset
unfoldable pub places_from : ℕ → List Block → List ℕ
places_from next [] = []
places_from next (block ∷ more) = run block.start (block.last - next + 1) ++ places_from (block.last + 1) more

-- the places of a file, in its order
unfoldable pub places : List ℕ → List ℕ
places chain = places_from 0 (blocks chain)

-- One sector more, k, behind the blocks from file sector `next` on: it extends the last block where it follows that block's last sector; otherwise it begins a block.
unfoldable pub extended : ℕ → List Block → ℕ → List Block
extended next [] k = record { start = k; last = next } ∷ []
extended next (block ∷ []) k =
    cond (eqb k (block.start + (block.last + 1 - next))) (record { start = block.start; last = block.last + 1 } ∷ [])
    (block ∷ (record { start = k; last = block.last + 1 } ∷ []))
extended next (block ∷ (second ∷ more)) k = block ∷ extended (block.last + 1) (second ∷ more) k

-- several, one after another
unfoldable pub extended_all : List Block → List ℕ → List Block
extended_all bs [] = bs
extended_all bs (k ∷ ks) = extended_all (extended 0 bs k) ks

unfoldable pub blocks_bytes : List Block → List ℕ
blocks_bytes [] = []
blocks_bytes (block ∷ more) = block_bytes block ++ blocks_bytes more

-- the 228 bytes of a chain with those blocks: all after them are zero
abbrev pub chain_with : List Block → List ℕ
chain_with bs = over (replicate 228 0) (blocks_bytes bs)

-- The same as facts.
unfoldable pub Linked : ℕ → ℕ → ℕ → List Block → Type 0
Linked n c next [] = next ≡ c
Linked n c next (block ∷ more) =
    (2 ≤ block.start) × (next ≤ block.last) × (block.start + (block.last - next) < n) × Linked n c (block.last + 1) more

pub record IsChain (n c : ℕ) (chain : List ℕ) : Type 0 where
  pub linked : Linked n c 0 (blocks chain)
  pub rest : (i : ℕ) → 3 * length (blocks chain) ≤ i → byte_at chain i ≡ 0

-- The tip of a chain: its last block, and what comes behind it.
use Rattle.std.specs.Prelude.{◌≡◌, Bool, cond, ◌&&◌, List, [], ◌∷◌, ℕ, ◌+◌, ◌-◌, ◌*◌, ◌≤◌, ◌<◌, eqb, ltb, length}
use Rattle.rules.specs.Chain.{blocks}
use Rattle.rules.specs.declared.Block.{Block}
use Rattle.extension.specs.declared.Tip.{Tip}

abbrev pub no_tip : Tip
no_tip = record { used = 0; start = 0; first = 0; next = 0 }

-- behind a tip these blocks
unfoldable pub tip_from : Tip → List Block → Tip
tip_from tip [] = tip
tip_from tip (block ∷ more) = tip_from (record { used = tip.used + 1; start = block.start; first = tip.next; next = block.last + 1 }) more

unfoldable pub tip_of : List Block → Tip
tip_of bs = tip_from no_tip bs

-- sector k follows the last sector of the last block
unfoldable pub is_next : Tip → ℕ → Bool
is_next tip k = ltb 0 tip.used && eqb k (tip.start + (tip.next - tip.first))

-- with sector k behind it, in the last block or in one of its own
unfoldable pub tip_with : Tip → ℕ → Tip
tip_with tip k =
    cond (is_next tip k) (record { used = tip.used; start = tip.start; first = tip.first; next = tip.next + 1 })
    (record { used = tip.used + 1; start = k; first = tip.next; next = tip.next + 1 })

-- the tip of any bytes, and how large its numbers can be
pub record IsTip (chain : List ℕ) (tip : Tip) : Type 0 where
  pub is : tip ≡ tip_of (blocks chain)
  pub used : 3 * tip.used ≤ length chain
  pub start : tip.start < 4096
  pub next : tip.next ≤ 4096

-- A step of the iterator over the blocks of a chain, by the three bytes in front.
use mathlib.Core.Path.{◌≡◌, refl}
use mathlib.Core.List.{List, [], ◌∷◌}
use Prim.Native.Nat.{ℕ, ◌≤◌}
use native.Mathlib.Omega.{arith}
use lib.ListN.{length, take, get_or}
use Rattle.std.specs.Prelude.{None}
use Rattle.rules.specs.Bytes.{byte_at}
use Rattle.rules.specs.Chain.{blocks}
use Rattle.descriptor.specs.Walk.{NextBlock}
use Rattle.descriptor.specs.declared.chain.Blocks.{Blocks}

-- the bytes of the front are those of the chain
pub record InFront (chain front : List ℕ) : Type 0 where
  pub first : get_or front 0 0 ≡ byte_at chain 0
  pub second : get_or front 1 0 ≡ byte_at chain 1
  pub third : get_or front 2 0 ≡ byte_at chain 2

pub in_front : (chain front : List ℕ) → 3 ≤ length chain → front ≡ take 3 chain → InFront chain front
in_front [] front long e = absurd (omega arith)
in_front (a ∷ []) front long e = absurd (omega arith)
in_front (a ∷ (b ∷ [])) front long e = absurd (omega arith)
in_front (a ∷ (b ∷ (c ∷ chain))) front long e = rw e (record { first = refl; second = refl; third = refl })

-- none is left, or the first of them
pub no_block : (left : Blocks) → blocks left.chain.now ≡ [] → NextBlock left None left
no_block left none = record { is = (none, none); small = tt }

-- The places ahead of an iterator over them, a step at a time.
use mathlib.Core.Path.{◌≡◌, ap, ◌∙◌}
use mathlib.Core.List.{List, [], ◌∷◌, ◌++◌, append_assoc}
use Prim.Native.Nat.{ℕ, ◌+◌, ◌-◌, ◌≤◌, ◌<◌}
use native.Mathlib.Omega.{arith}
use Rattle.rules.specs.Chain.{blocks, run, places_from, places}
use Rattle.rules.specs.declared.Block.{Block}
use Rattle.rules.proofs.Chain.{run_none, run_step, run_parts}
use Rattle.descriptor.specs.Ahead.{ahead}

-- at the start all places of the file are ahead
pub at_first : (chain : List ℕ) → ahead 0 0 0 chain ≡ places chain
unfolding ahead places
at_first chain = rw (run_none 0)

pub same_ahead : (place left next : ℕ) (chain other : List ℕ) → blocks chain ≡ blocks other → ahead place left next chain ≡ ahead place left next other
unfolding ahead
same_ahead place left next chain other e = rw e

module _ (place left next : ℕ) (chain : List ℕ) where
  pub in_block : 0 < left → ahead place left next chain ≡ place ∷ ahead (place + 1) (left - 1) next chain
  unfolding ahead
  in_block h =
      let e : left ≡ left - 1 + 1 = omega arith in
      ap (λ (many : ℕ). run place many ++ places_from next (blocks chain)) e
      ∙ rw (run_step place (left - 1))

  -- several of the present block at once
  pub in_block_past : (many : ℕ) → many ≤ left → ahead place left next chain ≡ run place many ++ ahead (place + many) (left - many) next chain
  unfolding ahead
  in_block_past many h =
      let e : left ≡ many + (left - many) = omega arith in
      let behind = places_from next (blocks chain) in
      ap (λ (more : ℕ). run place more ++ behind) e
      ∙ ap (λ (ps : List ℕ). ps ++ behind) (run_parts place many (left - many))
      ∙ append_assoc (run place many) (run (place + many) (left - many)) behind

  -- with nothing left of the present block
  module _ (done : left ≡ 0) where
    between : ahead place left next chain ≡ places_from next (blocks chain)
    unfolding ahead
    between = rw (done, run_none place)

    pub none_ahead : blocks chain ≡ [] → ahead place left next chain ≡ []
    unfolding places_from
    none_ahead none = between ∙ rw none

    pub next_block : (block : Block) (more : List ℕ) → blocks chain ≡ block ∷ blocks more
        → ahead place left next chain ≡ block.start ∷ ahead (block.start + 1) (block.last - next) (block.last + 1) more
    unfolding ahead places_from
    next_block block more here = between ∙ rw (here, run_step block.start (block.last - next))

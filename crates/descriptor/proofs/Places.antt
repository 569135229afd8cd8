-- A place by its number among those of a chain, block by block.
use mathlib.Core.Path.{◌≡◌, refl, ap, ◌∙◌}
use mathlib.Core.List.{List, [], ◌∷◌, ◌++◌}
use Prim.Native.Nat.{ℕ, zero, suc, ◌+◌, ◌-◌, ◌≤◌, ◌<◌}
use native.Mathlib.Omega.{arith}
use Rattle.std.specs.Prelude.{None, Some, slice_get}
use Rattle.rules.specs.Chain.{run, places_from}
use Rattle.rules.specs.declared.Block.{Block}

in_run : (s many left : ℕ) (behind : List ℕ) → left < many → slice_get (run s many ++ behind) left ≡ Some (s + left)
unfolding run
in_run s zero left behind h = absurd (omega arith)
in_run s (suc many) zero behind h = ap Some (omega arith)
in_run s (suc many) (suc left) behind h = in_run (s + 1) many left behind (omega arith) ∙ ap Some (omega arith)

past_run : (s many left : ℕ) (behind : List ℕ) → slice_get (run s many ++ behind) (many + left) ≡ slice_get behind left
unfolding run
past_run s zero left behind = ap (slice_get behind) (omega arith)
past_run s (suc many) left behind =
    let e : suc many + left ≡ suc (many + left) = omega arith in
    rw e (past_run (s + 1) many left behind)

module _ (block : Block) (more : List Block) (next left : ℕ) where
  pub place_here : left ≤ block.last - next → slice_get (places_from next (block ∷ more)) left ≡ Some (block.start + left)
  unfolding places_from
  place_here h = in_run block.start (block.last - next + 1) left (places_from (block.last + 1) more) (omega arith)

  pub place_later : block.last - next < left → slice_get (places_from next (block ∷ more)) left ≡ slice_get (places_from (block.last + 1) more) (left - (block.last - next + 1))
  unfolding places_from
  place_later h =
      let many = block.last - next + 1 in
      let e : left ≡ many + (left - many) = omega arith in
      ap (slice_get (run block.start many ++ places_from (block.last + 1) more)) e
      ∙ past_run block.start many (left - many) (places_from (block.last + 1) more)

pub no_place : (next left : ℕ) → slice_get (places_from next []) left ≡ None
unfolding places_from
no_place next left = refl

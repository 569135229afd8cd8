-- `repairing::in_order` meets its contract: the index is copied, and its numbers put in order there. Assumes nothing.
use mathlib.Core.Path.{◌≡◌, ap, ◌∙◌}
use mathlib.Core.List.{List, []}
use Prim.Native.Nat.{ℕ}
use native.Mathlib.Omega.{arith}
use lib.ListN.{length}
use Rattle.rules.specs.Sectors.{sector_of}
use Rattle.rules.specs.Index.{numbers, index_of}
use Rattle.rules.specs.Volume.{files_in}
use Rattle.rules.specs.Calls.Repair.{distinct_rule, ordered}
use Rattle.rules.proofs.Sectors.{sector_length}
use Rattle.std.proofs.Common.{rules}
use Rattle.repairing.proofs.in_order.Goals as goal
use Rattle.repairing.proofs.in_order.Goals.{After-copy, After-sector_in}

long : (c : After-sector_in) → length c.sector_in.result.now ≡ 256
long c = ap length c.sector_in.ensures ∙ sector_length _ _ (omega (arith, c.requires.0, c.requires.1))

copied : (c : After-copy) → let a = c.args in c.copy.new.target ≡ sector_of a.image.now a.i
copied c = c.copy.ensures ∙ c.sector_in.ensures

pub copy-requires : goal.copy-requires
copy-requires c = let e = long (goal.at.copy-requires c).After-sector_in in search (rules, e)

pub order_numbers-requires : goal.order_numbers-requires
order_numbers-requires c =
    (c.requires.0, rw (copied (goal.at.order_numbers-requires c).After-copy) c.requires.2)

pub returns : goal.returns
unfolding files_in
returns c =
    let image = c.args.image.now in
    let is = ap numbers (copied (goal.at.returns c).After-copy) in
    record { value = c.order_numbers.ensures.value ∙ ap (distinct_rule image []) is; index_after = λ e. c.order_numbers.ensures.index_after e ∙ ap (λ (ks : List ℕ). index_of (ordered image ks)) is }

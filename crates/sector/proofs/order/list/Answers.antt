-- `sector::order::list` meets its contract: what is copied into a part of the list is laid over it, and a word set is a word laid there. Assumes nothing.
use mathlib.Core.Path.{◌≡◌, ap, ◌∙◌}
use mathlib.Core.List.{List}
use Prim.Native.Nat.{ℕ, ◌+◌, ◌-◌}
use native.Mathlib.Omega.{arith}
use lib.ListN.{length, set}
use Rattle.rules.specs.Bytes.{splice}
use Rattle.rules.proofs.Splice.{put_back, set-splice}
use Rattle.sector.proofs.order.list.Goals as goal

pub returns : goal.returns
returns c =
    let a = c.args in
    let copied = c.copy_from_slice in
    let many = length a.sectors.now in
    let z : 2 + (a.before + many) - (2 + a.before) ≡ many = omega arith in
    rw z (ap (λ (words : List ℕ). set words 1 (a.before + many)) (put_back a.changes.now copied.new.self (2 + a.before) many (ap length copied.ensures.after) (omega arith) ∙ ap (splice a.changes.now (2 + a.before)) copied.ensures.after))
    ∙ set-splice _ _ _

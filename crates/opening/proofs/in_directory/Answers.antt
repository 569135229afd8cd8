-- `opening::in_directory` meets its contract: 8 where the directory has no index, and otherwise the search of its index. Assumes nothing.
use mathlib.Core.Path.{sym, ap, ◌∙◌}
use Prim.Native.Nat.{ℕ}
use Rattle.rules.specs.Opening.{find_in}
use Rattle.rules.proofs.Opening.{in_none, in_there}
use Rattle.sector.proofs.IndexLaws.{there_none, there_some}
use Rattle.opening.proofs.in_directory.Goals as goal

pub returns-in_default : goal.returns-in_default
returns-in_default c = sym (in_none _ _ _ _ (there_none _ _ c.index_at.ensures c.in_default.is))

pub returns : goal.returns
returns c =
    let a = c.args in
    let there = there_some _ _ _ c.index_at.ensures c.in-Some.is in
    c.find_in-file.ensures
    ∙ ap (λ (i : ℕ). find_in a.image.now i a.name.now) there.0
    ∙ sym (in_there _ _ _ _ (λ none. there.1 (there.0 ∙ none)))

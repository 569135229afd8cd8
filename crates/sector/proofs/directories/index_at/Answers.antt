-- `sector::directories::index_at` meets its contract: the root's index is sector 1, and that of an entry stands in two bytes of sector 0. Assumes nothing.
use mathlib.Core.Path.{◌≡◌, sym, ap, ◌∙◌}
use native.Mathlib.Omega.{arith}
use borrow.Author.Tests.{not-true, not-false}
use Rattle.rules.specs.Volume.{index_at}
use Rattle.rules.proofs.Indexes.{root_at, index_first_edition, index_past, index_entry}
use Rattle.sector.specs.Directories.{some_index}
use Rattle.sector.proofs.IndexLaws.{some_none, some_there}
use Rattle.sector.proofs.directories.index_at.Goals as goal
use Rattle.sector.proofs.directories.index_at.Goals.{After-word-index, then-not-layout-via-then-not-layout, then-not-layout-via-else-not-layout+then-directory-gt3}

pub returns-then-directory-eq0 : goal.returns-then-directory-eq0
returns-then-directory-eq0 c =
    let a = c.args in
    ap some_index (sym (rw (← c.if-directory-eq0.true) at (root_at a.layout a.image.now)))

pub returns-then-not-layout : goal.returns-then-not-layout
returns-then-not-layout c =
    let a = c.args in
    some_none _ (elim c.then-not-layout.branch [
      | then-not-layout-via-then-not-layout w ↦ index_first_edition a.layout a.image.now a.directory (not-true _ w.if-not-layout.true) c.if-directory-eq0.false
      | then-not-layout-via-else-not-layout+then-directory-gt3 w ↦ index_past a.layout a.image.now a.directory w.if-directory-gt3.true
    ])

-- an entry's index is the word there
entry : (c : After-word-index) → let a = c.args in c.word-index.result ≡ index_at a.layout a.image.now a.directory
entry c =
    let a = c.args in
    c.word-index.ensures ∙ sym (index_entry a.layout a.image.now a.directory (not-false _ c.if-not-layout.false) c.if-directory-eq0.false (omega (arith, c.if-directory-gt3.false)))

pub returns-then-index-eq0 : goal.returns-then-index-eq0
returns-then-index-eq0 c = some_none _ (sym (entry (goal.at.returns-then-index-eq0 c).After-word-index) ∙ c.if-index-eq0.true)

pub returns : goal.returns
returns c = let e = entry (goal.at.returns c).After-word-index in rw e (some_there _ (λ none. c.if-index-eq0.false (e ∙ none)))

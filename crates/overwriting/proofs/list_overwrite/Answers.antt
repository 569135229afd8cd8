-- `overwriting::list_overwrite` meets its contract: by either rule the sectors stand behind their number. Assumes nothing.
use mathlib.Core.Path.{sym, ◌∙◌}
use Rattle.rules.proofs.Splice.{splice_cons}
use Rattle.overwriting.proofs.list_overwrite.Goals as goal

pub returns-then-layout : goal.returns-then-layout
returns-then-layout c = rw (c.if-layout.true, sym c.from.ensures, sym c.from-then-layout.ensures) (c.list.ensures ∙ splice_cons _ 1 _ _)

pub returns : goal.returns
returns c = rw (c.if-layout.false, sym c.from-2.ensures) (c.list-2.ensures ∙ splice_cons _ 1 _ _)

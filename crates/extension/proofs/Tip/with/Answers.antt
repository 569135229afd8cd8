-- `extension::Tip::with` meets its contract: the two ways out are the definition's cases, by what `is_next` answers. Assumes nothing.
use mathlib.Core.Path.{sym, ◌∙◌}
use Rattle.extension.specs.Tip.{tip_with}
use Rattle.extension.proofs.Tip.with.Goals as goal

pub returns-then-is_next : goal.returns-then-is_next
unfolding tip_with
returns-then-is_next c = rw (sym c.is_next.ensures ∙ c.if-is_next.true)

pub returns : goal.returns
unfolding tip_with
returns c = rw (sym c.is_next.ensures ∙ c.if-is_next.false)

-- `listing::fields::unpadded` meets its contract: the bytes before the first space, or all. Assumes nothing.
use mathlib.Core.Path.{sym, ◌∙◌}
use Rattle.listing.proofs.FieldSteps.{name_end, name_whole}
use Rattle.listing.proofs.fields.unpadded.Goals as goal

pub returns-in-Some : goal.returns-in-Some
returns-in-Some c = name_end c.args.name.now c.in-Some.end (sym c.padding.ensures ∙ c.in-Some.is)

pub returns-in-None : goal.returns-in-None
returns-in-None c = name_whole c.args.name.now (sym c.padding.ensures ∙ c.in-None.is)

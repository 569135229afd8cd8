-- `sector::bytes::same` meets its contract: the slices' own equality goes byte by byte. Assumes nothing.
use mathlib.Core.Path.{◌∙◌}
use Rattle.sector.proofs.Equal.{pointwise_same}
use Rattle.sector.proofs.bytes.same.Goals as goal

pub returns : goal.returns
returns c = c.eq.ensures ∙ pointwise_same _ _

-- `descriptor::header::mark_descriptor` meets its contract: the byte set in the image is the byte set in its sector. Assumes nothing.
use mathlib.Core.Path.{sym, ap, ◌∙◌}
use native.Mathlib.Omega.{arith}
use Rattle.rules.specs.Kind.{marking}
use Rattle.rules.specs.Sectors.{sector_of}
use Rattle.rules.specs.Descriptor.{status_of, marked_by}
use Rattle.rules.proofs.Sectors.{sector_byte, sector_set}
use Rattle.descriptor.proofs.header.mark_descriptor.Goals as goal

pub returns : goal.returns
unfolding marked_by
returns c =
    let a = c.args in
    let image = a.image.now in
    let status = c.marking.ensures ∙ ap (marking a.layout) (sym (sector_byte image a.k 12 (omega arith))) in
    rw status (sym (sector_set image a.k 12 (marking a.layout (status_of (sector_of image a.k))) (omega arith)))

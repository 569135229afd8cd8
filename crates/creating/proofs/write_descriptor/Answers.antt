-- `creating::write_descriptor` meets its contract: what is made is written. Assumes nothing.
use mathlib.Core.Path.{ap, ◌∙◌}
use Prim.Native.Nat.{◌*◌}
use Rattle.rules.specs.Bytes.{splice}
use Rattle.creating.proofs.write_descriptor.Goals as goal

pub returns : goal.returns
returns c =
    let a = c.args in
    c.write_sector.ensures ∙ ap (splice a.image.now (256 * a.k)) c.new_descriptor.ensures

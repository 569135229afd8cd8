-- `sector::bytes::sector_of` meets its contract: a sector is 256 bytes from 256 × k on, which is the part that is cut. Assumes nothing.
use mathlib.Core.Path.{ap, ◌∙◌}
use Prim.Native.Nat.{ℕ, ◌*◌}
use Rattle.rules.specs.Bytes.{part}
use Rattle.rules.specs.Sectors.{sector_of}
use Rattle.sector.proofs.bytes.sector_of.Goals as goal

pub returns : goal.returns
unfolding sector_of
returns c = c.part.ensures ∙ ap (λ (k : ℕ). part c.args.image.now (256 * k) 256) c.from.ensures

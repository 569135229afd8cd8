-- `map::bits::mark_as` meets its contract: the byte that holds the bit is `with_bit`'s, and a sector that the map does not reach changes nothing. Assumes nothing.
use mathlib.Core.Path.{sym}
use lib.Seq.{set_out}
use Rattle.rules.specs.Map.{marked}
use Rattle.map.proofs.bits.mark_as.Goals as goal

pub returns-then-i-sector0 : goal.returns-then-i-sector0
unfolding marked
returns-then-i-sector0 c = rw c.with_bit.ensures

pub returns-else-i-sector0 : goal.returns-else-i-sector0
unfolding marked
returns-else-i-sector0 c = sym (set_out _ _ _ c.if-i-sector0.false)

-- `map::laid::lay_byte` meets its contract: the byte set, or none where there is none. Assumes nothing.
use mathlib.Core.Path.{sym}
use lib.Seq.{set_out}
use Rattle.map.proofs.laid.lay_byte.Goals as goal

pub returns-then-i-map : goal.returns-then-i-map
returns-then-i-map c = rw c.map_byte.ensures

pub returns-else-i-map : goal.returns-else-i-map
returns-else-i-map c = sym (set_out _ _ _ c.if-i-map.false)

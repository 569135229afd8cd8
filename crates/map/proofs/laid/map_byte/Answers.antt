-- `map::laid::map_byte` meets its contract: the bits that are not past `used` and those past the end have no sector in common. Assumes nothing.
use native.Mathlib.Omega.{arith}
use Rattle.map.proofs.HeldBytes.{byte_beside}
use Rattle.map.proofs.laid.map_byte.Goals as goal

pub overflow_add-result : goal.overflow_add-result
overflow_add-result c =
    let both = byte_beside c.args.n c.args.used c.args.k c.requires in
    omega (arith, c.past_end.ensures, c.past_end-2.ensures, both.0, both.1)

pub returns : goal.returns
returns c =
    let both = byte_beside c.args.n c.args.used c.args.k c.requires in
    omega (arith, c.past_end.ensures, c.past_end-2.ensures, both.0, both.1)

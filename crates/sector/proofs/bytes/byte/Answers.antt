-- `sector::bytes::byte` meets its contract: past the end stands zero. Assumes nothing.
use mathlib.Core.Path.{sym}
use lib.ListN.{get_or-eq_default}
use Rattle.sector.proofs.bytes.byte.Goals as goal

pub returns : goal.returns
returns c = sym (get_or-eq_default c.args.bytes.now 0 c.if-i-bytes.false)

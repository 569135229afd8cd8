-- `sector::bytes::sector_in` meets its contract: from 256 × k to 256 more are 256 bytes, which is the part that a sector is. Assumes nothing.
use mathlib.Core.Path.{◌≡◌}
use Prim.Native.Nat.{◌+◌, ◌-◌, ◌*◌}
use native.Mathlib.Omega.{arith}
use Rattle.rules.specs.Sectors.{sector_of}
use Rattle.sector.proofs.bytes.sector_in.Goals as goal

pub returns : goal.returns
unfolding sector_of
returns c =
    let k = c.args.k in
    let z : 256 * k + 256 - 256 * k ≡ 256 = omega arith in
    rw z

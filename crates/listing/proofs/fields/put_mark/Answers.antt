-- `listing::fields::put_mark` meets its contract: the tests are the definition's, and each way lays its field, or none, and the newline. Assumes nothing.
use mathlib.Core.Path.{refl}
use native.Mathlib.Omega.{arith}
use Rattle.rules.specs.Calls.Listing.{mark_field}
use Rattle.line.proofs.LaidLaws.{laid_as}
use Rattle.listing.proofs.fields.put_mark.Goals as goal

pub returns-then-is_marked : goal.returns-then-is_marked
unfolding mark_field
returns-then-is_marked c =
    rw (c.if-layout.true, ← c.is_marked.ensures, c.if-is_marked.true) c.put.ensures

pub returns-then-layout : goal.returns-then-layout
unfolding mark_field
returns-then-layout c =
    rw (c.if-layout.true, ← c.is_marked.ensures, c.if-is_marked.false) c.put-then-layout.ensures

pub returns : goal.returns
unfolding mark_field
returns c =
    rw c.if-layout.false (laid_as refl (omega arith) c.put-2.ensures)

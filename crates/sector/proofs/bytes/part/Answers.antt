-- `sector::bytes::part` meets its contract: all bytes asked for are there, or the rest is shorter, or nothing is left; in each case it is what taking from the rest gives. Assumes nothing.
use mathlib.Core.Path.{◌≡◌, sym, ap, ◌∙◌}
use Prim.Native.Nat.{◌+◌, ◌-◌}
use native.Mathlib.Omega.{arith}
use lib.ListN.{length, take, drop, length-drop, drop_of_length-le}
use lib.Seq.{take_all, take-nil}
use Rattle.sector.proofs.bytes.part.Goals as goal

pub returns-then-count-bytes : goal.returns-then-count-bytes
returns-then-count-bytes c = let a = c.args in
    let z : a.from + a.count - a.from ≡ a.count = omega arith in
    rw z

pub returns-then-from-bytes : goal.returns-then-from-bytes
returns-then-from-bytes c = let a = c.args in
    let rest = drop a.from a.bytes.now in
    take_all (length a.bytes.now - a.from) rest (rw length-drop (omega arith)) ∙ sym (take_all a.count rest (rw length-drop (omega arith)))

pub returns : goal.returns
returns c = let a = c.args in
    sym (ap (take a.count) (drop_of_length-le a.bytes.now {i = a.from} (omega arith)) ∙ take-nil a.count)

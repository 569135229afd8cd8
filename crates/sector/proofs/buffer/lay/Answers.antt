-- `sector::buffer::lay` meets its contract: what a copy leaves in a part of the buffer is the bytes laid over it. Assumes nothing.
use mathlib.Core.Path.{◌≡◌, sym, ap, ◌∙◌}
use Prim.Native.Nat.{◌+◌, ◌-◌}
use native.Mathlib.Omega.{arith}
use lib.ListN.{length, take, length-take}
use Rattle.rules.specs.Bytes.{splice}
use Rattle.rules.proofs.Splice.{splice_past, splice_cut, put_back}
use Rattle.sector.proofs.buffer.lay.Goals as goal

pub returns-then-at-buffer : goal.returns-then-at-buffer
returns-then-at-buffer c = sym (splice_past _ _ _ c.if-at-buffer.true)

pub returns-then-bytes-room : goal.returns-then-bytes-room
returns-then-bytes-room c =
    let a = c.args in
    let copied = c.copy in
    let many = length a.bytes.now in
    let z : a.at + many - a.at ≡ many = omega arith in
    rw z (put_back a.buffer.now copied.new.target a.at many (ap length copied.ensures) (omega arith)) ∙ ap (splice a.buffer.now a.at) copied.ensures

pub returns : goal.returns
returns c =
    let a = c.args in
    let copied = c.copy-2 in
    let room = length a.buffer.now - a.at in
    let z : room - 0 ≡ room = omega arith in
    let e : copied.new.target ≡ take room a.bytes.now = rw z at copied.ensures in
    put_back a.buffer.now copied.new.target a.at room (ap length e ∙ length-take room a.bytes.now ∙ omega arith) (omega arith)
    ∙ ap (splice a.buffer.now a.at) e
    ∙ splice_cut a.buffer.now a.at a.bytes.now room (omega arith)

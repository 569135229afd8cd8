-- `sector::buffer::lay_fill` meets its contract: what a fill leaves in a part of the buffer is bytes of that value laid over it. Assumes nothing.
use mathlib.Core.Path.{◌≡◌, sym, ap, ◌∙◌}
use mathlib.Core.List.{List}
use Prim.Native.Nat.{ℕ, ◌+◌, ◌-◌, ◌≤◌}
use native.Mathlib.Omega.{arith}
use native.Mathlib.Decide.{dec_lt}
use lib.ListN.{length, replicate, length-replicate}
use borrow.Rule.Slice.PartMut.{put_mid}
use Rattle.std.specs.Prelude.{min}
use Rattle.std.proofs.lemmas.List.{take-replicate}
use Rattle.rules.specs.Bytes.{part, splice}
use Rattle.rules.proofs.Bytes.{part_length}
use Rattle.rules.proofs.Splice.{splice_past, splice_cut, put_back}
use Rattle.sector.proofs.buffer.lay_fill.Goals as goal

-- as many of them as there is room for are as good as all
fitting : (buffer : List ℕ) (at room many value : ℕ) → room ≡ min many (length buffer - at) → splice buffer at (replicate room value) ≡ splice buffer at (replicate many value)
fitting buffer at room many value is =
    elim (dec_lt room many) [
      | yes less ↦ ap (splice buffer at) (sym (take-replicate room many value (omega arith))) ∙ splice_cut buffer at (replicate many value) room (omega arith)
      | no all ↦ ap (λ (m : ℕ). splice buffer at (replicate m value)) (omega arith)
    ]

-- a part up to an end, filled
filled : (buffer bytes : List ℕ) (at end many value : ℕ) → at ≤ length buffer → end ≡ at + min many (length buffer - at) → bytes ≡ replicate (length (part buffer at (end - at))) value → put_mid at (end - at) buffer bytes ≡ splice buffer at (replicate many value)
filled buffer bytes at end many value inside is e =
    let bytes_are : bytes ≡ replicate (end - at) value = e ∙ ap (λ (m : ℕ). replicate m value) (part_length buffer at (end - at) (omega arith)) in
    put_back buffer bytes at (end - at) (ap length bytes_are ∙ length-replicate (end - at) value) (omega arith)
    ∙ ap (splice buffer at) bytes_are
    ∙ fitting buffer at (end - at) many value (omega arith)

pub returns-then-at-buffer : goal.returns-then-at-buffer
returns-then-at-buffer c = sym (splice_past _ _ _ c.if-at-buffer.true)

pub returns : goal.returns
returns c =
    let a = c.args in
    filled a.buffer.now c.fill.new.self a.at _ a.many a.value (omega arith) (omega arith) (c.fill.ensures.after (λ y same. same))

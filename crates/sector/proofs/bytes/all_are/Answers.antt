-- `sector::bytes::all_are` meets its contract. The loop's invariant: nothing differed so far and the rest is all that value, exactly where all of it is. Assumes nothing.
use mathlib.Core.Path.{sym, ap, ◌∙◌}
use mathlib.Core.Bool.{Bool, ◌&&◌, and-true}
use Prim.Native.Nat.{◌+◌}
use lib.Dec.{eqb}
use lib.ListN.{length, drop, get_or, length-drop}
use lib.Seq.{take_all}
use native.Mathlib.Omega.{arith}
use Rattle.rules.specs.Bytes.{all_are}
use Rattle.rules.proofs.Bytes.{all_step, all_end}
use Rattle.sector.proofs.Differing.{differing_more}
use Rattle.sector.proofs.bytes.all_are.Goals as goal

pub loop-byte-init : goal.loop-byte-init
loop-byte-init c = ap (all_are c.args.value) (c.part-byte-items.ensures ∙ take_all (length c.args.bytes.now) _ (rw length-drop (omega arith)))

pub loop-byte-preserved : goal.loop-byte-preserved
loop-byte-preserved c =
    let l = c.loop-byte in
    let bytes = c.part-byte-items.result.now in
    differing_more l.differing (get_or bytes l.byte-index 0) c.args.value (all_are c.args.value (drop (l.byte-index + 1) bytes))
    ∙ ap (λ (t : Bool). eqb l.differing 0 && t) (sym (all_step c.args.value bytes l.byte-index c.loop-byte-test.true))
    ∙ l.invariant

pub returns : goal.returns
returns c =
    let l = c.loop-byte in
    sym (and-true (eqb l.differing 0))
    ∙ ap (λ (t : Bool). eqb l.differing 0 && t) (sym (all_end c.args.value c.part-byte-items.result.now l.byte-index c.loop-byte-test.false))
    ∙ l.invariant

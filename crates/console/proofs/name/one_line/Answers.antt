-- `console::name::one_line` meets its contract: a turn of the loop takes a byte further. Assumes nothing.
use mathlib.Core.Path.{◌≡◌, refl, sym, ap, ◌∙◌}
use mathlib.Core.List.{List, ◌++◌, append_assoc, append-nil}
use Prim.Native.Nat.{ℕ, suc, ◌+◌, ◌<◌, ◌≤◌}
use native.Mathlib.Omega.{arith}
use native.Mathlib.Numerals.{add-one}
use lib.ListN.{length, take, drop, set, drop_of_length-le}
use lib.Seq.{drop-cons, take-suc-set, drop-set-lt, take_all}
use borrow.Author.Tests.{eq-eqb, ne_eqb}
use Rattle.rules.specs.Bytes.{byte_at}
use Rattle.console.specs.Name.{in_line, one_line}
use Rattle.console.proofs.name.one_line.Goals as goal
use Rattle.console.proofs.name.one_line.Goals.{then-byte-eq10, else-byte-eq10}

passed : (name : List ℕ) (i byte : ℕ) → i < length name → byte ≡ in_line (byte_at name i)
    → take (i + 1) (set name i byte) ++ one_line (drop (i + 1) (set name i byte)) ≡ take i name ++ one_line (drop i name)
unfolding one_line
passed name i byte inside is =
    rw (add-one, take-suc-set name i byte inside, drop-set-lt (suc i) name i byte (omega arith), drop-cons name i 0 inside, append_assoc, ← is)

pub loop-byte-preserved : goal.loop-byte-preserved
unfolding in_line
loop-byte-preserved c =
    let l = c.loop-byte in
    elim c.if-byte-eq10.branch [
      | then-byte-eq10 w ↦ rw w.name-is (passed l.name l.byte-index _ (omega arith) (rw (eq-eqb _ _ w.if-byte-eq10.true) refl) ∙ l.invariant)
      | else-byte-eq10 w ↦ rw w.name-is (passed l.name l.byte-index _ (omega arith) (rw (ne_eqb _ _ w.if-byte-eq10.false) refl) ∙ l.invariant)
    ]

pub returns : goal.returns
unfolding one_line
returns c =
    let l = c.loop-byte in
    let end : length l.name ≤ l.byte-index = omega arith in
    sym (take_all l.byte-index l.name end)
    ∙ sym (append-nil (take l.byte-index l.name))
    ∙ ap (λ (rest : List ℕ). take l.byte-index l.name ++ one_line rest) (sym (drop_of_length-le l.name end))
    ∙ l.invariant

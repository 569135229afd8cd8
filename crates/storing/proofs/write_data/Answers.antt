-- `storing::write_data` meets its contract. The loop's invariant: writing the bytes that are left to the places that are still to come gives what writing all of them gives, and so does
-- listing those places from that of their number on. Assumes nothing.
use mathlib.Core.Path.{◌≡◌, refl, sym, ap, ◌∙◌}
use mathlib.Core.Logic.{inl}
use Prim.Native.Nat.{ℕ, ◌+◌, ◌*◌}
use native.Mathlib.Omega.{arith}
use lib.ListN.{length, drop}
use Rattle.rules.specs.Bytes.{splice}
use Rattle.rules.proofs.Bytes.{part_short}
use Rattle.rules.proofs.Splice.{splice_none}
use Rattle.storing.proofs.Laying.{piece_written, none_written, place_listed}
use Rattle.storing.proofs.write_data.Goals as goal

pub loop-number-init : goal.loop-number-init
loop-number-init c =
    let all = c.places_of.ensures in
    let numbered = c.enumerate-number-items.ensures in
    rw (c.into_iter-number-iterator.ensures.into_iter_gives, numbered.source, numbered.count, all.all) ((all.steady, tt, inl (omega (arith, ap length all.all, c.requires))), omega arith, refl, refl)

pub write_piece-requires : goal.write_piece-requires
write_piece-requires c = rw c.part.ensures (part_short c.args.bytes.now _ 256)

pub loop-number-preserved : goal.loop-number-preserved
loop-number-preserved c =
    let l = c.loop-number in
    let step = c.in-Some.ensures.steps in
    let number = c.in-Some.number in
    let some = ap length step.0.is in
    let further : 256 * (number + 1) ≡ 256 * number + 256 = omega arith in
    let next : c.next.new.self.count ≡ number + 1 = step.2 ∙ ap (λ (n : ℕ). n + 1) (sym step.1) in
    let is = rw (sym step.1) at l.invariant in
    rw (next, c.from.ensures) (
      (step.0.steady, tt, inl (omega (arith, some, is.1, c.requires))),
      omega (arith, some, is.1),
      rw further (piece_written l.image c.args.bytes.now (256 * number) step.0.is c.part.ensures c.write_piece.ensures (omega arith)) ∙ is.2,
      place_listed l.changes number step.0.is (omega arith) ∙ is.3,
    )

pub returns : goal.returns
returns c =
    let l = c.loop-number in
    let none = c.in-None.ensures.steps.0.is.0 in
    record { image_after = sym (none_written (drop (256 * l.number-iterator.count) c.args.bytes.now) none) ∙ l.invariant.2; order = sym (ap (splice l.changes (2 + l.number-iterator.count)) none ∙ splice_none _ _) ∙ l.invariant.3 }

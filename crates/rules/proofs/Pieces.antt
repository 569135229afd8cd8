-- Bytes laid over a buffer piece by piece, each behind the one before: what is left, laid where the last piece ended, makes of the buffer what all of them make of it.
use mathlib.Core.Path.{◌≡◌, refl, sym, ap, ◌∙◌}
use mathlib.Core.List.{List, [], ◌++◌}
use Prim.Native.Nat.{ℕ, ◌+◌}
use native.Mathlib.Omega.{arith}
use lib.ListN.{length, length-append}
use Rattle.rules.specs.Bytes.{splice}
use Rattle.rules.proofs.Splice.{splice_append, splice-length, splice_none}

-- all bytes, the buffer before and where they go; then what is left, the buffer now and where that goes
pub record Pieces (all before : List ℕ) (from : ℕ) (left after : List ℕ) (to : ℕ) : Type 0 where
  pub kept : length after ≡ length before
  pub ends : to + length left ≡ from + length all
  pub same : splice after to left ≡ splice before from all

pub pieces_first : (all before : List ℕ) (from : ℕ) → Pieces all before from all before from
pieces_first all before from = record { kept = refl; ends = refl; same = refl }

module _ {all before : List ℕ} {from : ℕ} {left after : List ℕ} {to : ℕ} (so_far : Pieces all before from left after to) where
  pub pieces_next : (piece : List ℕ) {more later : List ℕ} {next : ℕ} → left ≡ piece ++ more → later ≡ splice after to piece → next ≡ to + length piece → Pieces all before from more later next
  pieces_next piece {more} left_is later-is next_is =
      let ends = rw left_is at so_far.ends in
      let same = rw left_is at so_far.same in
      record {
        kept = ap length later-is ∙ splice-length after to piece ∙ so_far.kept;
        ends = omega (arith, next_is, ends, length-append piece more);
        same = rw (later-is, next_is) (splice_append after to piece more ∙ same);
      }

  pub pieces_last : left ≡ [] → (after ≡ splice before from all) × (to ≡ from + length all)
  pieces_last none =
      let ends = rw none at so_far.ends in
      let same = rw none at so_far.same in
      (sym (splice_none after to) ∙ same, omega (arith, ends))

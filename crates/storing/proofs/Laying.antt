-- Bytes laid into sectors, and a chain into a new descriptor: what the writes of the data are and how they are listed, a sector at a time, and what the code's stores and lays amount to.
use mathlib.Core.Path.{◌≡◌, sym, ap, ◌∙◌}
use mathlib.Core.List.{List, [], ◌∷◌, ◌++◌}
use Prim.Native.Nat.{ℕ, ◌+◌, ◌-◌, ◌*◌, ◌≤◌}
use native.Mathlib.Omega.{arith}
use lib.ListN.{length, set, drop, replicate, length-replicate, replicate-append-replicate}
use lib.Seq.{drop-drop, drop_at}
use Rattle.rules.specs.Bytes.{part, over, splice}
use Rattle.rules.specs.Sectors.{written}
use Rattle.rules.specs.Calls.Store.{data_writes}
use Rattle.rules.proofs.Splice.{splice_append, splice_cut, set-splice}
use Rattle.rules.proofs.Formatted.{laid_front}

-- a piece and zeros behind it are the piece laid over zeros
drop_same : (many size value : ℕ) → many ≤ size → drop many (replicate size value) ≡ replicate (size - many) value
drop_same many size value short =
    let e : many + (size - many) ≡ size = omega arith in
    ap (drop many) (sym (replicate-append-replicate many (size - many) value ∙ ap (λ (m : ℕ). replicate m value) e))
    ∙ drop_at (replicate many value) (replicate (size - many) value) many (length-replicate many value)

padded : (size : ℕ) (piece : List ℕ) → length piece ≤ size → piece ++ replicate (size - length piece) 0 ≡ over (replicate size 0) piece
unfolding splice
padded size piece short =
    sym (laid_front (replicate size 0) piece (omega (arith, short, length-replicate {A = ℕ} size 0)) ∙ ap (λ (l : List ℕ). piece ++ l) (drop_same (length piece) size 0 short))

pub piece_laid : (image : List ℕ) (at : ℕ) (piece laid after : List ℕ) → length piece ≤ 256 → laid ≡ splice image at piece → after ≡ splice laid (at + length piece) (replicate (256 - length piece) 0)
    → after ≡ splice image at (over (replicate 256 0) piece)
piece_laid image at piece laid after short first second =
    second ∙ ap (λ (l : List ℕ). splice l (at + length piece) (replicate (256 - length piece) 0)) first ∙ splice_append image at piece _ ∙ ap (splice image at) (padded 256 piece short)

-- a sector written with the bytes from `at` on, of which 256 zeros have room for 256: the rest goes to the sectors behind it
pub piece_written : (image bytes : List ℕ) (at : ℕ) {from k : ℕ} {later piece all ks : List ℕ} → all ≡ k ∷ ks → piece ≡ part bytes from 256 → later ≡ splice image (256 * k) (over (replicate 256 0) piece) → from ≡ at
    → written later (data_writes (drop (at + 256) bytes) ks) ≡ written image (data_writes (drop at bytes) all)
unfolding written data_writes splice
piece_written image bytes at ahead piece_is later-is from_is =
    let cut = splice_cut (replicate 256 0) 0 (drop at bytes) 256 (omega (arith, length-replicate {A = ℕ} 256 0)) in
    rw (ahead, later-is, piece_is, from_is, cut, drop-drop 256 at bytes)

pub none_written : {image all : List ℕ} (bytes : List ℕ) → all ≡ [] → written image (data_writes bytes all) ≡ image
unfolding written data_writes
none_written bytes none = rw none

-- and listed at the place of its number: those behind it follow
pub place_listed : (changes : List ℕ) (at : ℕ) {place k : ℕ} {all ks : List ℕ} → all ≡ k ∷ ks → place ≡ 2 + at → splice (set changes place k) (2 + (at + 1)) ks ≡ splice changes (2 + at) all
place_listed changes at {k = k} {ks = ks} ahead place_is =
    let further : 2 + (at + 1) ≡ 2 + at + 1 = omega arith in
    rw (ahead, place_is, further, set-splice changes (2 + at) k) (splice_append changes (2 + at) (k ∷ []) ks)

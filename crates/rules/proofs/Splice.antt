-- Bytes laid over a buffer: the length stays, what is read inside and outside, two that follow each other, and what a part that was lent leaves behind.
use mathlib.Core.Path.{◌≡◌, refl, sym, ap, ◌∙◌}
use mathlib.Core.List.{List, [], ◌∷◌, ◌++◌}
use Prim.Native.Nat.{ℕ, zero, suc, ◌+◌, ◌≤◌, ◌<◌}
use native.Mathlib.Omega.{arith}
use native.Mathlib.Nat.{zero-add, suc-add}
use native.Mathlib.Numerals.{add-one}
use lib.ListN.{length, set, take, drop}
use lib.Seq.{drop-drop, length-take-le, take-suc}
use borrow.Rule.Slice.PartMut.{put_mid}
use Rattle.rules.specs.Bytes.{byte_at, part, over, splice}

over-length : (buffer bytes : List ℕ) → length (over buffer bytes) ≡ length buffer
unfolding over
over-length [] bytes = refl
over-length (b ∷ buffer) [] = refl
over-length (b ∷ buffer) (c ∷ bytes) = ap suc (over-length buffer bytes)

pub splice-length : (buffer : List ℕ) (at : ℕ) (bytes : List ℕ) → length (splice buffer at bytes) ≡ length buffer
unfolding splice
splice-length buffer zero bytes = over-length buffer bytes
splice-length [] (suc at) bytes = refl
splice-length (b ∷ buffer) (suc at) bytes = ap suc (splice-length buffer at bytes)

over_none : (buffer : List ℕ) → over buffer [] ≡ buffer
unfolding over
over_none [] = refl
over_none (b ∷ buffer) = refl

-- no bytes change nothing, and neither do bytes past the end
pub splice_none : (buffer : List ℕ) (at : ℕ) → splice buffer at [] ≡ buffer
unfolding splice
splice_none buffer zero = over_none buffer
splice_none [] (suc at) = refl
splice_none (b ∷ buffer) (suc at) = ap (λ (l : List ℕ). b ∷ l) (splice_none buffer at)

pub splice_past : (buffer : List ℕ) (at : ℕ) (bytes : List ℕ) → length buffer ≤ at → splice buffer at bytes ≡ buffer
unfolding splice over
splice_past [] zero bytes h = refl
splice_past (b ∷ buffer) zero bytes h = absurd (omega arith)
splice_past [] (suc at) bytes h = refl
splice_past (b ∷ buffer) (suc at) bytes h = ap (λ (l : List ℕ). b ∷ l) (splice_past buffer at bytes (omega arith))

-- readings
over_inside : (buffer bytes : List ℕ) (i : ℕ) → i < length bytes → i < length buffer → byte_at (over buffer bytes) i ≡ byte_at bytes i
unfolding over
over_inside [] bytes i h k = absurd (omega arith)
over_inside (b ∷ buffer) [] i h k = absurd (omega arith)
over_inside (b ∷ buffer) (c ∷ bytes) zero h k = refl
over_inside (b ∷ buffer) (c ∷ bytes) (suc i) h k = over_inside buffer bytes i (omega arith) (omega arith)

over_outside : (buffer bytes : List ℕ) (i : ℕ) → length bytes ≤ i → byte_at (over buffer bytes) i ≡ byte_at buffer i
unfolding over
over_outside [] bytes i h = refl
over_outside (b ∷ buffer) [] i h = refl
over_outside (b ∷ buffer) (c ∷ bytes) zero h = absurd (omega arith)
over_outside (b ∷ buffer) (c ∷ bytes) (suc i) h = over_outside buffer bytes i (omega arith)

pub splice_inside : (buffer : List ℕ) (at : ℕ) (bytes : List ℕ) (i : ℕ) → i < length bytes → at + i < length buffer → byte_at (splice buffer at bytes) (at + i) ≡ byte_at bytes i
unfolding splice
splice_inside buffer zero bytes i h k = rw (zero-add i) (over_inside buffer bytes i h (omega arith))
splice_inside [] (suc at) bytes i h k = absurd (omega arith)
splice_inside (b ∷ buffer) (suc at) bytes i h k = rw (suc-add at i) (splice_inside buffer at bytes i h (omega arith))

pub splice_below : (buffer : List ℕ) (at : ℕ) (bytes : List ℕ) (i : ℕ) → i < at → byte_at (splice buffer at bytes) i ≡ byte_at buffer i
unfolding splice
splice_below buffer zero bytes i h = absurd (omega arith)
splice_below [] (suc at) bytes i h = refl
splice_below (b ∷ buffer) (suc at) bytes zero h = refl
splice_below (b ∷ buffer) (suc at) bytes (suc i) h = splice_below buffer at bytes i (omega arith)

pub splice_above : (buffer : List ℕ) (at : ℕ) (bytes : List ℕ) (i : ℕ) → at + length bytes ≤ i → byte_at (splice buffer at bytes) i ≡ byte_at buffer i
unfolding splice
splice_above buffer zero bytes i h = over_outside buffer bytes i (omega arith)
splice_above [] (suc at) bytes i h = refl
splice_above (b ∷ buffer) (suc at) bytes zero h = absurd (omega arith)
splice_above (b ∷ buffer) (suc at) bytes (suc i) h = splice_above buffer at bytes i (omega arith)

-- bytes that follow others
over_append : (buffer first second : List ℕ) → splice (over buffer first) (length first) second ≡ over buffer (first ++ second)
unfolding over splice
over_append [] [] second = refl
over_append [] (c ∷ first) second = refl
over_append (b ∷ buffer) [] second = refl
over_append (b ∷ buffer) (c ∷ first) second = ap (λ (l : List ℕ). c ∷ l) (over_append buffer first second)

pub splice_append : (buffer : List ℕ) (at : ℕ) (first second : List ℕ) → splice (splice buffer at first) (at + length first) second ≡ splice buffer at (first ++ second)
unfolding splice
splice_append buffer zero first second = rw (zero-add (length first)) (over_append buffer first second)
splice_append [] (suc at) first second = rw (suc-add at (length first))
splice_append (b ∷ buffer) (suc at) first second = rw (suc-add at (length first)) (ap (λ (l : List ℕ). b ∷ l) (splice_append buffer at first second))

-- and a byte that stands before others
over_cons : (buffer : List ℕ) (byte : ℕ) (bytes : List ℕ) → splice (splice buffer 1 bytes) 0 (byte ∷ []) ≡ over buffer (byte ∷ bytes)
unfolding over splice
over_cons [] byte bytes = refl
over_cons (b ∷ buffer) byte bytes = ap (λ (l : List ℕ). byte ∷ l) (over_none (over buffer bytes))

pub splice_cons : (buffer : List ℕ) (at byte : ℕ) (bytes : List ℕ) → splice (splice buffer (suc at) bytes) at (byte ∷ []) ≡ splice buffer at (byte ∷ bytes)
unfolding splice
splice_cons buffer zero byte bytes = over_cons buffer byte bytes
splice_cons [] (suc at) byte bytes = refl
splice_cons (b ∷ buffer) (suc at) byte bytes = ap (λ (l : List ℕ). b ∷ l) (splice_cons buffer at byte bytes)

-- bytes laid over no fewer that were laid there before: laid over those first
over-over : (buffer first second : List ℕ) → length second ≤ length first → over (over buffer first) second ≡ over buffer (over first second)
unfolding over
over-over [] first second h = refl
over-over (b ∷ buffer) [] [] h = refl
over-over (b ∷ buffer) [] (d ∷ second) h = absurd (omega arith)
over-over (b ∷ buffer) (c ∷ first) [] h = refl
over-over (b ∷ buffer) (c ∷ first) (d ∷ second) h = ap (λ (l : List ℕ). d ∷ l) (over-over buffer first second (omega arith))

pub splice_over : (buffer : List ℕ) (at : ℕ) (first second : List ℕ) → length second ≤ length first → splice (splice buffer at first) at second ≡ splice buffer at (splice first 0 second)
unfolding splice
splice_over buffer zero first second h = over-over buffer first second h
splice_over [] (suc at) first second h = refl
splice_over (b ∷ buffer) (suc at) first second h = ap (λ (l : List ℕ). b ∷ l) (splice_over buffer at first second h)

-- and over no more: as if those had not been laid
over_covered : (buffer first second : List ℕ) → length first ≤ length second → over (over buffer first) second ≡ over buffer second
unfolding over
over_covered [] first second h = refl
over_covered (b ∷ buffer) [] second h = refl
over_covered (b ∷ buffer) (c ∷ first) [] h = absurd (omega arith)
over_covered (b ∷ buffer) (c ∷ first) (d ∷ second) h = ap (λ (l : List ℕ). d ∷ l) (over_covered buffer first second (omega arith))

pub splice_covered : (buffer : List ℕ) (at : ℕ) (first second : List ℕ) → length first ≤ length second → splice (splice buffer at first) at second ≡ splice buffer at second
unfolding splice
splice_covered buffer zero first second h = over_covered buffer first second h
splice_covered [] (suc at) first second h = refl
splice_covered (b ∷ buffer) (suc at) first second h = ap (λ (l : List ℕ). b ∷ l) (splice_covered buffer at first second h)

-- bytes of the buffer's own length, and what is read of the front
pub splice_whole : (buffer bytes : List ℕ) → length bytes ≡ length buffer → splice buffer 0 bytes ≡ bytes
unfolding splice over
splice_whole [] [] e = refl
splice_whole [] (c ∷ bytes) e = absurd (omega arith)
splice_whole (b ∷ buffer) [] e = absurd (omega arith)
splice_whole (b ∷ buffer) (c ∷ bytes) e = ap (λ (l : List ℕ). c ∷ l) (splice_whole buffer bytes (omega arith))

pub splice_front : (buffer bytes : List ℕ) → length bytes ≤ length buffer → take (length bytes) (splice buffer 0 bytes) ≡ bytes
unfolding splice over
splice_front [] [] h = refl
splice_front [] (c ∷ bytes) h = absurd (omega arith)
splice_front (b ∷ buffer) [] h = refl
splice_front (b ∷ buffer) (c ∷ bytes) h = ap (λ (l : List ℕ). c ∷ l) (splice_front buffer bytes (omega arith))

-- and of the front of a buffer, what is laid there
pub splice-take : (n : ℕ) (buffer : List ℕ) (at : ℕ) (bytes : List ℕ) → take n (splice buffer at bytes) ≡ splice (take n buffer) at bytes
unfolding splice over
splice-take zero buffer zero bytes = refl
splice-take zero buffer (suc at) bytes = refl
splice-take (suc n) [] zero bytes = refl
splice-take (suc n) (b ∷ buffer) zero [] = refl
splice-take (suc n) (b ∷ buffer) zero (c ∷ bytes) = ap (λ (l : List ℕ). c ∷ l) (splice-take n buffer zero bytes)
splice-take (suc n) [] (suc at) bytes = refl
splice-take (suc n) (b ∷ buffer) (suc at) bytes = ap (λ (l : List ℕ). b ∷ l) (splice-take n buffer at bytes)

-- only as many bytes as there is room for are laid
pub splice_cut : (buffer : List ℕ) (at : ℕ) (bytes : List ℕ) (many : ℕ) → length buffer ≤ at + many → splice buffer at (take many bytes) ≡ splice buffer at bytes
unfolding splice over
splice_cut [] zero bytes many h = refl
splice_cut (b ∷ buffer) zero [] zero h = absurd (omega arith)
splice_cut (b ∷ buffer) zero [] (suc many) h = refl
splice_cut (b ∷ buffer) zero (c ∷ bytes) zero h = absurd (omega arith)
splice_cut (b ∷ buffer) zero (c ∷ bytes) (suc many) h = ap (λ (l : List ℕ). c ∷ l) (splice_cut buffer zero bytes many (omega arith))
splice_cut [] (suc at) bytes many h = refl
splice_cut (b ∷ buffer) (suc at) bytes many h = ap (λ (l : List ℕ). b ∷ l) (splice_cut buffer at bytes many (omega arith))

-- as the parts before, between and after; and what stands where a part was lent and came back as `bytes`
over_parts : (buffer bytes : List ℕ) → length bytes ≤ length buffer → bytes ++ drop (length bytes) buffer ≡ over buffer bytes
unfolding over
over_parts [] [] h = refl
over_parts [] (c ∷ bytes) h = absurd (omega arith)
over_parts (b ∷ buffer) [] h = refl
over_parts (b ∷ buffer) (c ∷ bytes) h = ap (λ (l : List ℕ). c ∷ l) (over_parts buffer bytes (omega arith))

pub splice_parts : (buffer : List ℕ) (at : ℕ) (bytes : List ℕ) → at + length bytes ≤ length buffer → take at buffer ++ (bytes ++ drop (at + length bytes) buffer) ≡ splice buffer at bytes
unfolding splice
splice_parts buffer zero bytes h = rw (zero-add (length bytes)) (over_parts buffer bytes (omega arith))
splice_parts [] (suc at) bytes h = absurd (omega arith)
splice_parts (b ∷ buffer) (suc at) bytes h = rw (suc-add at (length bytes)) (ap (λ (l : List ℕ). b ∷ l) (splice_parts buffer at bytes (omega arith)))

pub put_back : (buffer bytes : List ℕ) (at many : ℕ) → length bytes ≡ many → at + many ≤ length buffer → put_mid at many buffer bytes ≡ splice buffer at bytes
put_back buffer bytes at many e h = rw (drop-drop many at buffer, sym e) (splice_parts buffer at bytes (omega arith))

-- a part that is laid back with bytes laid over it: those bytes, laid over the buffer
over_own : (buffer : List ℕ) (many : ℕ) → over buffer (take many buffer) ≡ buffer
unfolding over
over_own [] many = refl
over_own (b ∷ buffer) zero = refl
over_own (b ∷ buffer) (suc many) = ap (λ (l : List ℕ). b ∷ l) (over_own buffer many)

over_part : (buffer : List ℕ) (many i : ℕ) (bytes : List ℕ) → i + length bytes ≤ many → over buffer (splice (take many buffer) i bytes) ≡ splice buffer i bytes
unfolding over splice
over_part [] many zero bytes h = refl
over_part [] many (suc i) bytes h = refl
over_part (b ∷ buffer) zero zero [] h = refl
over_part (b ∷ buffer) zero zero (c ∷ bytes) h = absurd (omega arith)
over_part (b ∷ buffer) zero (suc i) bytes h = absurd (omega arith)
over_part (b ∷ buffer) (suc many) zero [] h = ap (λ (l : List ℕ). b ∷ l) (over_own buffer many)
over_part (b ∷ buffer) (suc many) zero (c ∷ bytes) h = ap (λ (l : List ℕ). c ∷ l) (over_part buffer many zero bytes (omega arith))
over_part (b ∷ buffer) (suc many) (suc i) bytes h = ap (λ (l : List ℕ). b ∷ l) (over_part buffer many i bytes (omega arith))

pub splice-part : (buffer : List ℕ) (at many i : ℕ) (bytes : List ℕ) → i + length bytes ≤ many → splice buffer at (splice (part buffer at many) i bytes) ≡ splice buffer (at + i) bytes
unfolding splice
splice-part buffer zero many i bytes h = rw (zero-add i) (over_part buffer many i bytes h)
splice-part [] (suc at) many i bytes h = rw (suc-add at i)
splice-part (b ∷ buffer) (suc at) many i bytes h = rw (suc-add at i) (ap (λ (l : List ℕ). b ∷ l) (splice-part buffer at many i bytes h))

-- one byte
pub set-splice : (buffer : List ℕ) (at value : ℕ) → set buffer at value ≡ splice buffer at (value ∷ [])
unfolding splice over
set-splice [] zero value = refl
set-splice [] (suc at) value = refl
set-splice (b ∷ buffer) zero value = ap (λ (l : List ℕ). value ∷ l) (sym (over_none buffer))
set-splice (b ∷ buffer) (suc at) value = ap (λ (l : List ℕ). b ∷ l) (set-splice buffer at value)

-- one more of the bytes that are laid one after the other
pub splice_more : (buffer : List ℕ) (at : ℕ) (bytes : List ℕ) (i : ℕ) → i < length bytes → set (splice buffer at (take i bytes)) (at + i) (byte_at bytes i) ≡ splice buffer at (take (i + 1) bytes)
splice_more buffer at bytes i h =
    let so_far = length-take-le i bytes (omega arith) in
    set-splice (splice buffer at (take i bytes)) (at + i) (byte_at bytes i)
    ∙ ap (λ (n : ℕ). splice (splice buffer at (take i bytes)) (at + n) (byte_at bytes i ∷ [])) (sym so_far)
    ∙ splice_append buffer at (take i bytes) (byte_at bytes i ∷ [])
    ∙ rw (add-one, take-suc bytes i 0 h)

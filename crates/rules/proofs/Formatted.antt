-- What formatting lays down. Lists laid end to end, over a buffer and read as sectors; a sector of zeros as an index; the lengths of a new label and a map; and what
-- sectors 0 and 1 of a formatted volume are.
use mathlib.Core.Path.{◌≡◌, refl, sym, ap, ◌∙◌}
use mathlib.Core.List.{List, [], ◌∷◌, ◌++◌, append_assoc}
use Prim.Native.Nat.{ℕ, zero, suc, ◌+◌, ◌-◌, ◌*◌, ◌≤◌}
use native.Mathlib.Omega.{arith}
use lib.ListN.{length, drop, replicate, length-append, length-replicate}
use lib.Seq.{take_at, drop_at, drop-drop}
use borrow.Rule.Slice.PartMut.{put_mid}
use Rattle.rules.specs.Bytes.{byte_at, splice}
use Rattle.rules.specs.Sectors.{sector_of}
use Rattle.rules.specs.Map.{count, taken, map_of}
use Rattle.rules.specs.Index.{numbers, IsIndex}
use Rattle.rules.specs.Verdict.{held_twice}
use Rattle.rules.specs.Calls.Format.{Geometry, new_label, formatted}
use Rattle.rules.proofs.Splice.{splice-length, splice_append, splice_parts, put_back}
use Rattle.rules.proofs.Map.{bytes_length}
use Rattle.rules.proofs.Verdict.{held_once}

-- bytes laid at the front, and then others right behind them
pub laid_front : (buffer bytes : List ℕ) → length bytes ≤ length buffer → splice buffer 0 bytes ≡ bytes ++ drop (length bytes) buffer
laid_front buffer bytes h =
    let z : 0 + length bytes ≡ length bytes = omega arith in
    sym (rw z at (splice_parts buffer 0 bytes (omega arith)))

pub laid_next : (buffer first second : List ℕ) (at : ℕ) → length first ≡ at → splice (splice buffer 0 first) at second ≡ splice buffer 0 (first ++ second)
laid_next buffer first second at e =
    let z : 0 + length first ≡ at = omega arith in
    rw z at (splice_append buffer 0 first second)

-- the same where the part for the others was lent, and came back as those
pub put_next : (buffer laid first second : List ℕ) (at many : ℕ) → laid ≡ splice buffer 0 first → length first ≡ at → length second ≡ many → at + many ≤ length buffer
    → put_mid at many laid second ≡ splice buffer 0 (first ++ second)
put_next buffer laid first second at many is e f room =
    let kept = ap length is ∙ splice-length buffer 0 first in
    put_back laid second at many f (omega arith) ∙ rw is (laid_next buffer first second at e)

-- an image that begins with a sector: that sector, and those after it
pub sector_here : (sector rest : List ℕ) → length sector ≡ 256 → sector_of (sector ++ rest) 0 ≡ sector
unfolding sector_of
sector_here sector rest e = take_at sector rest 256 e

pub sector_later : (sector rest : List ℕ) (k : ℕ) → length sector ≡ 256 → sector_of (sector ++ rest) (k + 1) ≡ sector_of rest k
unfolding sector_of
sector_later sector rest k e =
    let z : 256 + 256 * k ≡ 256 * (k + 1) = omega arith in
    let past = drop-drop (256 * k) 256 (sector ++ rest) in
    rw (← z, ← past, drop_at sector rest 256 e)

-- zeros hold no numbers
zero_byte : (m i : ℕ) → byte_at (replicate m 0) i ≡ 0
zero_byte zero i = refl
zero_byte (suc m) zero = refl
zero_byte (suc m) (suc i) = zero_byte m i

zero_numbers : (m : ℕ) → numbers (replicate m 0) ≡ []
unfolding numbers
zero_numbers zero = refl
zero_numbers (suc zero) = refl
zero_numbers (suc (suc m)) = refl

pub zero_index : (n m : ℕ) → IsIndex n (replicate m 0)
zero_index n m = record { range = rw (zero_numbers m) (λ p h. absurd (omega arith)); few = rw (zero_numbers m) (omega arith); rest = λ i h. zero_byte m i }

-- sectors 0 and 1 are held once each
pub system_once : (k : ℕ) → count k (0 ∷ (1 ∷ [])) ≤ 1
unfolding held_twice count
system_once = held_once (0 ∷ (1 ∷ [])) refl

pub map_length : (n : ℕ) (holders : List ℕ) → length (map_of n holders) ≡ 200
unfolding map_of
map_length n holders = bytes_length (taken n holders) 200 0

-- a formatted volume, of a name of ten bytes
module _ (n : ℕ) (name : List ℕ) (g : Geometry) (ten : length name ≡ 10) where
  pub label_length : length (new_label n name g) ≡ 56
  unfolding new_label
  label_length = length-append name _ ∙ omega arith

  pub sector0_length : length (new_label n name g ++ map_of n (0 ∷ (1 ∷ []))) ≡ 256
  sector0_length = length-append (new_label n name g) (map_of n (0 ∷ (1 ∷ []))) ∙ omega (arith, label_length, map_length n (0 ∷ (1 ∷ [])))

  -- its three parts
  pub formatted_parts : formatted n name g ≡ (new_label n name g ++ map_of n (0 ∷ (1 ∷ []))) ++ (replicate 256 0 ++ replicate (256 * (n - 2)) 0xE5)
  unfolding formatted
  formatted_parts = sym (append_assoc (new_label n name g) (map_of n (0 ∷ (1 ∷ []))) (replicate 256 0 ++ replicate (256 * (n - 2)) 0xE5))

  pub formatted-length : 2 ≤ n → length (formatted n name g) ≡ 256 * n
  formatted-length h =
      let rest : length {A = ℕ} (replicate 256 0 ++ replicate (256 * (n - 2)) 0xE5) ≡ 256 + 256 * (n - 2) =
      length-append (replicate 256 0) (replicate (256 * (n - 2)) 0xE5) ∙ ap (λ (m : ℕ). 256 + m) (length-replicate (256 * (n - 2)) 0xE5)
      in
      ap length formatted_parts ∙ length-append (new_label n name g ++ map_of n (0 ∷ (1 ∷ []))) (replicate 256 0 ++ replicate (256 * (n - 2)) 0xE5) ∙ omega (arith, sector0_length, rest)

  pub formatted_sector0 : sector_of (formatted n name g) 0 ≡ new_label n name g ++ map_of n (0 ∷ (1 ∷ []))
  formatted_sector0 = rw formatted_parts (sector_here (new_label n name g ++ map_of n (0 ∷ (1 ∷ []))) (replicate 256 0 ++ replicate (256 * (n - 2)) 0xE5) sector0_length)

  pub formatted_sector1 : sector_of (formatted n name g) 1 ≡ replicate 256 0
  formatted_sector1 =
      rw formatted_parts
      (sector_later (new_label n name g ++ map_of n (0 ∷ (1 ∷ []))) (replicate 256 0 ++ replicate (256 * (n - 2)) 0xE5) 0 sector0_length
      ∙ sector_here (replicate 256 0) (replicate (256 * (n - 2)) 0xE5) refl)

-- A sector that the image has is 256 bytes long, and its bytes are the image's, so that equal sectors make equal images; a change of its bytes, the whole sector then written, is that change of the image's bytes.
use mathlib.Core.Path.{◌≡◌, sym, ap, ◌∙◌}
use mathlib.Core.List.{List, [], ◌∷◌}
use Prim.Native.Nat.{ℕ, ◌+◌, ◌*◌, ◌/◌, ◌%◌, ◌≤◌, ◌<◌}
use native.Mathlib.Omega.{arith}
use lib.ListN.{length, set}
use lib.Seq.{ext_get_or}
use Rattle.rules.specs.Bytes.{byte_at, word_at, splice}
use Rattle.rules.specs.Sectors.{sector_of, sector_count}
use Rattle.rules.proofs.Bytes.{part_short, part_length, part_at, part_below}
use Rattle.rules.proofs.Splice.{splice-part, set-splice}

pub sector_length : (image : List ℕ) (k : ℕ) → 256 * k + 256 ≤ length image → length (sector_of image k) ≡ 256
unfolding sector_of
sector_length image k h = part_length image (256 * k) 256 h

pub sector_short : (image : List ℕ) (k : ℕ) → length (sector_of image k) ≤ 256
unfolding sector_of
sector_short image k = part_short image (256 * k) 256

pub sector_below : (image : List ℕ) (k limit : ℕ) → 0 < limit → ((i : ℕ) → byte_at image i < limit) → (i : ℕ) → byte_at (sector_of image k) i < limit
unfolding sector_of
sector_below image k limit some below = part_below image (256 * k) 256 limit some below

module _ (image : List ℕ) (k : ℕ) where
  pub sector_byte : (i : ℕ) → i < 256 → byte_at (sector_of image k) i ≡ byte_at image (256 * k + i)
  unfolding sector_of
  sector_byte i h = part_at image (256 * k) 256 i h

  pub sector_word : (i : ℕ) → i + 1 < 256 → word_at (sector_of image k) i ≡ word_at image (256 * k + i)
  sector_word i h =
      let e : 256 * k + (i + 1) ≡ 256 * k + i + 1 = omega arith in
      let low = rw e at (sector_byte (i + 1) h) in
      omega (arith, sector_byte i (omega arith), low)

  pub sector_set : (i value : ℕ) → i < 256 → splice image (256 * k) (set (sector_of image k) i value) ≡ set image (256 * k + i) value
  unfolding sector_of
  sector_set i value h =
      ap (splice image (256 * k)) (set-splice (sector_of image k) i value)
      ∙ splice-part image (256 * k) 256 i (value ∷ []) (omega arith)
      ∙ sym (set-splice image (256 * k + i) value)

-- two images of one length, a whole number of sectors, whose sectors are equal
pub image_same : (a b : List ℕ) → length a ≡ length b → length a ≡ 256 * sector_count a → ((j : ℕ) → j < sector_count a → sector_of a j ≡ sector_of b j) → a ≡ b
image_same a b long whole same =
    ext_get_or 0 a b long
    (λ i h.
    let e : 256 * (i / 256) + i % 256 ≡ i = omega arith in
    let low : i % 256 < 256 = omega arith in
    let byte =
    sym (sector_byte a (i / 256) (i % 256) low) ∙ ap (λ (s : List ℕ). byte_at s (i % 256)) (same (i / 256) (omega (arith, h, whole))) ∙ sector_byte b (i / 256) (i % 256) low
    in
    rw e at byte)

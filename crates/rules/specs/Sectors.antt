-- An image is its bytes; a sector of it is a reading, a write of a whole sector is laid over it.
use Rattle.std.specs.Prelude.{◌≡◌, List, [], ◌∷◌, ◌++◌, ℕ, ◌+◌, ◌*◌, ◌/◌, ◌≤◌, length}
use Rattle.rules.specs.Bytes.{part, splice}

unfoldable pub sector_of : List ℕ → ℕ → List ℕ
sector_of image k = part image (256 * k) 256

-- n: how many sectors an image has
abbrev pub sector_count : List ℕ → ℕ
sector_count image = length image / 256

-- sectors laid end to end
unfoldable pub joined : List (List ℕ) → List ℕ
joined [] = []
joined (sector ∷ sectors) = sector ++ joined sectors

-- a sector and the 256 bytes that it is to hold
pub record Write : Type 0 where
  pub sector : ℕ
  pub bytes : List ℕ

-- they are whole sectors of an image of that size
unfoldable pub Whole : ℕ → List Write → Type 0
Whole size [] = Unit {0}
Whole size (write ∷ writes) = (length write.bytes ≡ 256) × (256 * write.sector + 256 ≤ size) × Whole size writes

-- the sectors that they go to, in their order
unfoldable pub sectors_in : List Write → List ℕ
sectors_in [] = []
sectors_in (write ∷ writes) = write.sector ∷ sectors_in writes

-- sectors of an image as writes, in that order: so a host writes them through
unfoldable pub through : List ℕ → List ℕ → List Write
through image [] = []
through image (k ∷ ks) = record { sector = k; bytes = sector_of image k } ∷ through image ks

-- the writes laid over an image, one after the other
unfoldable pub written : List ℕ → List Write → List ℕ
written image [] = image
written image (write ∷ writes) = written (splice image (256 * write.sector) write.bytes) writes

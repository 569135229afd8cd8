-- The lengths of programs: a program's sectors and end offset go by its length alone, and its length by them.
use Rattle.std.specs.Prelude.{◌≡◌, List, ℕ, ◌+◌, ◌*◌, ◌%◌, ◌≤◌, ◌<◌, length}
use Rattle.rules.specs.Bytes.{byte_at, bit_of}
use Rattle.rules.specs.Volume.{File, index_at, catalogue}
use Rattle.rules.specs.Sound.{IsIndexed, Sound}
use Rattle.rules.specs.declared.Layout.{Layout}
use Rattle.demands.specs.Catalogue.{file_of, named, length_is}
use Rattle.demands.specs.Call as call
use Rattle.demands.specs.Call.{Version, number_of}
use Rattle.demands.specs.Demand2.{Demand2}

-- a program of so many bytes: its sectors have room for them and one less would not, byte 16 is the rest, and that length is read of it
pub record OfLength (file : File) (size : ℕ) : Type 0 where
  pub enough : size ≤ 256 * length file.contents
  pub needed : 256 * length file.contents < size + 256
  pub end_offset : byte_at file.header 16 ≡ size % 256
  pub long : length_is file ≡ size

-- what was stored is a program of as many bytes as were lent, in every version that meets demand 2
unfoldable pub StoredLength : Layout → Type 0
StoredLength layout = (version : Version) → Demand2 layout version → (directory : ℕ) (name bytes image : List ℕ) → Sound layout image →
    let c = call.change directory name (call.store bytes) in
    number_of version c image ≡ 0 → OfLength (named name (catalogue (version c image).image (index_at layout image directory))) (length bytes)

-- and so is every program of a sound volume of bytes, whoever stored it: one of as many bytes as its length
unfoldable pub EveryLength : Layout → Type 0
EveryLength layout = (image : List ℕ) → Sound layout image → ((i : ℕ) → byte_at image i < 256) → (i : ℕ) → IsIndexed layout image i → (p : ℕ) → p < length (catalogue image i) →
    let file = file_of image i p in
    bit_of (byte_at file.header 12) 0 ≡ 1 → OfLength file (length_is file)

-- so two programs have equal lengths exactly if they have as many sectors and the same end offset
unfoldable pub LengthAlone : Type 0
LengthAlone = (file file' : File) (size size' : ℕ) → OfLength file size → OfLength file' size' →
    (size ≡ size' → (length file.contents ≡ length file'.contents) × (byte_at file.header 16 ≡ byte_at file'.header 16))
    × (length file.contents ≡ length file'.contents → byte_at file.header 16 ≡ byte_at file'.header 16 → size ≡ size')

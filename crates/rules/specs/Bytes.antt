-- Readings of bytes. Each is total: past the end of a list stand zeros, and a part is as long as what is there.
use Rattle.std.specs.Prelude.{Bool, true, false, ◌&&◌, List, [], ◌∷◌, ℕ, zero, suc, ◌+◌, ◌-◌, ◌*◌, ◌/◌, ◌%◌, ◌^◌, eqb, take, drop, get_or}

abbrev pub byte_at : List ℕ → ℕ → ℕ
byte_at bytes i = get_or bytes i 0

-- a two-byte number, high byte first
abbrev pub word_at : List ℕ → ℕ → ℕ
word_at bytes i = 256 * byte_at bytes i + byte_at bytes (i + 1)

abbrev pub word_bytes : ℕ → List ℕ
word_bytes number = (number / 256) ∷ ((number % 256) ∷ [])

-- bit j of a byte, the lowest is bit 0
abbrev pub bit_of : ℕ → ℕ → ℕ
bit_of byte j = byte / 2 ^ j % 2

-- the byte with its bit j made `bit`
unfoldable pub with_bit : ℕ → ℕ → ℕ → ℕ
with_bit byte j bit = byte - bit_of byte j * 2 ^ j + bit * 2 ^ j

-- `count` bytes from byte `from` on
abbrev pub part : List ℕ → ℕ → ℕ → List ℕ
part bytes from count = take count (drop from bytes)

unfoldable pub all_are : ℕ → List ℕ → Bool
all_are value [] = true
all_are value (b ∷ bytes) = eqb b value && all_are value bytes

unfoldable pub same : List ℕ → List ℕ → Bool
same [] [] = true
same [] (b ∷ second) = false
same (a ∷ first) [] = false
same (a ∷ first) (b ∷ second) = eqb a b && same first second

-- `bytes` laid over the buffer from byte `at` on; what would stand past its end is left out, so its length stays
unfoldable pub over : List ℕ → List ℕ → List ℕ
over [] bytes = []
over (b ∷ buffer) [] = b ∷ buffer
over (b ∷ buffer) (c ∷ bytes) = c ∷ over buffer bytes

unfoldable pub splice : List ℕ → ℕ → List ℕ → List ℕ
splice buffer zero bytes = over buffer bytes
splice [] (suc at) bytes = []
splice (b ∷ buffer) (suc at) bytes = b ∷ splice buffer at bytes

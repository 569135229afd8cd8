-- The map, bytes 56 to 255 of sector 0: sector k is bit k mod 8, lowest bit first, of byte 56 + k/8 rounded down; one means taken. Bits for k from n to 1,599 are one.
use Rattle.std.specs.Prelude.{Bool, true, cond, ◌&&◌, List, [], ◌∷◌, ℕ, zero, suc, ◌+◌, ◌*◌, ◌/◌, ◌%◌, eqb, ltb, set}
use Rattle.rules.specs.Bytes.{byte_at, bit_of, with_bit}

unfoldable pub map_bit : List ℕ → ℕ → ℕ
map_bit sector0 k = bit_of (byte_at sector0 (56 + k / 8)) (k % 8)

-- how often sector k stands among the holders
unfoldable pub count : ℕ → List ℕ → ℕ
count k [] = 0
count k (h ∷ holders) = cond (eqb h k) 1 0 + count k holders

-- what bit k is to be on a volume of n sectors
unfoldable pub taken : ℕ → List ℕ → ℕ → ℕ
taken n holders k = cond (ltb k n) (count k holders) 1

-- the map's bits from bit k on, `many` of them, are those that `bit` gives
unfoldable pub bits_rule : (ℕ → ℕ) → List ℕ → ℕ → ℕ → Bool
bits_rule bit sector0 zero k = true
bits_rule bit sector0 (suc many) k = eqb (map_bit sector0 k) (bit k) && bits_rule bit sector0 many (k + 1)

unfoldable pub map_rule : ℕ → List ℕ → List ℕ → Bool
map_rule n holders sector0 = bits_rule (taken n holders) sector0 1600 0

-- the byte whose eight bits are those that `bit` gives from k on
unfoldable pub byte_of : (ℕ → ℕ) → ℕ → ℕ
byte_of bit k =
    bit k + 2 * bit (k + 1) + 4 * bit (k + 2) + 8 * bit (k + 3) + 16 * bit (k + 4) + 32 * bit (k + 5) + 64 * bit (k + 6) + 128 * bit (k + 7)

unfoldable pub bytes_of : (ℕ → ℕ) → ℕ → ℕ → List ℕ
bytes_of bit zero k = []
bytes_of bit (suc many) k = byte_of bit k ∷ bytes_of bit many (k + 8)

-- the 200 bytes of the map of a set of holders, each in it once, on a volume of n sectors
unfoldable pub map_of : ℕ → List ℕ → List ℕ
map_of n holders = bytes_of (taken n holders) 200 0

-- the free count: the zero bits of the map
unfoldable pub zero_bits : List ℕ → ℕ → ℕ → ℕ
zero_bits sector0 zero k = 0
zero_bits sector0 (suc many) k = cond (eqb (map_bit sector0 k) 0) 1 0 + zero_bits sector0 many (k + 1)

unfoldable pub free_count : List ℕ → ℕ
free_count sector0 = zero_bits sector0 1600 0

-- sector 0 with the bit of sector k made `bit`
unfoldable pub marked : ℕ → List ℕ → ℕ → List ℕ
marked bit sector0 k = set sector0 (56 + k / 8) (with_bit (byte_at sector0 (56 + k / 8)) (k % 8) bit)

unfoldable pub marked_all : ℕ → List ℕ → List ℕ → List ℕ
marked_all bit sector0 [] = sector0
marked_all bit sector0 (k ∷ ks) = marked_all bit (marked bit sector0 k) ks

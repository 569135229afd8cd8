-- The sum of bytes: the bytes as one number, high byte first and a one in front of them, modulo a prime.
use Rattle.std.specs.Prelude.{List, [], ◌∷◌, ℕ, ◌+◌, ◌*◌, ◌%◌}

-- the largest prime below 72,000,000,000,000,000
abbrev pub prime : ℕ
prime = 71999999999999857

-- the sum of bytes whose front has this one
unfoldable pub sum_from : ℕ → List ℕ → ℕ
sum_from sum [] = sum
sum_from sum (b ∷ bytes) = sum_from ((sum * 256 + b) % prime) bytes

-- the one in front, so that zeros in front count
abbrev pub sum_of : List ℕ → ℕ
sum_of bytes = sum_from 1 bytes

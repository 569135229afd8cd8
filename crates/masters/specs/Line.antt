-- What is written for an image: its mark, what its packed form says, and the image.
use Rattle.std.specs.Prelude.{ℕ, ◌+◌, ◌/◌, ◌%◌, cond, List, [], ◌∷◌, ◌++◌, nat_lt}
use Rattle.rules.specs.Calls.Listing.{decimal}
use Rattle.line.specs.Letters.{letters}
use Rattle.masters.specs.Master.{Master, Packed, Refused, Unread}
use Rattle.masters.specs.declared.Middle.{Middle}
use Rattle.masters.specs.declared.Middle.TheVariants.{Nothing, Place, Sum}

-- the number as a digit, or `-` where there was no image; packing is refused with 1 to 6 and no other number
unfoldable pub mark_of : Master → ℕ
mark_of (Packed count) = 0x30
mark_of (Refused number) = cond (nat_lt 6 number) 0x2D (0x30 + number)
mark_of Unread = 0x2D

-- the hexadecimal digit that counts units of so many: `0` to `9`, then `a` to `f`
unfoldable pub hex_digit : ℕ → ℕ → ℕ
hex_digit sum unit = cond (nat_lt (sum / unit % 16) 10) (48 + sum / unit % 16) (87 + sum / unit % 16)

-- sixteen of them, then a space
unfoldable pub sum_text : ℕ → List ℕ
sum_text sum =
    hex_digit sum 0x1000000000000000
    ∷ (hex_digit sum 0x100000000000000
    ∷ (hex_digit sum 0x10000000000000
    ∷ (hex_digit sum 0x1000000000000
    ∷ (hex_digit sum 0x100000000000
    ∷ (hex_digit sum 0x10000000000
    ∷ (hex_digit sum 0x1000000000
    ∷ (hex_digit sum 0x100000000
    ∷ (hex_digit sum 0x10000000
    ∷ (hex_digit sum 0x1000000
    ∷ (hex_digit sum 0x100000
    ∷ (hex_digit sum 0x10000
    ∷ (hex_digit sum 0x1000
    ∷ (hex_digit sum 0x100
    ∷ (hex_digit sum 0x10
    ∷ (hex_digit sum 0x1
    ∷ (32 ∷ []))))))))))))))))

unfoldable pub middle_of : Middle → List ℕ
middle_of Nothing = letters "- "
middle_of (Place place) = decimal place ++ (32 ∷ [])
middle_of (Sum sum) = sum_text sum

unfoldable pub line_of : ℕ → Middle → List ℕ → List ℕ
line_of mark middle path = (mark ∷ (32 ∷ [])) ++ (middle_of middle ++ (path ++ (10 ∷ [])))

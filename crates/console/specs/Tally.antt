-- The last line of a run: how many images there were, how many were sound, how many had each number, how many were not read. A number that no image had is left out.
use Rattle.std.specs.Prelude.{cond, List, [], ◌∷◌, ◌++◌, ℕ, ◌+◌, ◌-◌, eqb, ltb, set}
use Rattle.std.specs.List.{sum_by}
use Rattle.rules.specs.Bytes.{byte_at}
use Rattle.rules.specs.Calls.Listing.{decimal}
use Rattle.line.specs.Letters.{letters}

-- the eight counts: at 0 the sound images, at 1 to 6 those of that number, at 7 the unread ones
unfoldable pub place_of : ℕ → ℕ
place_of mark = cond (ltb mark 0x30) 7 (cond (ltb 0x36 mark) 7 (mark - 0x30))

-- one more, up to the most that a usize holds
unfoldable pub more : ℕ → ℕ
more x = cond (ltb x 18446744073709551615) (x + 1) x

unfoldable pub counted : List ℕ → ℕ → List ℕ
counted tally mark = set tally (place_of mark) (more (byte_at tally (place_of mark)))

-- how many images were counted
abbrev pub images_in : List ℕ → ℕ
images_in tally = sum_by (λ count. count) tally

-- ", 9 of number 6"
unfoldable pub count_text : ℕ → List ℕ → List ℕ
count_text count words = cond (eqb count 0) [] (letters ", " ++ ((decimal count ++ (32 ∷ [])) ++ words))

unfoldable pub numbers_text : List ℕ → List ℕ
numbers_text tally =
    count_text (byte_at tally 1) (letters "of number 1")
    ++ (count_text (byte_at tally 2) (letters "of number 2")
    ++ (count_text (byte_at tally 3) (letters "of number 3")
    ++ (count_text (byte_at tally 4) (letters "of number 4")
    ++ (count_text (byte_at tally 5) (letters "of number 5")
    ++ count_text (byte_at tally 6) (letters "of number 6")))))

unfoldable pub images_text : ℕ → List ℕ
images_text images = cond (eqb images 1) (letters "image: ") (letters "images: ")

-- "412 images: 398 sound"
unfoldable pub sound_text : ℕ → ℕ → List ℕ
sound_text images sound = (decimal images ++ (32 ∷ [])) ++ (images_text images ++ ((decimal sound ++ (32 ∷ [])) ++ letters "sound"))

-- "412 images: 398 sound, 9 of number 6, 5 unread"
unfoldable pub tally_text : ℕ → List ℕ → List ℕ
tally_text images tally = sound_text images (byte_at tally 0) ++ (numbers_text tally ++ (count_text (byte_at tally 7) (letters "unread") ++ (10 ∷ [])))

-- The listing's text: numbers in decimal, names without their padding, and how long the text of a sound volume can get.
use mathlib.Core.Path.{◌≡◌, refl, sym, ap, ◌∙◌}
use mathlib.Core.Bool.{Bool, true, false, cond}
use mathlib.Core.List.{List, [], ◌∷◌, ◌++◌}
use Prim.Native.Nat.{ℕ, zero, suc, ◌+◌, ◌*◌, ◌/◌, ◌%◌, ◌^◌, ◌≤◌, ◌<◌}
use native.Mathlib.Omega.{arith}
use native.Mathlib.Decide.{dec_lt}
use lib.Dec.{eqb, ltb}
use lib.ListN.{length, get_or, length-append}
use borrow.Author.Tests.{eq-eqb, ne_eqb, lt-ltb, le-ltb}
use Rattle.rules.specs.Bytes.{byte_at, part}
use Rattle.rules.specs.Sectors.{sector_of, sector_count}
use Rattle.rules.specs.Kind.{is_program, is_internal, is_variable, program_length, kind_of}
use Rattle.rules.specs.Map.{map_bit, zero_bits, free_count}
use Rattle.rules.specs.Descriptor.{name_of, status_of, sectors_of, file_kind}
use Rattle.rules.specs.Volume.{index_at, files_in}
use Rattle.rules.specs.Verdict.{verdict}
use Rattle.rules.specs.Sound.{IsIndexed}
use Rattle.rules.specs.Tests.{Test, refuse, first_of}
use Rattle.rules.specs.Outcome.{gives, refuses}
use Rattle.rules.specs.Calls.Listing.{digits, decimal, unpadded, kind_word, kind_length, disk_line, mark_field, file_line, file_lines, listing_text, listing_tests, listing_of}
use Rattle.rules.specs.declared.Layout.{Layout}
use Rattle.rules.specs.declared.Kind.{Kind}
use Rattle.rules.specs.declared.Kind.TheVariants.{Program, Fixed, Variable}
use Rattle.rules.proofs.Tests.{by_rule}
use Rattle.rules.proofs.Bytes.{part_short}
use Rattle.rules.proofs.Sectors.{sector_below}
use Rattle.rules.proofs.Length.{length_most}
use Rattle.rules.proofs.Verdict.{sound, unsound_first, sound_first}
use Rattle.rules.proofs.Extended.{sectors_few}
use Rattle.rules.proofs.Outcome.{reported_refused, reported_given}

-- digits: one, or those of the tenth part and one more
pub digits_one : (fuel x : ℕ) → x < 10 → digits (suc fuel) x ≡ (48 + x) ∷ []
unfolding digits
digits_one fuel x h = rw (lt-ltb x 10 h)

pub digits_more : (fuel x : ℕ) → 10 ≤ x → digits (suc fuel) x ≡ digits fuel (x / 10) ++ ((48 + x % 10) ∷ [])
unfolding digits
digits_more fuel x h = rw (le-ltb x 10 h)

-- a number below ten to the d has at most d of them
pub tenth_below : (d x : ℕ) → x < 10 ^ suc d → x / 10 < 10 ^ d
tenth_below d x h = omega arith

digits_short : (fuel d x : ℕ) → x < 10 ^ suc d → length (digits fuel x) ≤ suc d
unfolding digits
digits_short zero d x h = omega arith
digits_short (suc fuel) zero x h = rw (lt-ltb x 10 (omega arith)) (omega arith)
digits_short (suc fuel) (suc d) x h =
    elim (dec_lt x 10) [
      | yes one ↦ rw (lt-ltb x 10 one) (omega arith)
      | no more ↦ rw (le-ltb x 10 (omega arith), length-append) (omega (arith, digits_short fuel d (x / 10) (tenth_below (suc d) x h)))
    ]

pub decimal_short : (d x : ℕ) → x < 10 ^ suc d → length (decimal x) ≤ suc d
unfolding decimal
decimal_short d x h = digits_short (suc x) d x h

-- where the fuel is enough, more of it gives the same digits
digits_same : (d fuel x : ℕ) → x < 10 ^ suc d → x ≤ fuel → digits (suc d) x ≡ digits (suc fuel) x
digits_same zero fuel x h enough =
    let one : x < 10 = omega arith in
    digits_one zero x one ∙ sym (digits_one fuel x one)
digits_same (suc d) zero x h enough =
    let one : x < 10 = omega arith in
    digits_one (suc d) x one ∙ sym (digits_one zero x one)
digits_same (suc d) (suc fuel) x h enough =
    elim (dec_lt x 10) [
      | yes one ↦ digits_one (suc d) x one ∙ sym (digits_one (suc fuel) x one)
      | no more ↦
          let tenth = digits_same d fuel (x / 10) (tenth_below (suc d) x h) (omega arith) in
          digits_more (suc d) x (omega arith) ∙ ap (λ (l : List ℕ). l ++ ((48 + x % 10) ∷ [])) tenth ∙ sym (digits_more (suc fuel) x (omega arith))
    ]

pub digits_decimal : (d x : ℕ) → x < 10 ^ suc d → digits (suc d) x ≡ decimal x
unfolding decimal
digits_decimal d x h = digits_same d x x h (omega arith)

-- a name is no longer without its padding
pub unpadded_short : (name : List ℕ) → length (unpadded name) ≤ length name
unfolding unpadded
unpadded_short [] = omega arith
unpadded_short (b ∷ name) = test (eqb b 32) (unpadded_short name)
  where
    test : (t : Bool) → length (unpadded name) ≤ length name → length (cond t [] (b ∷ unpadded name)) ≤ length (b ∷ name)
    test true h = omega arith
    test false h = omega arith

-- the map has 1,600 bits
zero_bits_few : (sector0 : List ℕ) (many k : ℕ) → zero_bits sector0 many k ≤ many
unfolding zero_bits
zero_bits_few sector0 zero k = omega arith
zero_bits_few sector0 (suc many) k = test (eqb (map_bit sector0 k) 0) (zero_bits_few sector0 many (k + 1))
  where
    test : (t : Bool) → zero_bits sector0 many (k + 1) ≤ many → cond t 1 0 + zero_bits sector0 many (k + 1) ≤ suc many
    test true h = omega arith
    test false h = omega arith

pub free_few : (sector0 : List ℕ) → free_count sector0 ≤ 1600
unfolding free_count
free_few sector0 = zero_bits_few sector0 1600 0

-- a kind: its word has seven bytes, and its length is below a million where the file has at most 1,600 sectors
kind_word_long : (kind : Kind) → length (kind_word kind) ≡ 7
unfolding kind_word
kind_word_long (Program bytes) = refl
kind_word_long (Fixed record_length true) = refl
kind_word_long (Fixed record_length false) = refl
kind_word_long (Variable record_length true) = refl
kind_word_long (Variable record_length false) = refl

kind_length_below : (status c end_offset record_length : ℕ) → c ≤ 1600 → end_offset < 256 → record_length < 256 → kind_length (kind_of status c end_offset record_length) < 10 ^ 6
unfolding kind_of kind_length
kind_length_below status c end_offset record_length hc he hr = test (is_program status) (is_variable status)
  where
    test : (program variable : Bool)
        → kind_length (cond program (Program (program_length c end_offset)) (cond variable (Variable record_length (is_internal status)) (Fixed record_length (is_internal status)))) < 10 ^ 6
    test true variable = omega (arith, length_most c end_offset he)
    test false true = omega arith
    test false false = omega arith

-- by the rule with marks a last field of two bytes
mark_field_long : (layout : Layout) (status : ℕ) → length (mark_field layout status) ≡ cond layout.marks 2 0
unfolding mark_field
mark_field_long layout status = by_rule (λ layout. length (mark_field layout status) ≡ cond layout.marks 2 0) (λ edition. refl) (λ edition. refl) layout

-- a file's line: 10 + 1 + 7 + 1 + 6 + 1 + 4 + 1 + 1 + 1, and that field
file_line_short : (layout : Layout) (d : List ℕ) → ((i : ℕ) → byte_at d i < 256) → sectors_of d ≤ 1600 → length (file_line layout d) ≤ cond layout.marks 35 33
unfolding file_line name_of file_kind
file_line_short layout d small few =
    let name = unpadded_short (part d 0 10) in
    let ten = part_short d 0 10 in
    let word = kind_word_long (file_kind d) in
    let long = decimal_short 5 (kind_length (file_kind d)) (kind_length_below (status_of d) (sectors_of d) (byte_at d 16) (byte_at d 17) few (small 16) (small 17)) in
    let many = decimal_short 3 (sectors_of d) (omega arith) in
    let without : length (file_line layout d) ≤ 33 + length (mark_field layout (status_of d)) = simp length-append (omega arith) in
    go layout.marks (omega (arith, without, mark_field_long layout (status_of d)))
  where
    go : (t : Bool) → length (file_line layout d) ≤ 33 + cond t 2 0 → length (file_line layout d) ≤ cond t 35 33
    go true h = h
    go false h = h

file_lines_short : (layout : Layout) (image ks : List ℕ) → ((i : ℕ) → byte_at image i < 256) → ((p : ℕ) → p < length ks → sectors_of (sector_of image (get_or ks p 0)) ≤ 1600)
    → length (file_lines layout image ks) ≤ cond layout.marks (35 * length ks) (33 * length ks)
unfolding file_lines
file_lines_short layout image [] small few = none layout.marks
  where
    none : (t : Bool) → 0 ≤ cond t 0 0
    none true = omega arith
    none false = omega arith
file_lines_short layout image (k ∷ ks) small few =
    let line = file_line_short layout (sector_of image k) (sector_below image k 256 (omega arith) small) (few 0 (omega arith)) in
    rw length-append (go layout.marks line (file_lines_short layout image ks small (λ p h. few (suc p) (omega arith))))
  where
    go : (t : Bool) {a b : ℕ} → a ≤ cond t 35 33 → b ≤ cond t (35 * length ks) (33 * length ks) → a + b ≤ cond t (35 * length (k ∷ ks)) (33 * length (k ∷ ks))
    go true h h' = omega arith
    go false h h' = omega arith

-- the disk's line: 10 + 1 + 4 + 1 + 4 + 1
disk_line_short : (image : List ℕ) → sector_count image ≤ 1600 → length (disk_line image) ≤ 21
unfolding disk_line
disk_line_short image size =
    let name = unpadded_short (part (sector_of image 0) 0 10) in
    let ten = part_short (sector_of image 0) 0 10 in
    let n = decimal_short 3 (sector_count image) (omega arith) in
    let free = decimal_short 3 (free_count (sector_of image 0)) (omega (arith, free_few (sector_of image 0))) in
    simp length-append (omega arith)

-- and an index has at most 127 files, each of at most 1,600 sectors
pub listing_short : (layout : Layout) (image : List ℕ) (i : ℕ) → ((b : ℕ) → byte_at image b < 256) → verdict layout image ≡ 0 → IsIndexed layout image i → length (listing_text layout image i) ≤ cond layout.marks 4466 4212
unfolding listing_text files_in
listing_short layout image i small e indexed =
    let is = sound layout image e in
    let lines = file_lines_short layout image (files_in image i) small (λ p h. sectors_few layout image i p is indexed h) in
    rw length-append (go layout.marks (disk_line_short image is.size.1) lines (is.each i indexed).index.few)
  where
    go : (t : Bool) {a b many : ℕ} → a ≤ 21 → b ≤ cond t (35 * many) (33 * many) → many ≤ 127 → a + b ≤ cond t 4466 4212
    go true h h' few = omega arith
    go false h h' few = omega arith

pub listing_room : (layout : Layout) (image : List ℕ) (i : ℕ) → ((b : ℕ) → byte_at image b < 256) → verdict layout image ≡ 0 → IsIndexed layout image i → length (listing_text layout image i) ≤ 4466
listing_room layout image i small e indexed = go layout.marks (listing_short layout image i small e indexed)
  where
    go : (t : Bool) {a : ℕ} → a ≤ cond t 4466 4212 → a ≤ 4466
    go true h = h
    go false h = omega arith

-- the listing of a directory, for a buffer of `room` bytes: of an unsound image, where there is no such directory, where the text is too long, and where it fits
module _ (layout : Layout) (image : List ℕ) (directory room : ℕ) where
  abbrev text : List ℕ
  text = listing_text layout image (index_at layout image directory)

  abbrev further : List Test
  further = refuse 8 (eqb (index_at layout image directory) 0) ∷ (refuse 15 (ltb room (length text)) ∷ [])

  pub listing_unsound : (verdict layout image ≡ 0 → ⊥) → listing_of layout image directory room ≡ refuses (verdict layout image)
  unfolding listing_of listing_tests
  listing_unsound some = reported_refused (listing_tests layout image directory room) _ _ (verdict layout image) some (unsound_first layout image further some)

  pub listing_nowhere : verdict layout image ≡ 0 → index_at layout image directory ≡ 0 → listing_of layout image directory room ≡ refuses 8
  unfolding listing_of listing_tests first_of
  listing_nowhere e none = reported_refused (listing_tests layout image directory room) _ _ 8 (λ z. omega arith) (sound_first layout image further e ∙ rw (eq-eqb (index_at layout image directory) 0 none))

  pub listing_narrow : verdict layout image ≡ 0 → (index_at layout image directory ≡ 0 → ⊥) → room < length text → listing_of layout image directory room ≡ refuses 15
  unfolding listing_of listing_tests first_of
  listing_narrow e some h =
      reported_refused (listing_tests layout image directory room) _ _ 15 (λ z. omega arith)
      (sound_first layout image further e ∙ rw (ne_eqb (index_at layout image directory) 0 some, lt-ltb room (length text) h))

  pub listing_fits : verdict layout image ≡ 0 → (index_at layout image directory ≡ 0 → ⊥) → length text ≤ room → listing_of layout image directory room ≡ gives (length text) text
  unfolding listing_of listing_tests first_of
  listing_fits e some h =
      reported_given (listing_tests layout image directory room) _ _ (sound_first layout image further e ∙ rw (ne_eqb (index_at layout image directory) 0 some, le-ltb room (length text) h))

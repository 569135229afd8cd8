-- The listing is the paper's lines. A number has one decimal word, since the length of a word and then each digit follow from its value; a name has one word without its padding; so the facts fix the text.
use mathlib.Core.Path.{◌≡◌, refl, sym, ap, ◌∙◌}
use mathlib.Core.Bool.{Bool, true, false, cond}
use mathlib.Core.List.{List, [], ◌∷◌, ◌++◌, map}
use Prim.Native.Nat.{ℕ, zero, suc, ◌+◌, ◌-◌, ◌*◌, ◌/◌, ◌%◌, ◌^◌, ◌≤◌, ◌<◌}
use native.Mathlib.Omega.{arith}
use native.Mathlib.Nat.{pow-le-pow_right}
use native.Mathlib.Decide.{dec_lt, ℕ_discrete}
use lib.ListN.{length, get_or, replicate, length-append, length-map, get_or-append}
use lib.Seq.{get_or-append_seam, ext_get_or}
use borrow.Author.Tests.{eq-eqb, ne_eqb}
use Rattle.rules.specs.Bytes.{byte_at, bit_of, part}
use Rattle.rules.specs.Sectors.{sector_of, sector_count, joined}
use Rattle.rules.specs.Name.{IsName}
use Rattle.rules.specs.Kind.{is_protected, is_marked}
use Rattle.rules.specs.Map.{free_count}
use Rattle.rules.specs.Descriptor.{name_of, status_of, sectors_of, file_kind, IsDescriptor}
use Rattle.rules.specs.Volume.{File, files_in, name_in, file_in, catalogue}
use Rattle.rules.specs.Sound.{file_at, IsIndexed, Sound}
use Rattle.rules.specs.Calls.Listing.{digits, decimal, unpadded, kind_word, kind_length, disk_line, mark_field, file_line, file_lines, listing_text}
use Rattle.rules.specs.declared.Layout.{Layout}
use Rattle.rules.specs.declared.Kind.{Kind}
use Rattle.rules.specs.declared.Kind.TheVariants.{Program, Fixed, Variable}
use Rattle.rules.proofs.Tests.{by_rule}
use Rattle.rules.proofs.Bytes.{at_replicate}
use Rattle.rules.proofs.Volume.{get_mapped, contents_count, header_at, header_name}
use Rattle.rules.proofs.Listing.{digits_one, digits_more}
use Rattle.rules.proofs.Free.{free_holders}
use Rattle.demands.specs.Catalogue.{file_name, file_of, kind_is}
use Rattle.demands.specs.Lines.{read_from, AreDigits, IsDecimal, IsUnpadded, IsProtection, AreMarks, word_of, length_of, parted, IsDiskLine, IsFileLine, Lists}
use Rattle.demands.proofs.Filed.{file_of_lem}

-- a digit more behind a word
read_more : (before : ℕ) (word : List ℕ) (digit : ℕ) → read_from before (word ++ (digit ∷ [])) ≡ 10 * read_from before word + (digit - 48)
unfolding read_from
read_more before [] digit = refl
read_more before (first ∷ word) digit = read_more (10 * before + (first - 48)) word digit

-- a number of one digit, and one of a digit more
one_digit : (x : ℕ) → x < 10 → IsDecimal x ((48 + x) ∷ [])
unfolding read_from
one_digit x h = record { some = omega arith; digits = only; value = omega arith; leading = λ e. ap (λ (d : ℕ). d ∷ []) e }
  where
    only : AreDigits ((48 + x) ∷ [])
    only zero l = (omega arith, omega arith)
    only (suc i) l = absurd (omega arith)

more_digits : (x digit : ℕ) (word : List ℕ) → 1 ≤ x → digit < 10 → IsDecimal x word → IsDecimal (10 * x + digit) (word ++ ((48 + digit) ∷ []))
unfolding read_from
more_digits x digit word some h is =
    record {
      some = rw length-append (omega arith);
      digits = λ i l. at i (rw length-append at l);
      value = read_more 0 word (48 + digit) ∙ omega (arith, is.value);
      leading = λ e. absurd (omega (arith, is.value, ap (read_from 0) (is.leading (sym (get_or-append word ((48 + digit) ∷ []) 0 0 is.some) ∙ e))));
    }
  where
    at : (i : ℕ) → i < length word + 1 → (48 ≤ byte_at (word ++ ((48 + digit) ∷ [])) i) × (byte_at (word ++ ((48 + digit) ∷ [])) i ≤ 57)
    at i l =
        elim (dec_lt i (length word)) [
          | yes inside ↦ rw (get_or-append word ((48 + digit) ∷ []) 0 i inside) (is.digits i inside)
          | no past ↦
              let end : i ≡ length word = omega arith in
              rw (end, get_or-append_seam word (48 + digit) [] 0) (omega arith, omega arith)
        ]

-- a number's digits are its decimal word
digits_are : (fuel x : ℕ) → x ≤ fuel → IsDecimal x (digits (suc fuel) x)
digits_are zero x enough = let one : x < 10 = omega arith in rw (digits_one zero x one) (one_digit x one)
digits_are (suc fuel) x enough =
    elim (dec_lt x 10) [
      | yes one ↦ rw (digits_one (suc fuel) x one) (one_digit x one)
      | no more ↦
          let split : 10 * (x / 10) + x % 10 ≡ x = omega arith in
          let tenth = digits_are fuel (x / 10) (omega arith) in
          rw (digits_more (suc fuel) x (omega arith)) (rw split at (more_digits (x / 10) (x % 10) (digits (suc fuel) (x / 10)) (omega arith) (omega arith) tenth))
    ]

decimal_is : (x : ℕ) → IsDecimal x (decimal x)
unfolding decimal
decimal_is x = digits_are x x (omega arith)

-- each digit makes ten times as much
read_below : (places before : ℕ) (word : List ℕ) → AreDigits word → before < 10 ^ places → read_from before word < 10 ^ (places + length word)
unfolding read_from
read_below places before [] is h = let e : places + 0 ≡ places = omega arith in rw e h
read_below places before (digit ∷ word) is h =
    let e : places + suc (length word) ≡ suc places + length word = omega arith in
    rw e (read_below (suc places) (10 * before + (digit - 48)) word (λ i l. is (suc i) (omega arith)) (omega (arith, is 0 (omega arith))))

read_above : (places before : ℕ) (word : List ℕ) → 10 ^ places ≤ before → 10 ^ (places + length word) ≤ read_from before word
unfolding read_from
read_above places before [] h = let e : places + 0 ≡ places = omega arith in rw e h
read_above places before (digit ∷ word) h =
    let e : places + suc (length word) ≡ suc places + length word = omega arith in
    rw e (read_above (suc places) (10 * before + (digit - 48)) word (omega arith))

-- a longer word has the greater value, since it does not begin with 0
longer_more : (x y : ℕ) (first second : List ℕ) → IsDecimal x first → IsDecimal y second → length first < length second → x < y
unfolding read_from
longer_more x y first [] is also h = absurd (omega arith)
longer_more x y first (digit ∷ second) is also h =
    let below = read_below 0 0 first is.digits (omega arith) in
    let above = read_above 0 (10 * 0 + (digit - 48)) second begins in
    let power = pow-le-pow_right {n = 10} (omega arith) {i = 0 + length first} {j = 0 + length second} (omega arith) in
    omega (arith, below, above, power, is.value, also.value)
  where
    begins : 1 ≤ 10 * 0 + (digit - 48)
    begins =
        elim (dec_lt 48 digit) [
          | yes some ↦ omega arith
          | no none ↦ absurd (omega (arith, ap length (also.leading (omega (arith, also.digits 0 also.some))), is.some))
        ]

-- of two words of one length and value, the last digits agree and so what is before them
same_digits : (before before' : ℕ) (first second : List ℕ) → AreDigits first → AreDigits second → length first ≡ length second → read_from before first ≡ read_from before' second
    → (before ≡ before') × (first ≡ second)
unfolding read_from
same_digits before before' [] [] is also long e = (e, refl)
same_digits before before' [] (d ∷ second) is also long e = absurd (omega arith)
same_digits before before' (d ∷ first) [] is also long e = absurd (omega arith)
same_digits before before' (d ∷ first) (d' ∷ second) is also long e =
    let more = same_digits (10 * before + (d - 48)) (10 * before' + (d' - 48)) first second (λ i l. is (suc i) (omega arith)) (λ i l. also (suc i) (omega arith)) (omega arith) e in
    let here = is 0 (omega arith) in
    let there = also 0 (omega arith) in
    let digit : d ≡ d' = omega (arith, more.0) in
    (omega (arith, more.0), cc more.1)

-- so a number has one decimal word
decimal_one : (x : ℕ) (first second : List ℕ) → IsDecimal x first → IsDecimal x second → first ≡ second
decimal_one x first second is also =
    elim (dec_lt (length first) (length second)) [
      | yes less ↦ absurd (omega (arith, longer_more x x first second is also less))
      | no less ↦
          elim (dec_lt (length second) (length first)) [
            | yes more ↦ absurd (omega (arith, longer_more x x second first also is more))
            | no more ↦ (same_digits 0 0 first second is.digits also.digits (omega arith) (is.value ∙ sym also.value)).1
          ]
    ]

-- a name's bytes up to its first space are its word
solid_more : (b : ℕ) (word : List ℕ) → (b ≡ 32 → ⊥) → ((i : ℕ) → i < length word → byte_at word i ≡ 32 → ⊥) → (i : ℕ) → i < suc (length word) → byte_at (b ∷ word) i ≡ 32 → ⊥
solid_more b word here solid zero h = here
solid_more b word here solid (suc i) h = solid i (omega arith)

name_unpadded : (name : List ℕ) (used : ℕ) → ((i : ℕ) → i < used → byte_at name i ≡ 32 → ⊥) → ((i : ℕ) → used ≤ i → i < length name → byte_at name i ≡ 32) → IsUnpadded name (unpadded name)
unfolding unpadded
name_unpadded [] used solid spaces = record { padding = 0; is = refl; solid = λ i h. absurd (omega arith) }
name_unpadded (b ∷ name) zero solid spaces =
    rw (eq-eqb b 32 (spaces 0 (omega arith) (omega arith)))
    (record { padding = suc (length name); is = at_replicate 32 (b ∷ name) (λ i h. spaces i (omega arith) h); solid = λ i h. absurd (omega arith) })
name_unpadded (b ∷ name) (suc used) solid spaces =
    let here = solid 0 (omega arith) in
    let more = name_unpadded name used (λ i h. solid (suc i) (omega arith)) (λ i h l. spaces (suc i) (omega arith) (omega arith)) in
    rw (ne_eqb b 32 here)
    (record { padding = more.padding; is = ap (λ (l : List ℕ). b ∷ l) more.is; solid = solid_more b (unpadded name) here more.solid })

unpadded_is : (name : List ℕ) → IsName name → IsUnpadded name (unpadded name)
unpadded_is name is = name_unpadded name is.used (λ i h e. omega (arith, e, (is.bytes i h).printable.0)) (λ i h l. is.spaces i h (omega (arith, is.ten)))

-- a name has one word
unpadded_back : (word : List ℕ) (padding : ℕ) → ((i : ℕ) → i < length word → byte_at word i ≡ 32 → ⊥) → unpadded (word ++ replicate padding 32) ≡ word
unfolding unpadded
unpadded_back [] zero solid = refl
unpadded_back [] (suc padding) solid = refl
unpadded_back (b ∷ word) padding solid = rw (ne_eqb b 32 (solid 0 (omega arith)), unpadded_back word padding (λ i h. solid (suc i) (omega arith)))

unpadded_word : (name word : List ℕ) → IsUnpadded name word → word ≡ unpadded name
unpadded_word name word is = sym (unpadded_back word is.padding is.solid) ∙ ap unpadded (sym is.is)

unpadded_one : (name first second : List ℕ) → IsUnpadded name first → IsUnpadded name second → first ≡ second
unpadded_one name first second is also = unpadded_word name first is ∙ sym (unpadded_word name second also)

-- P or U
protection_is : (status : ℕ) → IsProtection status (cond (is_protected status) 0x50 0x55 ∷ [])
protection_is status = record { protected = λ e. rw (eq-eqb (bit_of status 3) 1 e); unprotected = λ e. rw e }

protection_one : (status : ℕ) (first second : List ℕ) → IsProtection status first → IsProtection status second → first ≡ second
protection_one status first second is also =
    elim (ℕ_discrete (bit_of status 3) 1) [
      | yes set ↦ is.protected set ∙ sym (also.protected set)
      | no clear ↦ let none : bit_of status 3 ≡ 0 = omega arith in is.unprotected none ∙ sym (also.unprotected none)
    ]

-- a kind's word and number
kind_word_lem : (kind : Kind) → kind_word kind ≡ word_of kind
unfolding kind_word word_of
kind_word_lem (Program bytes) = refl
kind_word_lem (Fixed record_length true) = refl
kind_word_lem (Fixed record_length false) = refl
kind_word_lem (Variable record_length true) = refl
kind_word_lem (Variable record_length false) = refl

kind_length_lem : (kind : Kind) → kind_length kind ≡ length_of kind
unfolding kind_length length_of
kind_length_lem (Program bytes) = refl
kind_length_lem (Fixed record_length internal) = refl
kind_length_lem (Variable record_length internal) = refl

-- by the rule with marks one word more, M or a hyphen: as a field, as facts, and that they fix it
abbrev mark_words : Layout → ℕ → List (List ℕ)
mark_words layout status = cond layout.marks ((cond (is_marked status) 0x4D 0x2D ∷ []) ∷ []) []

marks_parted : (layout : Layout) (status : ℕ) (before : List ℕ) → parted (before ∷ mark_words layout status) ≡ before ++ (mark_field layout status ++ (10 ∷ []))
unfolding parted mark_field
marks_parted layout status before = by_rule (λ layout. parted (before ∷ mark_words layout status) ≡ before ++ (mark_field layout status ++ (10 ∷ []))) (λ edition. refl) (λ edition. refl) layout

marks_are : (layout : Layout) (status : ℕ) → AreMarks layout status (mark_words layout status)
marks_are layout status =
    record {
      marked = λ e set. rw (e, set);
      unmarked = λ e clear. rw (e, clear);
      without = λ e. rw e;
    }

marks_one : (layout : Layout) (status : ℕ) (first second : List (List ℕ)) → AreMarks layout status first → AreMarks layout status second → first ≡ second
marks_one layout status first second is also = go layout.marks refl
  where
    go : (t : Bool) → layout.marks ≡ t → first ≡ second
    go true e =
        elim (ℕ_discrete (bit_of status 4) 1) [
          | yes set ↦ is.marked e set ∙ sym (also.marked e set)
          | no other ↦ let clear : bit_of status 4 ≡ 0 = omega (arith, other) in is.unmarked e clear ∙ sym (also.unmarked e clear)
        ]
    go false e = is.without e ∙ sym (also.without e)

-- the files' lines, one behind the other
abbrev line_in : (layout : Layout) → List ℕ → ℕ → List ℕ
line_in layout image k = file_line layout (sector_of image k)

lines_joined : (layout : Layout) (image ks : List ℕ) → file_lines layout image ks ≡ joined (map (line_in layout image) ks)
unfolding file_lines joined
lines_joined layout image [] = refl
lines_joined layout image (k ∷ ks) = ap (λ (l : List ℕ). line_in layout image k ++ l) (lines_joined layout image ks)

-- the lines of a sound volume
module _ (layout : Layout) (image : List ℕ) (is : Sound layout image) where
  disk_line_lem : IsDiskLine layout image (disk_line image)
  unfolding disk_line parted
  disk_line_lem =
      record {
        name = unpadded (part (sector_of image 0) 0 10);
        name_is = unpadded_is (part (sector_of image 0) 0 10) is.label.name;
        size = decimal (sector_count image);
        size_is = decimal_is (sector_count image);
        count = free_count (sector_of image 0);
        count_is = free_holders layout image is;
        free = decimal (free_count (sector_of image 0));
        free_is = decimal_is (free_count (sector_of image 0));
        is = refl;
      }

  module _ (k : ℕ) (d : IsDescriptor layout (sector_count image) (sector_of image k)) where
    name_in_lem : file_name (file_in image k) ≡ name_of (sector_of image k)
    unfolding file_in name_in name_of
    name_in_lem = header_name image k

    pub kind_in : kind_is (file_in image k) ≡ file_kind (sector_of image k)
    unfolding kind_is file_in file_kind
    kind_in =
        rw (
          contents_count layout (sector_count image) image k d,
          header_at image k 12 (omega arith),
          header_at image k 16 (omega arith),
          header_at image k 17 (omega arith),
        )

    file_line_lem : IsFileLine layout (file_in image k) (file_line layout (sector_of image k))
    unfolding file_line file_in parted
    file_line_lem =
        record {
          name = unpadded (name_of (sector_of image k));
          name_is = rw name_in_lem (unpadded_is (name_of (sector_of image k)) d.name);
          size = decimal (kind_length (file_kind (sector_of image k)));
          size_is = rw (kind_in, ← kind_length_lem (file_kind (sector_of image k))) (decimal_is (kind_length (file_kind (sector_of image k))));
          sectors = decimal (sectors_of (sector_of image k));
          sectors_are = rw (contents_count layout (sector_count image) image k d) (decimal_is (sectors_of (sector_of image k)));
          protection = cond (is_protected (status_of (sector_of image k))) 0x50 0x55 ∷ [];
          protection_is = rw (header_at image k 12 (omega arith)) (protection_is (status_of (sector_of image k)));
          marks = mark_words layout (status_of (sector_of image k));
          marks_are = rw (header_at image k 12 (omega arith)) (marks_are layout (status_of (sector_of image k)));
          is = rw (kind_in, ← kind_word_lem (file_kind (sector_of image k)), marks_parted layout (status_of (sector_of image k)) (cond (is_protected (status_of (sector_of image k))) 0x50 0x55 ∷ []));
        }

  lines_are : (i : ℕ) → IsIndexed layout image i → (p : ℕ) → p < length (files_in image i) → IsFileLine layout (file_of image i p) (get_or (map (line_in layout image) (files_in image i)) p [])
  lines_are i indexed p h = rw (file_of_lem image i p h, get_mapped (line_in layout image) (files_in image i) p 0 [] h) (file_line_lem (file_at image i p) ((is.each i indexed).descriptors p h))

  pub listing_lists : (i : ℕ) → IsIndexed layout image i → Lists layout image i (listing_text layout image i)
  unfolding listing_text catalogue
  listing_lists i indexed =
      let many = length-map (files_in image i) (line_in layout image) in
      record {
        first = disk_line image;
        first_is = disk_line_lem;
        lines = map (line_in layout image) (files_in image i);
        many = many ∙ sym (length-map (files_in image i) (file_in image));
        each = λ p h. lines_are i indexed p (rw many at h);
        is = ap (λ (l : List ℕ). disk_line image ++ l) (lines_joined layout image (files_in image i));
      }

-- the facts fix each line
disk_line_one : (layout : Layout) (image first second : List ℕ) → IsDiskLine layout image first → IsDiskLine layout image second → first ≡ second
disk_line_one layout image first second is also =
    let count : is.count ≡ also.count = omega (arith, is.count_is, also.count_is) in
    let name = unpadded_one (part (sector_of image 0) 0 10) is.name also.name is.name_is also.name_is in
    let size = decimal_one (sector_count image) is.size also.size is.size_is also.size_is in
    let free = decimal_one also.count is.free also.free (rw count at is.free_is) also.free_is in
    is.is ∙ rw (name, size, free) (sym also.is)

file_line_one : (layout : Layout) (file : File) (first second : List ℕ) → IsFileLine layout file first → IsFileLine layout file second → first ≡ second
file_line_one layout file first second is also =
    let name = unpadded_one (file_name file) is.name also.name is.name_is also.name_is in
    let size = decimal_one (length_of (kind_is file)) is.size also.size is.size_is also.size_is in
    let sectors = decimal_one (length file.contents) is.sectors also.sectors is.sectors_are also.sectors_are in
    let protection = protection_one (byte_at file.header 12) is.protection also.protection is.protection_is also.protection_is in
    let marks = marks_one layout (byte_at file.header 12) is.marks also.marks is.marks_are also.marks_are in
    is.is ∙ rw (name, size, sectors, protection, marks) (sym also.is)

-- and the text
pub lists_one : (layout : Layout) (image : List ℕ) (i : ℕ) (first second : List ℕ) → Lists layout image i first → Lists layout image i second → first ≡ second
lists_one layout image i first second is also =
    let disk = disk_line_one layout image is.first also.first is.first_is also.first_is in
    let lines = ext_get_or [] is.lines also.lines (is.many ∙ sym also.many)
    (λ p h. file_line_one layout (file_of image i p) (get_or is.lines p []) (get_or also.lines p []) (is.each p h) (also.each p (omega (arith, is.many, also.many)))) in
    is.is ∙ rw (disk, lines) (sym also.is)

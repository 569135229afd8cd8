-- What the claims come to. On a map they clash exactly where a sector gets a second mark; on the judge's first marks that is a sector with two holders, and where there
-- is none the marks that are left are the map of the holders.
use mathlib.Core.Path.{◌≡◌, refl, sym, ap, ◌∙◌}
use mathlib.Core.Bool.{Bool, true, false, cond}
use mathlib.Core.List.{List, [], ◌∷◌, ◌++◌}
use Prim.Native.Nat.{ℕ, ◌+◌, ◌-◌, ◌*◌, ◌≤◌, ◌<◌}
use native.Mathlib.Omega.{arith}
use native.Mathlib.Decide.{dec_lt, ℕ_discrete}
use lib.Dec.{eqb}
use lib.ListN.{length, get_or, replicate, length-replicate, get_or-replicate, get_or-append, get_or-eq_default}
use lib.Seq.{take_all}
use borrow.Author.Tests.{eq-eqb, eqb-true}
use Rattle.rules.specs.Bytes.{byte_at, part, same}
use Rattle.rules.specs.Sectors.{sector_of, sector_count}
use Rattle.rules.specs.Chain.{run}
use Rattle.rules.specs.Map.{map_bit, count, taken, map_rule, map_of, byte_of, marked, marked_all}
use Rattle.rules.specs.Descriptor.{IsDescriptor}
use Rattle.rules.specs.Index.{index_rule}
use Rattle.rules.specs.Directory.{entries}
use Rattle.rules.specs.Volume.{indexes, files_in, files_of, file_holders, holders}
use Rattle.rules.specs.Verdict.{size_rule, descriptors_rule, held_twice}
use Rattle.rules.specs.Sound.{file_at, IsIndexed}
use Rattle.rules.specs.declared.Layout.{Layout}
use Rattle.rules.proofs.Tests.{absurd_test}
use Rattle.rules.proofs.Bytes.{part_length, part_behind}
use Rattle.rules.proofs.Map.{count_none, count_here, count_other, count_more, count_at, count_append, one_once, taken_below, taken_once, bytes_at, map_of_bits, map_of_bytes, map_compared}
use Rattle.rules.proofs.Marking.{marked-length, marked_here, marked_other, all_length, all_below, marked_holders, bit_once}
use Rattle.rules.proofs.Sectors.{sector_length, sector_below}
use Rattle.rules.proofs.Index.{index_is}
use Rattle.rules.proofs.Volume.{file_holders_inside}
use Rattle.rules.proofs.Directory.{entries_are}
use Rattle.rules.proofs.Indexes.{every_is, index_inside, held_append, files_ruled}
use Rattle.rules.proofs.Verdict.{size_is, descriptors_are, held_once, once_held}
use Rattle.rules.proofs.Formatted.{map_length}
use Rattle.judge.specs.Claim.{as_map, clashes, Below, claims}
use Rattle.judge.proofs.MarkLaws.{as_map-length, as_map_byte}
use Rattle.judge.proofs.VerdictSteps.{Entered, Indexed, FourPassed}

-- Where none clashes, no sector gets a second mark.
clash_once : (sector0 hs : List ℕ) → length sector0 ≡ 256 → clashes sector0 hs ≡ false → (k : ℕ) → k < 1600 → map_bit sector0 k + count k hs ≤ 1
unfolding clashes
clash_once sector0 [] long e k low = omega (arith, bit_once sector0 k, count_none k)
clash_once sector0 (q ∷ hs) long e k low = go (eqb (map_bit sector0 q) 0) refl e (clash_once (marked 1 sector0 q) hs (marked-length 1 sector0 q ∙ long))
  where
    go : (t : Bool) → eqb (map_bit sector0 q) 0 ≡ t → cond t (clashes (marked 1 sector0 q) hs) true ≡ false
        → (clashes (marked 1 sector0 q) hs ≡ false → (k : ℕ) → k < 1600 → map_bit (marked 1 sector0 q) k + count k hs ≤ 1)
        → map_bit sector0 k + count k (q ∷ hs) ≤ 1
    go false free e more = absurd_test e
    go true free e more =
        let none = eqb-true (map_bit sector0 q) 0 free in
        elim (ℕ_discrete q k) [
          | yes here ↦ rw (← here) (omega (arith, none, count_here q hs, marked_here 1 (omega arith) sector0 q (rw here low) long, rw (← here) at (more e k low)))
          | no there ↦ omega (arith, more e k low, marked_other 1 (omega arith) sector0 q k (λ e. there (sym e)), count_other k q hs there)
        ]

-- Where no sector gets a second mark, none clashes.
once_clash : (sector0 hs : List ℕ) → length sector0 ≡ 256 → Below 1600 hs → ((k : ℕ) → k < 1600 → map_bit sector0 k + count k hs ≤ 1) → clashes sector0 hs ≡ false
unfolding clashes
once_clash sector0 [] long below once = refl
once_clash sector0 (q ∷ hs) long below once =
    let low : q < 1600 = below q (omega (arith, count_here q hs)) in
    let none : map_bit sector0 q ≡ 0 = omega (arith, once q low, count_here q hs) in
    rw (eq-eqb (map_bit sector0 q) 0 none)
    (once_clash (marked 1 sector0 q) hs (marked-length 1 sector0 q ∙ long) (λ k some. below k (omega (arith, some, count_more k q hs)))
    (λ k h.
    elim (ℕ_discrete q k) [
      | yes here ↦ rw (← here) (omega (arith, once q low, count_here q hs, marked_here 1 (omega arith) sector0 q low long))
      | no there ↦ omega (arith, once k h, marked_other 1 (omega arith) sector0 q k (λ e. there (sym e)), count_other k q hs there)
    ]))

-- On a map in which sector 0 is held, holders that lie below the end clash exactly where, of all that there are with sector 0, one is held twice,
-- and else leave the map of all of them.
module _ (n : ℕ) (hs all sector0 : List ℕ) (small : n ≤ 1600) (long : length sector0 ≡ 256)
    (is : (k : ℕ) → k < 1600 → map_bit sector0 k ≡ taken n (0 ∷ []) k) (below : Below n hs) (whole : (k : ℕ) → count k all ≡ count k hs + count k (0 ∷ [])) where
  none_past : (k : ℕ) → n ≤ k → count k hs ≡ 0
  none_past k past =
      elim (dec_lt 0 (count k hs)) [
        | yes some ↦ absurd (omega (arith, below k some))
        | no none ↦ omega arith
      ]

  inside : (k : ℕ) → k < n → map_bit sector0 k + count k hs ≡ count k all
  inside k h = omega (arith, is k (omega arith), taken_below n (0 ∷ []) k h, whole k)

  clash_held : clashes sector0 hs ≡ false → held_twice all ≡ false
  clash_held e =
      once_held all
      (λ k.
      elim (dec_lt k n) [
        | yes h ↦ omega (arith, inside k h, clash_once sector0 hs long e k (omega arith))
        | no h ↦ omega (arith, whole k, none_past k (omega arith), one_once 0 k)
      ])

  held_clash : held_twice all ≡ false → clashes sector0 hs ≡ false
  held_clash e =
      once_clash sector0 hs long (λ k some. omega (arith, below k some))
      (λ k low.
      elim (dec_lt k n) [
        | yes h ↦ omega (arith, inside k h, held_once all e k)
        | no h ↦ omega (arith, bit_once sector0 k, none_past k (omega arith))
      ])

  pub clash_is : held_twice all ≡ clashes sector0 hs
  clash_is = go (held_twice all) (clashes sector0 hs) refl refl
    where
      go : (s t : Bool) → held_twice all ≡ s → clashes sector0 hs ≡ t → s ≡ t
      go true true e f = refl
      go false false e f = refl
      go true false e f = sym e ∙ clash_held f
      go false true e f = sym (held_clash e) ∙ f

  pub map_left : held_twice all ≡ false → (k : ℕ) → k < 1600 → map_bit (marked_all 1 sector0 hs) k ≡ taken n all k
  map_left e = marked_holders n sector0 (0 ∷ []) hs all long is (λ k. omega (arith, whole k, held_once all e k)) whole

-- the marks are the map of the sector 0 that they stand for, and bytes as it
as_map-part : (marks : List ℕ) → length marks ≡ 200 → part (as_map marks) 56 200 ≡ marks
unfolding as_map
as_map-part marks long = part_behind (replicate 56 0) marks 56 0 200 (length-replicate {A = ℕ} 56 0) ∙ take_all 200 marks (omega (arith, long))

as_map_below : (marks : List ℕ) → ((i : ℕ) → byte_at marks i < 256) → (i : ℕ) → byte_at (as_map marks) i < 256
unfolding as_map
as_map_below marks small i =
    elim (dec_lt i 56) [
      | yes low ↦ rw (get_or-append (replicate 56 0) marks 0 i (rw (length-replicate {A = ℕ} 56 0) low), get_or-replicate {A = ℕ} 56 i 0 0 low) (omega arith)
      | no high ↦ let e : 56 + (i - 56) ≡ i = omega arith in rw e at (rw (← as_map_byte marks (i - 56)) at (small (i - 56)))
    ]

byte_below : (bit : ℕ → ℕ) → ((k : ℕ) → bit k ≤ 1) → (k : ℕ) → byte_of bit k < 256
unfolding byte_of
byte_below bit once k = omega (arith, once k, once (k + 1), once (k + 2), once (k + 3), once (k + 4), once (k + 5), once (k + 6), once (k + 7))

map_below : (n : ℕ) (hs : List ℕ) → ((k : ℕ) → count k hs ≤ 1) → (i : ℕ) → byte_at (map_of n hs) i < 256
unfolding map_of
map_below n hs once i =
    elim (dec_lt i 200) [
      | yes inside ↦ rw (bytes_at (taken n hs) 200 0 i inside) (byte_below (taken n hs) (taken_once n hs once) (0 + 8 * i))
      | no past ↦ rw (get_or-eq_default (map_of n hs) 0 {n = i} (omega (arith, map_length n hs))) (omega arith)
    ]

-- What is claimed is each index and what the files of all of them hold; with sector 0 these are the holders.
claims-count : (image is : List ℕ) (k : ℕ) → count k (claims image is) ≡ count k is + count k (file_holders image (files_of image is))
unfolding claims files_of file_holders
claims-count image [] k = omega (arith, count_none k)
claims-count image (i ∷ is) k =
    let own = file_holders image (files_in image i) in
    omega (
      arith,
      claims-count image is k,
      held_append image k (files_in image i) (files_of image is),
      count_append k (i ∷ []) (own ++ claims image is),
      count_append k own (claims image is),
      count_append k (i ∷ []) is,
    )

holders-count : (layout : Layout) (image : List ℕ) (k : ℕ) → count k (holders layout image) ≡ count k (claims image (indexes layout image)) + count k (0 ∷ [])
unfolding holders
holders-count layout image k =
    let is = indexes layout image in
    let held = file_holders image (files_of image is) in
    omega (arith, claims-count image is k, count_append k (0 ∷ []) (is ++ held), count_append k is held)

-- On an image that has passed the test of its entries the indexes lie below its end; and where every index and the descriptors that it leads to have passed too, so does all that is claimed.
pub indexes_below : (layout : Layout) (image : List ℕ) → size_rule image ≡ true → Entered layout image true → Below (sector_count image) (indexes layout image)
indexes_below layout image sized entered k some =
    let size = size_is image sized in
    (index_inside layout image (omega (arith, size.1)) (entries_are (sector_count image) (entries layout (sector_of image 0)) entered) k some).1

pub claims_ruled : (layout : Layout) (image : List ℕ) → size_rule image ≡ true → Entered layout image true → Indexed layout image true
    → ((i : ℕ) → IsIndexed layout image i → (p : ℕ) → p < length (files_in image i) → IsDescriptor layout (sector_count image) (sector_of image (file_at image i p)))
    → Below (sector_count image) (claims image (indexes layout image))
claims_ruled layout image sized entered indexed descriptors k some =
    let n = sector_count image in
    let is = indexes layout image in
    let ks = files_of image is in
    let rules = files_ruled layout image is (λ i among. index_is n (sector_of image i) (every_is (λ j. index_rule n (sector_of image j)) is indexed i among)) descriptors in
    elim (dec_lt 0 (count k is)) [
      | yes index ↦ indexes_below layout image sized entered k index
      | no none ↦
          (file_holders_inside layout n image ks k (λ q h. let r = rules (get_or ks q 0) (count_at ks q h) in (r.0, r.1)) (λ q h. (rules (get_or ks q 0) (count_at ks q h)).2)
          (omega (arith, some, none, claims-count image is k))).1
    ]

pub claims_below : (layout : Layout) (image : List ℕ) → FourPassed layout image → Below (sector_count image) (claims image (indexes layout image))
claims_below layout image passed =
    claims_ruled layout image passed.sized passed.entered passed.indexed
    (λ i among.
    let n = sector_count image in
    descriptors_are layout n image [] (files_in image i) (every_is (λ j. descriptors_rule layout n image [] (files_in image j)) (indexes layout image) passed.described i among))

-- The marks, first the map with sector 0 held, on an image of which all that is claimed lies below the end.
module _ (layout : Layout) (image marks : List ℕ) (first : marks ≡ map_of (sector_count image) (run 0 1)) (sized : size_rule image ≡ true)
    (below : Below (sector_count image) (claims image (indexes layout image))) where
  abbrev hs : List ℕ
  hs = claims image (indexes layout image)

  long : length (as_map marks) ≡ 256
  long = omega (arith, as_map-length marks, ap length first, map_length (sector_count image) (run 0 1))

  bits : (k : ℕ) → k < 1600 → map_bit (as_map marks) k ≡ taken (sector_count image) (0 ∷ []) k
  unfolding run
  bits = map_of_bits (sector_count image) (0 ∷ []) (as_map marks) (one_once 0) (as_map-part marks (ap length first ∙ map_length (sector_count image) (run 0 1)) ∙ first)

  -- whether a sector was claimed twice
  module _ (twice : Bool) (is : twice ≡ clashes (as_map marks) hs) where
    pub claimed_twice : held_twice (holders layout image) ≡ twice
    claimed_twice =
        let size = size_is image sized in
        clash_is (sector_count image) hs (holders layout image) (as_map marks) size.2 long bits below (holders-count layout image) ∙ sym is

    -- where none was, the marks are the map of the holders
    pub claimed_map : twice ≡ false → (after : List ℕ) → as_map after ≡ marked_all 1 (as_map marks) hs → length after ≡ 200 → after ≡ map_of (sector_count image) (holders layout image)
    unfolding run
    claimed_map once after left kept =
        let size = size_is image sized in
        let whole = marked_all 1 (as_map marks) hs in
        let as_long = all_length 1 (as_map marks) hs ∙ long in
        sym (as_map-part after kept) ∙ ap (λ (s : List ℕ). part s 56 200) left
        ∙ map_of_bytes (sector_count image) (holders layout image) whole (part_length whole 56 200 (omega (arith, as_long)))
        (λ i low. all_below 1 (omega arith) (as_map marks) hs (as_map_below marks (rw first (map_below (sector_count image) (0 ∷ []) (one_once 0)))) (56 + i))
        (map_left (sector_count image) hs (holders layout image) (as_map marks) size.2 long bits below (holders-count layout image) (claimed_twice ∙ once))

-- The judge's, on an image that has passed its tests 1 to 4: what the claims say of test 5, and where none was claimed twice, of a map that is compared with the marks.
module _ (layout : Layout) (image marks : List ℕ) (first : marks ≡ map_of (sector_count image) (run 0 1)) (passed : FourPassed layout image)
    (twice : Bool) (is : twice ≡ clashes (as_map marks) (claims image (indexes layout image))) where
  pub judged_twice : held_twice (holders layout image) ≡ twice
  judged_twice = claimed_twice layout image marks first passed.sized (claims_below layout image passed) twice is

  module _ (once : twice ≡ false) (after : List ℕ) (left : as_map after ≡ marked_all 1 (as_map marks) (claims image (indexes layout image))) (kept : length after ≡ 200) where
    pub judged_map : (map sector0 : List ℕ) → map ≡ part sector0 56 200 → sector0 ≡ sector_of image 0 → ((i : ℕ) → byte_at image i < 256)
        → same map after ≡ map_rule (sector_count image) (holders layout image) (sector_of image 0)
    judged_map map sector0 cut read small =
        let size = size_is image passed.sized in
        rw (cut, read, claimed_map layout image marks first passed.sized (claims_below layout image passed) twice is once after left kept)
        (map_compared (sector_count image) (holders layout image) (sector_of image 0) (sector_length image 0 (omega (arith, size.0, size.1)))
        (sector_below image 0 256 (omega arith) small) (held_once (holders layout image) (judged_twice ∙ once)))

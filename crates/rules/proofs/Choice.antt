-- Where a descriptor and data go: the search for a free sector a sector at a time, the range of what it finds, and that what is chosen was free.
use mathlib.Core.Path.{◌≡◌, refl, sym, ap, ◌∙◌}
use mathlib.Core.Bool.{Bool, cond}
use mathlib.Core.List.{List, [], ◌∷◌, ◌++◌}
use Prim.Native.Nat.{ℕ, zero, suc, ◌+◌, ◌≤◌, ◌<◌}
use native.Mathlib.Omega.{arith}
use native.Mathlib.Decide.{dec_lt, ℕ_discrete}
use lib.ListN.{length}
use borrow.Author.Tests.{eq-eqb, ne_eqb, lt-ltb, le-ltb}
use Rattle.rules.specs.Sectors.{sector_of, sector_count}
use Rattle.rules.specs.Map.{map_bit, count, zero_bits, free_count, marked, marked_all}
use Rattle.rules.specs.Volume.{files_in, file_holders}
use Rattle.rules.specs.Sound.{Sound}
use Rattle.rules.specs.Choice.{lowest_free, descriptor_choice, data_choice, data_choices}
use Rattle.rules.specs.declared.Layout.{Layout}
use Rattle.rules.proofs.Map.{count_none, count_here, count_other, count_more}
use Rattle.rules.proofs.Free.{zeros_past, zeros_split}
use Rattle.rules.proofs.Marking.{marked-length, marked_here, marked_other, marked_free, all_free_lem}
use Rattle.rules.proofs.Indexes.{root_indexed, others, holders_seen}

-- the search from sector k on: none left, a free sector, a taken one
module _ (sector0 : List ℕ) where
  pub lowest_end : (k : ℕ) → lowest_free sector0 0 k ≡ k
  unfolding lowest_free
  lowest_end k = refl

  pub lowest_here : (many k : ℕ) → map_bit sector0 k ≡ 0 → lowest_free sector0 (suc many) k ≡ k
  unfolding lowest_free
  lowest_here many k free = rw (eq-eqb (map_bit sector0 k) 0 free)

  pub lowest_step : (many k : ℕ) → (map_bit sector0 k ≡ 0 → ⊥) → lowest_free sector0 (suc many) k ≡ lowest_free sector0 many (k + 1)
  unfolding lowest_free
  lowest_step many k full = rw (ne_eqb (map_bit sector0 k) 0 full)

  pub lowest_from : (many k : ℕ) → k ≤ lowest_free sector0 many k
  lowest_from zero k = rw (lowest_end k) (omega arith)
  lowest_from (suc many) k =
      elim (ℕ_discrete (map_bit sector0 k) 0) [
        | yes free ↦ rw (lowest_here many k free) (omega arith)
        | no full ↦ rw (lowest_step many k full) (omega (arith, lowest_from many (k + 1)))
      ]

  pub lowest_to : (many k : ℕ) → lowest_free sector0 many k ≤ k + many
  lowest_to zero k = rw (lowest_end k) (omega arith)
  lowest_to (suc many) k =
      elim (ℕ_discrete (map_bit sector0 k) 0) [
        | yes free ↦ rw (lowest_here many k free) (omega arith)
        | no full ↦ rw (lowest_step many k full) (omega (arith, lowest_to many (k + 1)))
      ]

  -- what it finds is free, and nothing before it is
  pub lowest_is_free : (many k : ℕ) → lowest_free sector0 many k < k + many → map_bit sector0 (lowest_free sector0 many k) ≡ 0
  lowest_is_free zero k found = absurd (omega (arith, lowest_end k))
  lowest_is_free (suc many) k found =
      elim (ℕ_discrete (map_bit sector0 k) 0) [
        | yes free ↦ rw (lowest_here many k free) free
        | no full ↦ rw (lowest_step many k full) (lowest_is_free many (k + 1) (omega (arith, lowest_step many k full)))
      ]

  pub lowest_first : (many k i : ℕ) → k ≤ i → i < lowest_free sector0 many k → map_bit sector0 i ≡ 0 → ⊥
  lowest_first zero k i low before free = omega (arith, lowest_end k)
  lowest_first (suc many) k i low before free =
      elim (ℕ_discrete (map_bit sector0 k) 0) [
        | yes here ↦ omega (arith, lowest_here many k here)
        | no full ↦
            elim (ℕ_discrete k i) [
              | yes same ↦ full (rw same free)
              | no later ↦ lowest_first many (k + 1) i (omega (arith, later)) (omega (arith, lowest_step many k full)) free
            ]
      ]

lowest_of : (sector0 : List ℕ) (many from k : ℕ) → from ≤ k → k < from + many → map_bit sector0 k ≡ 0 → lowest_free sector0 many from ≤ k
lowest_of sector0 many from k low high free =
    elim (dec_lt k (lowest_free sector0 many from)) [
      | yes before ↦ absurd (lowest_first sector0 many from k low before free)
      | no behind ↦ omega arith
    ]

-- the choice of data by its cases: from 34 up while a sector is free there, then from 2 up
pub data_choice_high : (sector0 : List ℕ) → lowest_free sector0 1566 34 < 1600 → data_choice sector0 ≡ lowest_free sector0 1566 34
unfolding data_choice
data_choice_high sector0 found = ap (λ (t : Bool). cond t (lowest_free sector0 1566 34) (lowest_free sector0 32 2)) (lt-ltb (lowest_free sector0 1566 34) 1600 found)

pub data_choice_full : (sector0 : List ℕ) → 1600 ≤ lowest_free sector0 1566 34 → data_choice sector0 ≡ lowest_free sector0 32 2
unfolding data_choice
data_choice_full sector0 full = ap (λ (t : Bool). cond t (lowest_free sector0 1566 34) (lowest_free sector0 32 2)) (le-ltb (lowest_free sector0 1566 34) 1600 full)

-- whatever the map says, what is chosen is never sector 0 or 1
pub data_choice_range : (sector0 : List ℕ) → (2 ≤ data_choice sector0) × (data_choice sector0 ≤ 1600)
data_choice_range sector0 =
    elim (dec_lt (lowest_free sector0 1566 34) 1600) [
      | yes found ↦ rw (data_choice_high sector0 found) (omega (arith, lowest_from sector0 1566 34), lowest_to sector0 1566 34)
      | no full ↦ rw (data_choice_full sector0 (omega arith)) (lowest_from sector0 32 2, omega (arith, lowest_to sector0 32 2))
    ]

-- and it is the lowest: of a descriptor from 2 up, of data from 34 up, and below 34 only when none is left there
pub descriptor_choice_lowest : (sector0 : List ℕ) (k : ℕ) → 2 ≤ k → k < 1600 → map_bit sector0 k ≡ 0 → descriptor_choice sector0 ≤ k
unfolding descriptor_choice
descriptor_choice_lowest sector0 k low high free = lowest_of sector0 1598 2 k low high free

pub data_choice_lowest : (sector0 : List ℕ) (k : ℕ) → 34 ≤ k → k < 1600 → map_bit sector0 k ≡ 0 → (34 ≤ data_choice sector0) × (data_choice sector0 ≤ k)
unfolding data_choice
data_choice_lowest sector0 k low high free =
    let here = lowest_of sector0 1566 34 k low high free in
    rw (lt-ltb (lowest_free sector0 1566 34) 1600 (omega (arith, here))) (lowest_from sector0 1566 34, here)

pub data_choice_low : (sector0 : List ℕ) → ((k : ℕ) → 34 ≤ k → k < 1600 → map_bit sector0 k ≡ 0 → ⊥) → (k : ℕ) → 2 ≤ k → k < 34 → map_bit sector0 k ≡ 0 → data_choice sector0 ≤ k
data_choice_low sector0 none k low high free =
    elim (dec_lt (lowest_free sector0 1566 34) 1600) [
      | yes found ↦ absurd (none (lowest_free sector0 1566 34) (lowest_from sector0 1566 34) found (lowest_is_free sector0 1566 34 found))
      | no full ↦ rw (data_choice_full sector0 (omega arith)) (lowest_of sector0 32 2 k low high free)
    ]

-- several choices, one at a time
pub choices_none : (sector0 : List ℕ) → data_choices 0 sector0 ≡ []
unfolding data_choices
choices_none sector0 = refl

pub choices_step : (many : ℕ) (sector0 : List ℕ) → data_choices (suc many) sector0 ≡ data_choice sector0 ∷ data_choices many (marked 1 sector0 (data_choice sector0))
unfolding data_choices
choices_step many sector0 = refl

pub choices_length : (many : ℕ) (sector0 : List ℕ) → length (data_choices many sector0) ≡ many
unfolding data_choices
choices_length zero sector0 = refl
choices_length (suc many) sector0 = ap suc (choices_length many (marked 1 sector0 (data_choice sector0)))

pub choices_range : (many : ℕ) (sector0 : List ℕ) (k : ℕ) → 1 ≤ count k (data_choices many sector0) → (2 ≤ k) × (k ≤ 1600)
unfolding data_choices
choices_range zero sector0 k some = absurd (omega (arith, count_none k))
choices_range (suc many) sector0 k some =
    let next = marked 1 sector0 (data_choice sector0) in
    elim (ℕ_discrete (data_choice sector0) k) [
      | yes here ↦ rw here at (data_choice_range sector0)
      | no other ↦ choices_range many next k (omega (arith, count_other k (data_choice sector0) (data_choices many next) other))
    ]

-- where a bit is zero the search finds one
lowest_found : (sector0 : List ℕ) (many k : ℕ) → 1 ≤ zero_bits sector0 many k → lowest_free sector0 many k < k + many
unfolding zero_bits
lowest_found sector0 zero k some = absurd (omega arith)
lowest_found sector0 (suc many) k some =
    elim (ℕ_discrete (map_bit sector0 k) 0) [
      | yes free ↦ rw (lowest_here sector0 many k free) (omega arith)
      | no full ↦
          let e = rw (ne_eqb (map_bit sector0 k) 0 full) at some in
          rw (lowest_step sector0 many k full) (omega (arith, lowest_found sector0 many (k + 1) (omega arith)))
    ]

-- what is free on a volume of n sectors lies from 2 up and below n, for the map marks the rest
pub record Fenced (n : ℕ) (sector0 : List ℕ) : Type 0 where
  pub label : map_bit sector0 0 ≡ 1
  pub index : map_bit sector0 1 ≡ 1
  pub filled : (k : ℕ) → n ≤ k → k < 1600 → map_bit sector0 k ≡ 1

pub sound_fenced : (layout : Layout) (image : List ℕ) → Sound layout image → Fenced (sector_count image) (sector_of image 0)
sound_fenced layout image is =
    let hs = file_holders image (files_in image 1) ++ others layout image 1 in
    let seen = holders_seen layout image 1 (root_indexed layout image) in
    record {
      label = omega (arith, is.size, is.marked 0 (omega (arith, is.size)), is.single 0, seen 0, count_here 0 (1 ∷ hs));
      index = omega (arith, is.size, is.marked 1 (omega (arith, is.size)), is.single 1, seen 1, count_more 1 0 (1 ∷ hs), count_here 1 hs);
      filled = is.filled;
    }

-- a choice that is good: a free sector inside the volume
pub record Chosen (n : ℕ) (sector0 : List ℕ) (k : ℕ) : Type 0 where
  pub free : map_bit sector0 k ≡ 0
  pub from : 2 ≤ k
  pub inside : k < n
  pub low : k < 1600

module _ (n : ℕ) (sector0 : List ℕ) (fence : Fenced n sector0) where
  free_chosen : (k : ℕ) → 2 ≤ k → k < 1600 → map_bit sector0 k ≡ 0 → Chosen n sector0 k
  free_chosen k from low free =
      elim (dec_lt k n) [
        | yes inside ↦ record { free = free; from = from; inside = inside; low = low }
        | no outside ↦ absurd (omega (arith, fence.filled k (omega arith) low))
      ]

  first_two : (k : ℕ) → 0 ≤ k → k < 0 + 2 → map_bit sector0 k ≡ 1
  first_two zero from to = fence.label
  first_two (suc zero) from to = fence.index
  first_two (suc (suc k)) from to = absurd (omega arith)

  free_from_two : free_count sector0 ≡ zero_bits sector0 1598 2
  unfolding free_count
  free_from_two = omega (arith, zeros_split sector0 2 1598 0, zeros_past sector0 2 0 first_two)

  module _ (some : 1 ≤ free_count sector0) where
    pub descriptor_choice_free : Chosen n sector0 (descriptor_choice sector0)
    unfolding descriptor_choice
    descriptor_choice_free =
        let found = lowest_found sector0 1598 2 (omega (arith, free_from_two)) in
        free_chosen (lowest_free sector0 1598 2) (lowest_from sector0 1598 2) found (lowest_is_free sector0 1598 2 found)

    pub data_choice_free : Chosen n sector0 (data_choice sector0)
    data_choice_free =
        elim (dec_lt (lowest_free sector0 1566 34) 1600) [
          | yes high ↦
              rw (data_choice_high sector0 high)
              (free_chosen (lowest_free sector0 1566 34) (omega (arith, lowest_from sector0 1566 34)) high (lowest_is_free sector0 1566 34 high))
          | no none ↦
              let empty : zero_bits sector0 1566 34 ≡ 0 =
              elim (dec_lt 0 (zero_bits sector0 1566 34)) [
                | yes some ↦ absurd (none (lowest_found sector0 1566 34 some))
                | no z ↦ omega arith
              ]
              in
              let found = lowest_found sector0 32 2 (omega (arith, free_from_two, zeros_split sector0 32 1566 2)) in
              rw (data_choice_full sector0 (omega arith))
              (free_chosen (lowest_free sector0 32 2) (lowest_from sector0 32 2) (omega arith) (lowest_is_free sector0 32 2 found))
        ]

-- bits that are one stay so when a sector is marked, and what is free then was free and is another
pub fenced_marked : (n : ℕ) (sector0 : List ℕ) (k : ℕ) → length sector0 ≡ 256 → Fenced n sector0 → Fenced n (marked 1 sector0 k)
fenced_marked n sector0 k long fence =
    record {
      label = stays 0 (omega arith) fence.label;
      index = stays 1 (omega arith) fence.index;
      filled = λ i from low. stays i low (fence.filled i from low);
    }
  where
    stays : (i : ℕ) → i < 1600 → map_bit sector0 i ≡ 1 → map_bit (marked 1 sector0 k) i ≡ 1
    stays i low one =
        elim (ℕ_discrete i k) [
          | yes same ↦ rw (← same) (marked_here 1 (omega arith) sector0 i low long)
          | no other ↦ marked_other 1 (omega arith) sector0 k i other ∙ one
        ]

module _ (n : ℕ) where
  choices_both : (many : ℕ) (sector0 : List ℕ) → length sector0 ≡ 256 → Fenced n sector0 → many ≤ free_count sector0
      → ((k : ℕ) → 1 ≤ count k (data_choices many sector0) → Chosen n sector0 k) × ((k : ℕ) → count k (data_choices many sector0) ≤ 1)
  unfolding data_choices
  choices_both zero sector0 long fence room = ((λ k some. absurd (omega (arith, count_none k))), (λ k. omega (arith, count_none k)))
  choices_both (suc many) sector0 long fence room =
      let c = data_choice sector0 in
      let next = marked 1 sector0 c in
      let good = data_choice_free n sector0 fence (omega arith) in
      let left = marked_free 1 (omega arith) sector0 c good.low long in
      let rest = choices_both many next (marked-length 1 sector0 c ∙ long) (fenced_marked n sector0 c long fence) (omega (arith, good.free)) in
      let here = marked_here 1 (omega arith) sector0 c good.low long in
      let gone : count c (data_choices many next) ≡ 0 =
      elim (dec_lt 0 (count c (data_choices many next))) [
        | yes some ↦ absurd (omega (arith, here, (rest.0 c some).free))
        | no none ↦ omega arith
      ]
      in (
        (λ k some.
            elim (ℕ_discrete c k) [
              | yes same ↦ rw same at good
              | no other ↦
                  let later = rest.0 k (omega (arith, count_other k c (data_choices many next) other)) in
                  record {
                    free = sym (marked_other 1 (omega arith) sector0 c k (λ e. other (sym e))) ∙ later.free;
                    from = later.from;
                    inside = later.inside;
                    low = later.low;
                  }
            ]),
        (λ k.
            elim (ℕ_discrete c k) [
              | yes same ↦ rw (← same) (omega (arith, count_here c (data_choices many next)))
              | no other ↦ rw (count_other k c (data_choices many next) other) (rest.1 k)
            ]),
      )

  module _ (many : ℕ) (sector0 : List ℕ) (long : length sector0 ≡ 256) (fence : Fenced n sector0) (room : many ≤ free_count sector0) where
    pub choices_free : (k : ℕ) → 1 ≤ count k (data_choices many sector0) → Chosen n sector0 k
    choices_free = (choices_both many sector0 long fence room).0

    pub choices_once : (k : ℕ) → count k (data_choices many sector0) ≤ 1
    choices_once = (choices_both many sector0 long fence room).1

    pub choices_count : free_count (marked_all 1 sector0 (data_choices many sector0)) + many ≡ free_count sector0
    choices_count =
        omega (
          arith,
          choices_length many sector0,
          all_free_lem 1 0 (omega arith) sector0 (data_choices many sector0) long choices_once (λ k some. ((choices_free k some).low, (choices_free k some).free)),
        )

-- A descriptor's sector k chosen by the map, and `many` for data by the map with k marked: all were free, and each is chosen once.
module _ (n : ℕ) (sector0 : List ℕ) (many : ℕ) (long : length sector0 ≡ 256) (fence : Fenced n sector0) (room : 1 + many ≤ free_count sector0) where
  abbrev first : ℕ
  first = descriptor_choice sector0

  abbrev later : List ℕ
  later = data_choices many (marked 1 sector0 first)

  first_free : Chosen n sector0 first
  first_free = descriptor_choice_free n sector0 fence (omega (arith, room))

  still_fenced : Fenced n (marked 1 sector0 first)
  still_fenced = fenced_marked n sector0 first long fence

  long_marked : length (marked 1 sector0 first) ≡ 256
  long_marked = marked-length 1 sector0 first ∙ long

  room_left : many ≤ free_count (marked 1 sector0 first)
  room_left = omega (arith, room, marked_free 1 (omega arith) sector0 first first_free.low long, first_free.free)

  later_free : (j : ℕ) → 1 ≤ count j later → Chosen n (marked 1 sector0 first) j
  later_free = choices_free n many (marked 1 sector0 first) long_marked still_fenced room_left

  later_other : (j : ℕ) → 1 ≤ count j later → first ≡ j → ⊥
  later_other j some e =
      omega (arith, (later_free j some).free, ap (map_bit (marked 1 sector0 first)) e, marked_here 1 (omega arith) sector0 first first_free.low long)

  pub new_free : (j : ℕ) → 1 ≤ count j (first ∷ later) → Chosen n sector0 j
  new_free j some =
      elim (ℕ_discrete first j) [
        | yes same ↦ rw (← same) first_free
        | no other ↦
            let c = later_free j (omega (arith, some, count_other j first later other)) in
            record { free = sym (marked_other 1 (omega arith) sector0 first j (λ e. other (sym e))) ∙ c.free; from = c.from; inside = c.inside; low = c.low }
      ]

  pub new_once : (j : ℕ) → count j (first ∷ later) ≤ 1
  new_once j =
      let at_most = choices_once n many (marked 1 sector0 first) long_marked still_fenced room_left j in
      elim (ℕ_discrete first j) [
        | yes same ↦
            elim (dec_lt 0 (count j later)) [
              | yes some ↦ absurd (later_other j some same)
              | no none ↦ omega (arith, none, ap (λ (i : ℕ). count j (i ∷ later)) same, count_here j later)
            ]
        | no other ↦ omega (arith, at_most, count_other j first later other)
      ]

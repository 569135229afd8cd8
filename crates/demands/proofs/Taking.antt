-- The facts of the choices fix the sectors and the blocks: the lowest free sector is one, a list has one last block, and a sector follows the last place or does not.
-- The rules choose those: they search a map in which what the call has taken is marked, so what is free there is what is free and not taken.
use mathlib.Core.Path.{◌≡◌, refl, sym, ap, ◌∙◌}
use mathlib.Core.List.{List, [], ◌∷◌, ◌++◌, reverse, reverse-append, reverse-reverse}
use mathlib.Core.Logic.{inl, inr}
use Prim.Native.Nat.{ℕ, zero, suc, ◌+◌, ◌≤◌, ◌<◌}
use native.Mathlib.Omega.{arith}
use native.Mathlib.Decide.{dec_lt, ℕ_discrete}
use lib.ListN.{length, length-append}
use Rattle.rules.specs.Sectors.{sector_of, sector_count}
use Rattle.rules.specs.Map.{map_bit, count, free_count, marked}
use Rattle.rules.specs.declared.Layout.{Layout}
use Rattle.rules.specs.declared.Block.{Block}
use Rattle.rules.specs.Chain.{blocks, places_from, places, extended, extended_all, Linked}
use Rattle.rules.specs.Descriptor.{sectors_of, chain_of}
use Rattle.rules.specs.Volume.{files_in, places_in}
use Rattle.rules.specs.Sound.{IsIndexed, Sound}
use Rattle.rules.specs.Choice.{lowest_free, descriptor_choice, data_choice, data_choices}
use Rattle.rules.specs.Calls.Append.{longer_blocks}
use Rattle.rules.specs.Calls.Store.{new_sectors, new_blocks}
use Rattle.rules.proofs.Map.{count_none, count_here, count_other, count_more}
use Rattle.rules.proofs.Chain.{places_length}
use Rattle.rules.proofs.Extended.{extended_places, extended_linked, ending}
use Rattle.rules.proofs.Marking.{marked-length, marked_here, marked_other, marked_free}
use Rattle.rules.proofs.Choice.{
  lowest_from,
  lowest_first,
  data_choice_high,
  data_choice_full,
  Fenced,
  sound_fenced,
  Chosen,
  descriptor_choice_free,
  data_choice_free,
  fenced_marked,
}
use Rattle.rules.proofs.Listed.{label_long, listed_descriptor}
use Rattle.demands.specs.Taking.{Free, Lowest, ForDescriptor, ForData, Longer, Through, Takes}

-- the sector is one
pub lowest_one : (image taken : List ℕ) (from k j : ℕ) → Lowest image taken from k → Lowest image taken from j → k ≡ j
lowest_one image taken from k j one two =
    elim (dec_lt k j) [
      | yes low ↦ absurd (two.first k one.up low one.is)
      | no low ↦
          elim (dec_lt j k) [
            | yes high ↦ absurd (one.first j two.up high two.is)
            | no high ↦ omega arith
          ]
    ]

pub data_one : (image taken : List ℕ) (k j : ℕ) → ForData image taken k → ForData image taken j → k ≡ j
data_one image taken k j (inl one) (inl two) = lowest_one image taken _ k j one two
data_one image taken k j (inl one) (inr two) = absurd (two.0 k one.up one.is)
data_one image taken k j (inr one) (inl two) = absurd (one.0 j two.up two.is)
data_one image taken k j (inr one) (inr two) = lowest_one image taken 2 k j one.1 two.1

pub data_high : (image taken : List ℕ) (k : ℕ) → ForData image taken k → 2 ≤ k
data_high image taken k (inl one) = omega (arith, one.up)
data_high image taken k (inr one) = one.1.up

-- the blocks with one sector more are one list
last_same : {A : Type 0} (xs ys : List A) (x y : A) → xs ++ (x ∷ []) ≡ ys ++ (y ∷ []) → (xs ≡ ys) × (x ≡ y)
last_same xs ys x y e =
    let turned : x ∷ reverse xs ≡ y ∷ reverse ys = sym (reverse-append xs (x ∷ [])) ∙ ap reverse e ∙ reverse-append ys (y ∷ []) in
    let front : reverse xs ≡ reverse ys = cc in
    (sym (reverse-reverse xs) ∙ ap reverse front ∙ reverse-reverse ys, cc)

pub longer_one : (places : List ℕ) (k : ℕ) (before one two : List Block) → Longer places k before one → Longer places k before two → one ≡ two
longer_one places k before one two (inl e) (inl f) =
    let parts = last_same e.front f.front e.block f.block (sym e.was ∙ f.was) in
    e.is ∙ rw (parts.0, parts.1) (sym f.is)
longer_one places k before one two (inl e) (inr f) = absurd (f.apart e.follows)
longer_one places k before one two (inr e) (inl f) = absurd (e.apart f.follows)
longer_one places k before one two (inr e) (inr f) = e.is ∙ sym f.is

-- and so are several, with the sectors that they are made of
pub takes_one : (image taken places : List ℕ) (before : List Block) (ks js : List ℕ) (one two : List Block) → length ks ≡ length js
    → Takes image taken places before ks one → Takes image taken places before js two → (ks ≡ js) × (one ≡ two)
unfolding Takes
takes_one image taken places before [] [] one two long s t = (refl, s ∙ sym t)
takes_one image taken places before [] (j ∷ js) one two long s t = absurd (omega arith)
takes_one image taken places before (k ∷ ks) [] one two long s t = absurd (omega arith)
takes_one image taken places before (k ∷ ks) (j ∷ js) one two long s t =
    let e : k ≡ j = data_one image taken k j s.0 t.0 in
    let other : Through (Longer places k before) (λ between. Takes image (k ∷ taken) (places ++ (k ∷ [])) between js two) = rw e t.1 in
    let blocks = longer_one places k before s.1.between other.between s.1.to other.to in
    let rest = takes_one image (k ∷ taken) (places ++ (k ∷ [])) s.1.between ks js one two (omega arith) s.1.from (rw blocks other.from) in
    (rw (e, rest.0), rest.1)

-- the blocks of a linked chain with one sector more
extended_longer : (n c k : ℕ) (bs : List Block) → Linked n c 0 bs → Longer (places_from 0 bs) k bs (extended 0 bs k)
unfolding places_from extended
extended_longer n c k [] is =
    inr (record { apart = λ f. let long = ap length f.places_are in omega (arith, long, length-append f.front (f.last ∷ [])); is = refl })
extended_longer n c k (block ∷ more) is =
    let end = ending n k c 0 block more is in
    elim (ℕ_discrete k (end.last + 1)) [
      | yes next ↦
          inl
          (record {
            follows = record { front = end.before; last = end.last; places_are = end.places_are; next = next };
            front = end.front;
            block = end.block;
            was = end.was;
            is = end.extends next;
          })
      | no apart ↦
          let many : length (places_from 0 (block ∷ more)) ≡ c = omega (arith, places_length n c 0 (block ∷ more) is) in
          inr
          (record {
            apart = λ f. apart (f.next ∙ ap (λ (p : ℕ). p + 1) (last_same f.front end.before f.last end.last (sym f.places_are ∙ end.places_are)).1);
            is = rw many (end.begins apart);
          })
    ]

-- a map in which those of `taken` are marked besides, with room for `many`
record Marks (image taken sector0 : List ℕ) (many : ℕ) : Type 0 where
  long : length sector0 ≡ 256
  fence : Fenced (sector_count image) sector0
  room : many ≤ free_count sector0
  free_is : (j : ℕ) → j < sector_count image → map_bit sector0 j ≡ 0 → Free image taken j
  is_free : (j : ℕ) → Free image taken j → map_bit sector0 j ≡ 0

marks_more : (image taken sector0 : List ℕ) (many k : ℕ) → Marks image taken sector0 (suc many) → Chosen (sector_count image) sector0 k
    → Marks image (k ∷ taken) (marked 1 sector0 k) many
marks_more image taken sector0 many k marks chosen =
    record {
      long = marked-length 1 sector0 k ∙ marks.long;
      fence = fenced_marked (sector_count image) sector0 k marks.long marks.fence;
      room = omega (arith, marks.room, marked_free 1 (omega arith) sector0 k chosen.low marks.long, chosen.free);
      free_is = λ j inside free.
          elim (ℕ_discrete k j) [
            | yes same ↦ absurd (omega (arith, rw (← same) at free, marked_here 1 (omega arith) sector0 k chosen.low marks.long))
            | no other ↦
                let was = marks.free_is j inside (sym (marked_other 1 (omega arith) sector0 k j (λ e. other (sym e))) ∙ free) in
                record { inside = inside; free = was.free; other = count_other j k taken other ∙ was.other }
          ];
      is_free = λ j free.
          let none = free.other in
          marked_other 1 (omega arith) sector0 k j (λ e. omega (arith, rw e at none, count_here k taken))
          ∙ marks.is_free j (record { inside = free.inside; free = free.free; other = omega (arith, none, count_more j k taken) });
    }

module _ (layout : Layout) (image : List ℕ) (is : Sound layout image) where
  marks_none : (many : ℕ) → many ≤ free_count (sector_of image 0) → Marks image [] (sector_of image 0) many
  marks_none many room =
      record {
        long = label_long layout image is;
        fence = sound_fenced layout image is;
        room = room;
        free_is = λ j inside free. record { inside = inside; free = free; other = count_none j };
        is_free = λ j free. free.free;
      }

  -- what the search finds is the lowest free sector
  module _ (taken sector0 : List ℕ) (many : ℕ) (marks : Marks image taken sector0 (suc many)) where
    found_lowest : (from size k : ℕ) → k ≡ lowest_free sector0 size from → Chosen (sector_count image) sector0 k → Lowest image taken from k
    found_lowest from size k e chosen =
        record {
          up = rw e (lowest_from sector0 size from);
          is = marks.free_is k chosen.inside chosen.free;
          first = λ j up before free. lowest_first sector0 size from j up (omega (arith, before, e)) (marks.is_free j free);
        }

    data_chosen : Chosen (sector_count image) sector0 (data_choice sector0)
    data_chosen = data_choice_free (sector_count image) sector0 marks.fence (omega (arith, marks.room))

    data_lowest : ForData image taken (data_choice sector0)
    data_lowest =
        elim (dec_lt (lowest_free sector0 1566 34) 1600) [
          | yes high ↦ inl (found_lowest 34 1566 (data_choice sector0) (data_choice_high sector0 high) data_chosen)
          | no full ↦
              inr (
                (λ j up free. lowest_first sector0 1566 34 j up (omega (arith, free.inside, is.size)) (marks.is_free j free)),
                found_lowest 2 32 (data_choice sector0) (data_choice_full sector0 (omega arith)) data_chosen,
              )
        ]

  descriptor_chosen : 1 ≤ free_count (sector_of image 0) → Chosen (sector_count image) (sector_of image 0) (descriptor_choice (sector_of image 0))
  descriptor_chosen = descriptor_choice_free (sector_count image) (sector_of image 0) (sound_fenced layout image is)

  -- several, one after another
  choices_taken : (many : ℕ) (taken sector0 : List ℕ) → Marks image taken sector0 many → (c : ℕ) (bs : List Block) → Linked (sector_count image) c 0 bs
      → Takes image taken (places_from 0 bs) bs (data_choices many sector0) (extended_all bs (data_choices many sector0))
  unfolding Takes data_choices extended_all
  choices_taken zero taken sector0 marks c bs linked = refl
  choices_taken (suc many) taken sector0 marks c bs linked =
      let n = sector_count image in
      let k = data_choice sector0 in
      let chosen = data_chosen taken sector0 many marks in
      let linked-more = extended_linked n k chosen.from chosen.inside c 0 bs linked in
      let rest = choices_taken many (k ∷ taken) (marked 1 sector0 k) (marks_more image taken sector0 many k marks chosen) (c + 1) (extended 0 bs k) linked-more in (
        data_lowest taken sector0 many marks,
        record { between = extended 0 bs k; to = extended_longer n c k bs linked; from = rw (extended_places n k c 0 bs linked) at rest },
      )

pub descriptor_lowest : (layout : Layout) (image : List ℕ) → Sound layout image → 1 ≤ free_count (sector_of image 0) → ForDescriptor image (descriptor_choice (sector_of image 0))
unfolding descriptor_choice
descriptor_lowest layout image is some =
    found_lowest layout image is [] (sector_of image 0) 0 (marks_none layout image is 1 some) 2 1598 (descriptor_choice (sector_of image 0)) refl (descriptor_chosen layout image is some)

pub append_takes : (layout : Layout) (image : List ℕ) (i k : ℕ) → Sound layout image → IsIndexed layout image i → 1 ≤ count k (files_in image i) → 1 ≤ free_count (sector_of image 0)
    → Takes image [] (places_in image k) (blocks (chain_of (sector_of image k))) (data_choice (sector_of image 0) ∷ []) (longer_blocks image k)
unfolding places_in places longer_blocks data_choices extended_all
append_takes layout image i k is indexed there some =
    choices_taken layout image is 1 [] (sector_of image 0) (marks_none layout image is 1 some) (sectors_of (sector_of image k)) (blocks (chain_of (sector_of image k)))
    (listed_descriptor layout image is i indexed k there).chain.linked

pub new_takes : (layout : Layout) (image : List ℕ) (many : ℕ) → Sound layout image → 1 + many ≤ free_count (sector_of image 0)
    → Takes image (descriptor_choice (sector_of image 0) ∷ []) [] [] (new_sectors image many) (new_blocks image many)
unfolding new_sectors new_blocks places_from Linked
new_takes layout image many is room =
    let sector0 = sector_of image 0 in
    let k = descriptor_choice sector0 in
    choices_taken layout image is many (k ∷ []) (marked 1 sector0 k)
    (marks_more image [] sector0 many k (marks_none layout image is (suc many) (omega (arith, room))) (descriptor_chosen layout image is (omega (arith, room)))) 0 [] refl

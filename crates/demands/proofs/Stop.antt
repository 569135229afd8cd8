-- The emergency stop: every version that meets demand 2 withstands it. The order of each change has one of two shapes: the write that commits comes last (create, store, append, overwrite, protect, unprotect, clear) or
-- first (delete, rename); overwriting with marks has a volume of its own between its two writes.
use mathlib.Core.Path.{◌≡◌, refl, sym, ap, ◌∙◌}
use mathlib.Core.Bool.{Bool, true, false, cond}
use mathlib.Core.Logic.{◌⊎◌, inl, inr}
use mathlib.Core.List.{List, [], ◌∷◌, ◌++◌, append_assoc}
use Prim.Native.Nat.{ℕ, zero, suc, ◌*◌, ◌≤◌, ◌<◌}
use native.Mathlib.Omega.{arith}
use native.Mathlib.Decide.{dec_lt, ℕ_discrete}
use lib.ListN.{length, get_or, take}
use lib.Seq.{take_all}
use Rattle.rules.specs.Sectors.{sector_count, Write, sectors_in, through, written}
use Rattle.rules.specs.Map.{count}
use Rattle.rules.specs.Volume.{index_at, indexes, files_in, files_of, places_in, file_holders, holders, catalogues}
use Rattle.rules.specs.Sound.{IsIndexed, Sound}
use Rattle.rules.specs.Tests.{first_of}
use Rattle.rules.specs.Kind.{with_marks}
use Rattle.rules.specs.Calls.Repair.{repair_tests, mending, repair_of, Mendable}
use Rattle.rules.specs.declared.Layout.{Layout}
use Rattle.rules.specs.declared.Block.{Block}
use Rattle.rules.proofs.Map.{count_none, count_here, count_other, count_more, only_one, one_once, count_apart, count_at, count_append}
use Rattle.rules.proofs.Indexes.{held_of_has}
use Rattle.rules.proofs.Staying.{free_unheld, indexes_kept}
use Rattle.rules.proofs.Written.{sector_back, entries_stand}
use Rattle.rules.proofs.Through.{through_writes}
use Rattle.rules.proofs.Tests.{unless_passed, unless_met_lem}
use Rattle.rules.proofs.Repair.{mendable}
use Rattle.rules.proofs.Mended.{mending_whole, mending_once}
use Rattle.rules.proofs.Listed.{index_low}
use Rattle.rules.proofs.Altered.{own_other, own_inside, place_other}
use Rattle.demands.specs.Effects.{Changed}
use Rattle.demands.specs.Call as call
use Rattle.demands.specs.Call.{Change, Call, Version, change_rule, number_of}
use Rattle.demands.specs.Ours.{outcome, ours}
use Rattle.demands.specs.Does.{HostWrites}
use Rattle.demands.specs.Rules.{ClearsNothing}
use Rattle.demands.specs.Grounds.{mending_faults, grounds}
use Rattle.demands.specs.Taking.{Free, ForData, Takes}
use Rattle.demands.specs.Touches.{Others, Enters, Grows, overwrite_touches, TouchesIn}
use Rattle.demands.specs.Demand2.{Means, Unlisted, Demand2}
use Rattle.demands.specs.Stop.{cut, Restores, Between, marked_catalogues, Withstands, Withstood, Stop, EmergencyStop}
use Rattle.demands.proofs.Touched.{directory_there}
use Rattle.demands.proofs.Agreeing.{Agrees, agrees_itself, descriptors_held, held_away}
use Rattle.demands.proofs.Cutting.{restored, take_count, all_written, agrees_after, commits_last}
use Rattle.demands.proofs.Mending.{mends_once, mends_others, mends_one}
use Rattle.demands.proofs.Resuming.{resumed_agrees, resumed_mends}
use Rattle.demands.proofs.Carried.{answer_number_lem}
use Rattle.demands.proofs.Refusals.{change_writes}
use Rattle.demands.proofs.Ours.{does}
use Rattle.demands.proofs.Demand2.{demand2}
use Rattle.demands.proofs.Rules.{clears_nothing}
use Rattle.demands.proofs.Between.{between_sound, between_catalogues}
use Rattle.demands.proofs.Complete.{first_one, done_sound}

-- the sectors that data takes are free, and each is taken once
takes_free : (image taken places : List ℕ) (before : List Block) (ks : List ℕ) (after : List Block) → Takes image taken places before ks after → (j : ℕ) → 1 ≤ count j ks → Free image taken j
unfolding Takes
takes_free image taken places before [] after takes j some = absurd (omega (arith, some, count_none j))
takes_free image taken places before (k ∷ ks) after takes j some =
    elim (ℕ_discrete k j) [
      | yes here ↦ rw (← here) (free takes.0)
      | no other ↦
          let later = takes_free image (k ∷ taken) _ _ ks after takes.1.from j (omega (arith, some, count_other j k ks other)) in
          record { inside = later.inside; free = later.free; other = (count_apart j k taken later.other).1 }
    ]
  where
    free : ForData image taken k → Free image taken k
    free (inl high) = high.is
    free (inr low) = low.1.is

takes_once : (image taken places : List ℕ) (before : List Block) (ks : List ℕ) (after : List Block) → Takes image taken places before ks after → (j : ℕ) → count j ks ≤ 1
unfolding Takes
takes_once image taken places before [] after takes j = omega (arith, count_none j)
takes_once image taken places before (k ∷ ks) after takes j =
    let later = takes_once image (k ∷ taken) _ _ ks after takes.1.from j in
    elim (dec_lt 0 (count j ks)) [
      | yes some ↦
          let apart = (count_apart j k taken (takes_free image (k ∷ taken) _ _ ks after takes.1.from j some).other).0 in
          omega (arith, later, count_other j k ks (λ e. apart (sym e)))
      | no none ↦ omega (arith, none, count_append j (k ∷ []) ks, one_once k j)
    ]

with_marks_lem : (layout : Layout) → layout.marks ≡ true → with_marks layout ≡ layout
with_marks_lem layout e = go layout.marks layout.directories e
  where
    go : (marks directories : Bool) → marks ≡ true → ◌≡◌ {A = Layout} (record { marks = true; directories = directories }) (record { marks = marks; directories = directories })
    go marks directories e = rw e

-- no sector of an order stands in it twice, and all that is not in it stands as it stood
record Listed (image after order : List ℕ) : Type 0 where
  once : (j : ℕ) → count j order ≤ 1
  others : Others image after order

module _ (layout : Layout) (image after : List ℕ) (i : ℕ) (name : List ℕ) (is : Sound layout image) (indexed : IsIndexed layout image i) where
  -- sector 0 and the index are held, what is free is not
  zero_held : 1 ≤ count 0 (holders layout image)
  unfolding holders
  zero_held = omega (arith, count_here 0 (indexes layout image ++ file_holders image (files_of image (indexes layout image))))

  index_held : 1 ≤ count i (holders layout image)
  unfolding holders
  index_held = omega (arith, indexed, count_append i (0 ∷ []) (indexes layout image ++ file_holders image (files_of image (indexes layout image))), count_append i (indexes layout image) (file_holders image (files_of image (indexes layout image))))

  file_held : (k : ℕ) → 1 ≤ count k (files_in image i) → 1 ≤ count k (holders layout image)
  unfolding holders
  file_held k there =
      let all = indexes layout image in
      omega (arith, there, descriptors_held image k (files_in image i), held_of_has image i all indexed k, count_append k (0 ∷ all) (file_holders image (files_of image all)))

  unheld : (taken : List ℕ) (j : ℕ) → Free image taken j → count j (holders layout image) ≡ 0
  unheld taken j free = free_unheld layout image j is free.inside free.free

  apart_held : (j h : ℕ) → count j (holders layout image) ≡ 0 → 1 ≤ count h (holders layout image) → j ≡ h → ⊥
  apart_held j h none some e = omega (arith, rw e at none, some)

  index_some : 0 ≡ i → ⊥
  index_some e = omega (arith, index_low layout image is i indexed, e)

  -- one that comes before the others, and is none of them
  before_once : (a : ℕ) (behind : List ℕ) → count a behind ≡ 0 → ((j : ℕ) → count j behind ≤ 1) → (j : ℕ) → count j (a ∷ behind) ≤ 1
  before_once a behind apart once j =
      elim (ℕ_discrete a j) [
        | yes here ↦ omega (arith, rw here at apart, count_append j (a ∷ []) behind, one_once a j)
        | no other ↦ omega (arith, once j, count_other j a behind other)
      ]

  two_once : (a b : ℕ) → (a ≡ b → ⊥) → (j : ℕ) → count j (a ∷ (b ∷ [])) ≤ 1
  two_once a b apart = before_once a (b ∷ []) (count_other a b [] (λ e. apart (sym e)) ∙ count_none a) (one_once b)

  -- data that was free comes before what was not among it
  data_once : (ks behind : List ℕ) → ((j : ℕ) → count j ks ≤ 1) → ((j : ℕ) → 1 ≤ count j ks → count j behind ≡ 0) → ((j : ℕ) → count j behind ≤ 1) → (j : ℕ) → count j (ks ++ behind) ≤ 1
  data_once ks behind once apart last j =
      elim (dec_lt 0 (count j ks)) [
        | yes some ↦ omega (arith, once j, apart j some, count_append j ks behind)
        | no none ↦ omega (arith, none, last j, count_append j ks behind)
      ]

  -- what was free is neither sector 0 nor the index
  free_apart : (j : ℕ) → count j (holders layout image) ≡ 0 → count j (0 ∷ (i ∷ [])) ≡ 0
  free_apart j none = count_other j 0 (i ∷ []) (λ e. apart_held j 0 none zero_held (sym e)) ∙ count_other j i [] (λ e. apart_held j i none index_held (sym e)) ∙ count_none j

  enters_listed : (m : ℕ) (order : List ℕ) → Enters image after i name m order → Listed image after order
  enters_listed m order e =
      let k = e.k in
      let taken = e.gains.taken in
      let ks = taken.ks in
      let system : List ℕ = 0 ∷ (i ∷ []) in
      let descriptor = free_apart k (unheld [] k e.chosen.is) in
      rw e.writes
      (record {
        once =
            data_once ks (k ∷ system) (takes_once image (k ∷ []) [] [] ks taken.chain taken.takes)
            (λ j some.
            let free = takes_free image (k ∷ []) [] [] ks taken.chain taken.takes j some in
            count_other j k system (λ e. (count_apart j k [] free.other).0 (sym e)) ∙ free_apart j (unheld (k ∷ []) j free))
            (before_once k system descriptor (two_once 0 i index_some));
        others = λ j inside none. e.gains.others j inside (omega (arith, none, count_append j ks (k ∷ system), count_append j (k ∷ []) system, count_append j system (k ∷ ks), count_append j (k ∷ []) ks));
      })

  grows_listed : (order : List ℕ) (k : ℕ) → 1 ≤ count k (files_in image i) → Grows image after i name order k → Listed image after order
  grows_listed order k there g =
      let taken = g.gains.taken in
      let ks = taken.ks in
      let own : 1 ≤ count k (k ∷ places_in image k) = omega (arith, count_here k (places_in image k)) in
      let high = (own_inside layout image i k is indexed there k own).0 in
      rw g.writes
      (record {
        once =
            data_once ks (0 ∷ (k ∷ [])) (takes_once image [] _ _ ks taken.chain taken.takes)
            (λ j some.
            let none = unheld [] j (takes_free image [] _ _ ks taken.chain taken.takes j some) in
            count_other j 0 (k ∷ []) (λ e. apart_held j 0 none zero_held (sym e)) ∙ count_other j k [] (λ e. apart_held j k none (file_held k there) (sym e)) ∙ count_none j)
            (two_once 0 k (λ e. omega (arith, high, e)));
        others = λ j inside none. g.gains.others j inside (omega (arith, none, count_append j ks (0 ∷ (k ∷ [])), count_append j (0 ∷ []) (k ∷ []), count_append j (0 ∷ []) (k ∷ ks), count_append j (k ∷ []) ks));
      })

  overwrite_listed : (order : List ℕ) (k offset : ℕ) → 1 ≤ count k (files_in image i) → offset < length (places_in image k) → Others image after (overwrite_touches layout k (get_or (places_in image k) offset 0))
      → order ≡ overwrite_touches layout k (get_or (places_in image k) offset 0) → Listed image after order
  overwrite_listed order k offset there inside others writes = rw writes (record { once = go layout.marks; others = others })
    where
      go : (t : Bool) (j : ℕ) → count j (cond t (k ∷ (get_or (places_in image k) offset 0 ∷ [])) (get_or (places_in image k) offset 0 ∷ [])) ≤ 1
      go true = two_once k (get_or (places_in image k) offset 0) (λ e. place_other layout image i k is indexed there (get_or (places_in image k) offset 0) (count_at (places_in image k) offset inside) (sym e))
      go false = one_once (get_or (places_in image k) offset 0)

  touched_listed : (change : Change) (order : List ℕ) → TouchesIn layout change image after i name order → Listed image after order
  unfolding TouchesIn
  touched_listed (call.create status record_length records_per_sector) order t = enters_listed 0 order t
  touched_listed (call.store bytes) order t = enters_listed _ order t
  touched_listed (call.append bytes) order t = grows_listed order t.sector t.listed t.so
  touched_listed (call.overwrite offset bytes) order t = overwrite_listed order t.sector offset t.listed t.so.0 t.so.1.others t.so.2
  touched_listed call.protect order t = rw t.so.1 (record { once = one_once _; others = t.so.0.others })
  touched_listed call.unprotect order t = rw t.so.1 (record { once = one_once _; others = t.so.0.others })
  touched_listed call.clear order t = rw t.so.1 (record { once = one_once _; others = t.so.0.others })
  touched_listed call.delete order t =
      rw t.so.1
      (record {
        once = two_once i 0 (λ e. index_some (sym e));
        others = λ j inside none. t.so.0.others j inside (omega (arith, none, count_append j (i ∷ []) (0 ∷ []), count_append j (0 ∷ []) (i ∷ [])));
      })
  touched_listed (call.rename new) order t =
      rw t.so.2 (record { once = two_once t.sector i (own_other layout image i t.sector is indexed t.listed t.sector (omega (arith, count_here t.sector (places_in image t.sector)))); others = t.so.0.others })

-- a change that was done, by a version that meets demand 2
module _ (layout : Layout) (version : Version) (meets : Demand2 layout version) where
  -- what is on the medium may agree with the volume before the change or with the one after it, or is that of overwriting between its two writes
  abbrev AfterCut : (change : Change) (directory : ℕ) (name image : List ℕ) → ℕ → Type 0
  AfterCut change directory name image m =
      let r = version (call.change directory name change) image in
      Agrees layout image (cut image r m) ⊎ (Agrees layout r.image (cut image r m) ⊎ (Between layout change m × Restores layout version (cut image r m) (marked_catalogues layout image directory name)))

  withstanding : (change : Change) (directory : ℕ) (name image : List ℕ) → Sound layout image →
      let r = version (call.change directory name change) image in
      Sound layout r.image → cut image r (length r.order) ≡ r.image → ((m : ℕ) → AfterCut change directory name image m) → Withstands layout version change directory name image
  unfolding through written
  withstanding change directory name image is now whole every =
      let r = version (call.change directory name change) image in
      record {
        first = restored layout version meets image image is (agrees_itself layout image is);
        last = rw whole (restored layout version meets r.image r.image now (agrees_itself layout r.image now));
        between = λ m. go m (every m);
      }
    where
      go : (m : ℕ) → AfterCut change directory name image m →
          let r = version (call.change directory name change) image in
          Restores layout version (cut image r m) (catalogues layout image)
          ⊎ (Restores layout version (cut image r m) (catalogues layout r.image)
          ⊎ (Between layout change m × Restores layout version (cut image r m) (marked_catalogues layout image directory name)))
      go m (inl before) = inl (restored layout version meets image _ is before)
      go m (inr (inl after)) = inr (inl (restored layout version meets _ _ now after))
      go m (inr (inr marked)) = inr (inr marked)

  module _ (directory : ℕ) (name image : List ℕ) (is : Sound layout image) where
    abbrev i : ℕ
    i = index_at layout image directory

    -- the facts of a change by the rule of the layout
    record Facts (change : Change) : Type 0 where
      done : Changed layout change image (version (call.change directory name change) image).image directory name
      indexed : IsIndexed layout image i
      touches : TouchesIn layout change image (version (call.change directory name change) image).image i name (version (call.change directory name change) image).order

    module _ (change : Change) (facts : Facts change) where
      abbrev after : List ℕ
      after = (version (call.change directory name change) image).image

      abbrev order : List ℕ
      order = (version (call.change directory name change) image).order

      listed : Listed image after order
      listed = touched_listed layout image after i name is facts.indexed change order facts.touches

      whole : cut image (version (call.change directory name change) image) (length order) ≡ after
      whole = ap (λ (l : List ℕ). written image (through after l)) (take_all (length order) order (omega arith)) ∙ all_written image after is.whole facts.done.size order listed.others

      -- the write that commits comes last
      last_commits : (front : List ℕ) (last : ℕ) → order ≡ front ++ (last ∷ []) → ((j : ℕ) → 1 ≤ count j front → (j ≡ 0) ⊎ (count j (holders layout image) ≡ 0)) → (m : ℕ) → AfterCut change directory name image m
      last_commits front last e spared m =
          rw e (go (take m (front ++ (last ∷ []))) (commits_last layout image after i name is facts.done.sound facts.done.size facts.done.kept front last (rw e at listed.others) spared m))
        where
          go : (done : List ℕ) → Agrees layout image (written image (through after done)) ⊎ (written image (through after done) ≡ after)
              → Agrees layout image (written image (through after done)) ⊎ (Agrees layout after (written image (through after done)) ⊎ (Between layout change m × Restores layout version (written image (through after done)) (marked_catalogues layout image directory name)))
          go done (inl before) = inl before
          go done (inr all) = inr (inl (rw all (agrees_itself layout after facts.done.sound)))

      -- two writes, and what is on the medium between them
      two_writes : (a b : ℕ) → order ≡ a ∷ (b ∷ []) → AfterCut change directory name image 1 → (m : ℕ) → AfterCut change directory name image m
      unfolding through written
      two_writes a b e between zero = inl (agrees_itself layout image is)
      two_writes a b e between (suc zero) = between
      two_writes a b e between (suc (suc m)) =
          inr (inl (rw (ap (λ (l : List ℕ). written image (through after l)) (take_all (suc (suc m)) order (rw e (omega arith))) ∙ all_written image after is.whole facts.done.size order listed.others) (agrees_itself layout after facts.done.sound)))

      -- what is still to be written when the first is done is held by no file
      first_commits : (a b : ℕ) → order ≡ a ∷ (b ∷ []) → count b (file_holders after (files_of after (indexes layout after))) ≡ 0 → (1 ≤ count i (a ∷ [])) ⊎ ((j : ℕ) → count j (files_in image i) ≡ count j (files_in after i))
          → (m : ℕ) → AfterCut change directory name image m
      first_commits a b e late own =
          two_writes a b e
          (inr
          (inl
          (rw e
          (agrees_after layout image after i name is facts.done.sound facts.done.size facts.done.kept (a ∷ (b ∷ [])) (a ∷ []) (rw e at listed.others)
          (λ j some none. rw (only_one b j (omega (arith, some, none, count_append j (a ∷ []) (b ∷ [])))) at late) own))))

    -- a new file, and one that grows: before the last only free sectors and sector 0 are written
    spared_data : (taken ks : List ℕ) → ((j : ℕ) → 1 ≤ count j ks → Free image taken j) → (behind : List ℕ) → ((j : ℕ) → 1 ≤ count j behind → (j ≡ 0) ⊎ (count j (holders layout image) ≡ 0))
        → (j : ℕ) → 1 ≤ count j (ks ++ behind) → (j ≡ 0) ⊎ (count j (holders layout image) ≡ 0)
    spared_data taken ks free behind rest j some =
        elim (dec_lt 0 (count j ks)) [
          | yes here ↦ let f = free j here in inr (free_unheld layout image j is f.inside f.free)
          | no there ↦ rest j (omega (arith, some, there, count_append j ks behind))
        ]

    spared_zero : (j : ℕ) → 1 ≤ count j (0 ∷ []) → (j ≡ 0) ⊎ (count j (holders layout image) ≡ 0)
    spared_zero j some = inl (sym (only_one 0 j some))

    new_cut : (change : Change) (facts : Facts change) (many : ℕ) → Enters image (version (call.change directory name change) image).image i name many (version (call.change directory name change) image).order
        → (m : ℕ) → AfterCut change directory name image m
    new_cut change facts many e =
        let k = e.k in
        let taken = e.gains.taken in
        let descriptor = e.chosen.is in
        last_commits change facts (taken.ks ++ (k ∷ (0 ∷ []))) i (e.writes ∙ sym (append_assoc taken.ks (k ∷ (0 ∷ [])) (i ∷ [])))
        (spared_data (k ∷ []) taken.ks (takes_free image (k ∷ []) [] [] taken.ks taken.chain taken.takes) (k ∷ (0 ∷ []))
        (λ j some.
        elim (ℕ_discrete k j) [
          | yes here ↦ inr (rw (← here) (free_unheld layout image k is descriptor.inside descriptor.free))
          | no other ↦ spared_zero j (omega (arith, some, count_other j k (0 ∷ []) other))
        ]))

    bit_cut : (change : Change) (facts : Facts change) (k : ℕ) → (version (call.change directory name change) image).order ≡ k ∷ [] → (m : ℕ) → AfterCut change directory name image m
    bit_cut change facts k e = last_commits change facts [] k e (λ j some. absurd (omega (arith, some, count_none j)))

    -- no index is held by a file, and neither is sector 0
    not_held : (volume : List ℕ) → Sound layout volume → (j : ℕ) → 1 ≤ count j (0 ∷ indexes layout volume) → count j (file_holders volume (files_of volume (indexes layout volume))) ≡ 0
    not_held volume sound j some =
        elim (dec_lt 0 (count j (file_holders volume (files_of volume (indexes layout volume))))) [
          | yes held ↦ absurd (omega (arith, some, (held_away layout volume sound j held).0))
          | no none ↦ omega (arith, none)
        ]

    -- overwriting: one write, or with marks two
    overwrite_cut : (offset : ℕ) (bytes : List ℕ) (facts : Facts (call.overwrite offset bytes)) (t : Bool) → layout.marks ≡ t → (m : ℕ) → AfterCut (call.overwrite offset bytes) directory name image m
    unfolding TouchesIn Between through written
    overwrite_cut offset bytes facts false old =
        let change = call.overwrite offset bytes in
        bit_cut change facts (get_or (places_in image facts.touches.sector) offset 0) (facts.touches.so.2 ∙ rw old)
    overwrite_cut offset bytes facts true marks =
        let change = call.overwrite offset bytes in
        let now = after change facts in
        let k = facts.touches.sector in
        let there = facts.touches.listed in
        let place = get_or (places_in image k) offset 0 in
        let e : order change facts ≡ k ∷ (place ∷ []) = facts.touches.so.2 ∙ rw marks in
        let own : 1 ≤ count k (k ∷ places_in image k) = omega (arith, count_here k (places_in image k)) in
        let placed : 1 ≤ count place (k ∷ places_in image k) = omega (arith, count_at (places_in image k) offset facts.touches.so.0, count_more place k (places_in image k)) in
        let apart = own_other layout image i k is facts.indexed there in
        let same_index = (listed change facts).others i (index_low layout image is i facts.indexed).1
        (rw e (count_other i k (place ∷ []) (apart k own) ∙ count_other i place [] (apart place placed) ∙ count_none i)) in
        let lies = facts.touches.so.1.lies in
        two_writes change facts k place e
        (inr (inr (
          (marks, refl),
          rw (e, ← between_catalogues layout image now i name k offset bytes is facts.indexed there facts.touches.named facts.done lies same_index)
              (restored layout version meets _ _ (between_sound layout image now i name k offset bytes is facts.indexed there facts.touches.named facts.done lies same_index)
              (agrees_itself layout _ (between_sound layout image now i name k offset bytes is facts.indexed there facts.touches.named facts.done lies same_index))),
        )))

    every_cut : (change : Change) → Facts change → (m : ℕ) → AfterCut change directory name image m
    unfolding TouchesIn
    every_cut (call.create status record_length records_per_sector) facts = new_cut (call.create status record_length records_per_sector) facts 0 facts.touches
    every_cut (call.store bytes) facts = new_cut (call.store bytes) facts _ facts.touches
    every_cut (call.append bytes) facts =
        let g = facts.touches.so in
        let taken = g.gains.taken in
        last_commits (call.append bytes) facts (taken.ks ++ (0 ∷ [])) facts.touches.sector (g.writes ∙ sym (append_assoc taken.ks (0 ∷ []) (facts.touches.sector ∷ [])))
        (spared_data [] taken.ks (takes_free image [] _ _ taken.ks taken.chain taken.takes) (0 ∷ []) spared_zero)
    every_cut (call.overwrite offset bytes) facts = overwrite_cut offset bytes facts layout.marks refl
    every_cut call.protect facts = bit_cut call.protect facts facts.touches.sector facts.touches.so.1
    every_cut call.unprotect facts = bit_cut call.unprotect facts facts.touches.sector facts.touches.so.1
    every_cut call.clear facts = bit_cut call.clear facts facts.touches.sector facts.touches.so.1
    every_cut call.delete facts =
        first_commits call.delete facts i 0 facts.touches.so.1
        (not_held (after call.delete facts) facts.done.sound 0 (omega (arith, count_here 0 (indexes layout (after call.delete facts)))))
        (inl (omega (arith, count_here i [])))
    every_cut (call.rename new) facts =
        let now = after (call.rename new) facts in
        let same = indexes_kept layout image now (entries_stand layout image now is facts.done.size facts.done.kept.label) in
        let indexed : IsIndexed layout now i = rw same facts.indexed in
        first_commits (call.rename new) facts facts.touches.sector i facts.touches.so.2
        (not_held now facts.done.sound i (omega (arith, indexed, count_more i 0 (indexes layout now))))
        (inr (λ j. omega (arith, facts.touches.so.1.lists j)))

    -- a change by the rule of the layout, as all are but clearing by a layout without marks
    by_layout : (change : Change) → change_rule layout change ≡ layout → number_of version (call.change directory name change) image ≡ 0 → Facts change
    unfolding Means
    by_layout change rule number =
        let c = call.change directory name change in
        let means : Means layout c image (version c image) = rw rule at (meets.means c image (rw rule is) number) in
        record { done = means.0; touches = means.1; indexed = rw rule at (directory_there (change_rule layout change) directory name change image (number_of version c image) number (meets.progress c image)) }

    facts_withstand : (change : Change) → Facts change → Withstands layout version change directory name image
    facts_withstand change facts = withstanding change directory name image is facts.done.sound (whole change facts) (every_cut change facts)

    -- clearing a mark by a layout without marks leaves every byte as it was, and so does every cut
    laid_back : (ks : List ℕ) → written image (through image ks) ≡ image
    unfolding through written
    laid_back [] = refl
    laid_back (k ∷ ks) = ap (λ (l : List ℕ). written l (through image ks)) (sector_back image k) ∙ laid_back ks

    same_withstand : (change : Change) → (version (call.change directory name change) image).image ≡ image → Withstands layout version change directory name image
    same_withstand change same =
        let r = version (call.change directory name change) image in
        withstanding change directory name image is (rw same is) (rw same (laid_back (take (length r.order) r.order))) (λ m. inl (rw (same, laid_back (take m r.order)) (agrees_itself layout image is)))

    clear_withstand : (t : Bool) → layout.marks ≡ t → number_of version (call.change directory name call.clear) image ≡ 0 → Withstands layout version call.clear directory name image
    unfolding ClearsNothing
    clear_withstand true marks number = facts_withstand call.clear (by_layout call.clear (with_marks_lem layout marks) number)
    clear_withstand false old number = same_withstand call.clear (clears_nothing layout version meets old image directory name is)

    change_withstands : (change : Change) → number_of version (call.change directory name change) image ≡ 0 → Withstands layout version change directory name image
    change_withstands (call.create status record_length records_per_sector) number = facts_withstand (call.create status record_length records_per_sector) (by_layout _ refl number)
    change_withstands (call.append bytes) number = facts_withstand (call.append bytes) (by_layout _ refl number)
    change_withstands (call.overwrite offset bytes) number = facts_withstand (call.overwrite offset bytes) (by_layout _ refl number)
    change_withstands call.protect number = facts_withstand call.protect (by_layout _ refl number)
    change_withstands call.unprotect number = facts_withstand call.unprotect (by_layout _ refl number)
    change_withstands call.clear number = clear_withstand layout.marks refl number
    change_withstands (call.store bytes) number = facts_withstand (call.store bytes) (by_layout _ refl number)
    change_withstands call.delete number = facts_withstand call.delete (by_layout _ refl number)
    change_withstands (call.rename new) number = facts_withstand (call.rename new) (by_layout _ refl number)

  -- the order of a change, whatever the rule that it goes by
  change_listed : (directory : ℕ) (name : List ℕ) (change : Change) (image : List ℕ) →
      let r = version (call.change directory name change) image in
      number_of version (call.change directory name change) image ≡ 0 → Sound (change_rule layout change) image × (length r.image ≡ length image) × Listed image r.image r.order
  unfolding Means grounds
  change_listed directory name change image number =
      let c = call.change directory name change in
      let rule = change_rule layout change in
      let is = done_sound rule image (number_of version c image) _ number (meets.progress c image) in
      let means = meets.means c image is number in
      let indexed = directory_there rule directory name change image (number_of version c image) number (meets.progress c image) in
      (is, means.0.size, touched_listed rule image (version c image).image (index_at rule image directory) name is indexed change (version c image).order means.1)

  nothing_once : (order : List ℕ) → order ≡ [] → (k : ℕ) → count k order ≤ 1
  nothing_once order none k = rw none (omega (arith, count_none k))

  done_once : (c : Call) (image : List ℕ) (k : ℕ) → number_of version c image ≡ 0 → count k (version c image).order ≤ 1
  unfolding Unlisted Means
  done_once (call.look look buffer) image k number = nothing_once _ (meets.unlisted (call.look look buffer) image) k
  done_once (call.change directory name change) image k number = (change_listed directory name change image number).2.once k
  done_once call.repair image k number = mends_once layout image _ _ (meets.mends image number) k
  done_once (call.format n name geometry) image k number = nothing_once _ (meets.unlisted (call.format n name geometry) image) k

  each_once : (c : Call) (image : List ℕ) (k : ℕ) → count k (version c image).order ≤ 1
  each_once c image k =
      elim (ℕ_discrete (number_of version c image) 0) [
        | yes number ↦ done_once c image k number
        | no some ↦ nothing_once _ (meets.refuses c image some).2 k
      ]

  -- all writes make the image afterwards
  all_make : (image after order : List ℕ) → length image ≡ 256 * sector_count image → length after ≡ length image → Others image after order → written image (through after (take (length order) order)) ≡ after
  all_make image after order whole size others = ap (λ (l : List ℕ). written image (through after l)) (take_all (length order) order (omega arith)) ∙ all_written image after whole size order others

  none_make : (image after order : List ℕ) → after ≡ image → order ≡ [] → written image (through after (take (length order) order)) ≡ after
  unfolding through written
  none_make image after order same none = rw (none, same)

  change_whole : (directory : ℕ) (name : List ℕ) (change : Change) (image : List ℕ) →
      let r = version (call.change directory name change) image in
      cut image r (length r.order) ≡ r.image
  change_whole directory name change image =
      let c = call.change directory name change in
      elim (ℕ_discrete (number_of version c image) 0) [
        | yes number ↦ let l = change_listed directory name change image number in all_make image _ _ l.0.whole l.1 l.2.others
        | no some ↦ let left = meets.refuses c image some in none_make image _ _ left.0 left.2
      ]

  -- repair accepts what can be mended
  pub accepted : (image : List ℕ) → number_of version call.repair image ≡ 0 → Mendable layout image
  unfolding ours repair_of grounds
  accepted image number =
      mendable layout image
      (first_one _ _ (mending_faults layout image) (rw (answer_number_lem (first_of (repair_tests layout image))) at ((demand2 layout).progress call.repair image)) (meets.progress call.repair image) ∙ number)

  repair_whole : (image : List ℕ) →
      let r = version call.repair image in
      cut image r (length r.order) ≡ r.image
  unfolding Means
  repair_whole image =
      elim (ℕ_discrete (number_of version call.repair image) 0) [
        | yes number ↦ let m = meets.mends image number in all_make image _ _ (accepted image number).whole m.size (mends_others layout image _ _ m)
        | no some ↦ let left = meets.refuses call.repair image some in none_make image _ _ left.0 left.2
      ]

  repair_resumes : (image : List ℕ) (m : ℕ) → number_of version call.repair image ≡ 0 →
      let r = version call.repair image in
      let again = version call.repair (cut image r m) in
      (number_of version call.repair (cut image r m) ≡ 0) × (again.image ≡ r.image)
  unfolding Means
  repair_resumes image m number =
      let r = version call.repair image in
      let first = meets.mends image number in
      let is = accepted image number in
      let done = take m r.order in
      let among : (j : ℕ) → count j done ≤ count j r.order = λ j. take_count j m r.order in
      let agrees = resumed_agrees layout image r.image r.order is first done among in
      let again = (restored layout version meets r.image (cut image r m) first.sound agrees).done in
      (again, mends_one layout (cut image r m) _ r.image _ _ (meets.mends (cut image r m) again) (resumed_mends layout image r.image r.order is first done among))

pub emergency_stop : (layout : Layout) → EmergencyStop layout
unfolding EmergencyStop Withstood
emergency_stop layout version meets =
    record {
      meets = meets;
      once = each_once layout version meets;
      whole = change_whole layout version meets;
      mended = repair_whole layout version meets;
      withstands = λ change directory name image is number. change_withstands layout version meets directory name image is change number;
      resumes = repair_resumes layout version meets;
    }

-- so ours does
pub stop : (layout : Layout) → Stop layout (ours layout)
unfolding EmergencyStop
stop layout = emergency_stop layout (ours layout) (demand2 layout)

-- and a host that writes through what it is given makes the writes of the definitions
none_through : (image : List ℕ) (writes : List Write) → writes ≡ [] → through (written image writes) (sectors_in writes) ≡ writes
unfolding through sectors_in
none_through image writes none = rw none

pub host_writes : (layout : Layout) → HostWrites layout
unfolding ours repair_of
host_writes layout =
    record {
      changes = λ change directory name image.
          let result = outcome layout change image directory name in
          elim (ℕ_discrete result.number 0) [
            | yes number ↦ through_writes image result.writes (does layout change image directory name number).2 ((stop layout).once (call.change directory name change) image)
            | no some ↦ none_through image result.writes ((change_writes layout change image directory name).none some)
          ];
      repairs = λ image.
          elim (ℕ_discrete (first_of (repair_tests layout image)) 0) [
            | yes number ↦
                let is = mendable layout image number in
                rw (unless_passed (repair_tests layout image) (mending layout image) [] number) (through_writes image (mending layout image) (mending_whole layout image is) (mending_once layout image is))
            | no some ↦ none_through image _ (unless_met_lem (repair_tests layout image) (mending layout image) [] some)
          ];
    }

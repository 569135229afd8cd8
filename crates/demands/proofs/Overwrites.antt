-- Overwrite: the sector written is a place of the file and stands there once, so the other contents stay, and of the descriptor all but the mark.
use mathlib.Core.Path.{◌≡◌, refl, sym, ap, ◌∙◌}
use mathlib.Core.Bool.{Bool, true, false, cond}
use mathlib.Core.List.{List, [], ◌∷◌, map, append-nil}
use Prim.Native.Nat.{ℕ, ◌+◌, ◌*◌, ◌≤◌, ◌<◌}
use native.Mathlib.Omega.{arith}
use native.Mathlib.Decide.{ℕ_discrete}
use lib.ListN.{length, get_or, set}
use borrow.Author.Tests.{not-false, eqb-true, leb-false}
use Rattle.rules.specs.Bytes.{splice}
use Rattle.rules.specs.Sectors.{sector_of, sector_count, sectors_in, Whole}
use Rattle.rules.specs.Map.{count, marked_all}
use Rattle.rules.specs.Chain.{places}
use Rattle.rules.specs.Descriptor.{name_of, sectors_of, chain_of, marked_by}
use Rattle.rules.specs.Volume.{files_in, name_in, places_in, header_in, contents_in, file_in}
use Rattle.rules.specs.Tests.{Passed}
use Rattle.rules.specs.Outcome.{write}
use Rattle.rules.specs.Opening.{open_of}
use Rattle.rules.specs.Calls.Overwrite.{overwrite_tests, overwrite_writes, overwriting, overwrite_of}
use Rattle.rules.specs.declared.Layout.{Layout}
use Rattle.rules.proofs.Map.{count_none, count_here, count_more, count_apart, count_at}
use Rattle.rules.proofs.Marks.{mark_length, mark_name, mark_chain, mark_rules, mark_header, mark_none, overwrite_written}
use Rattle.rules.proofs.Splice.{splice-length}
use Rattle.rules.proofs.Volume.{places_count}
use Rattle.rules.proofs.Tests.{all_passed, unless_passed}
use Rattle.rules.proofs.Opening.{IsOpened, opened_at, open_refused, changed_done}
use Rattle.rules.proofs.Staying.{map_changed}
use Rattle.rules.proofs.Written.{sector_same, sector_other}
use Rattle.rules.proofs.Listed.{sector_inside, opened_listed}
use Rattle.rules.proofs.Altered.{Altered, own_once, own_inside, own_other, place_other}
use Rattle.demands.specs.Call.{overwrite}
use Rattle.demands.specs.Ours.{outcome}
use Rattle.demands.specs.Effects.{marked_file, overwritten}
use Rattle.demands.specs.Grounds.{Has}
use Rattle.demands.specs.Touches.{Stays, overwrite_touches, TouchesIn}
use Rattle.demands.specs.Does.{Does}
use Rattle.demands.proofs.Replacing.{altered_done, altered_lies, found_has}

-- the call on the file at sector k: the descriptor marked, then the data; without marks the descriptor stays
module _ (layout : Layout) (image name : List ℕ) (i p k : ℕ) (o : IsOpened layout image name i p k) (offset : ℕ) (bytes : List ℕ) (inside : offset < sectors_of (sector_of image k)) (long : length bytes ≡ 256) where
  abbrev at : ℕ
  at = get_or (places_in image k) offset 0

  abbrev marked : List ℕ
  marked = marked_by layout (sector_of image k)

  abbrev between : List ℕ
  between = splice image (256 * k) marked

  abbrev after : List ℕ
  after = splice (splice image (256 * k) (marked_by layout (sector_of image k))) (256 * get_or (places_in image k) offset 0) bytes

  abbrev there : 1 ≤ count k (files_in image i)
  there = opened_listed layout image name i p k o

  offset_low : offset < length (places_in image k)
  offset_low = omega (arith, inside, places_count layout (sector_count image) image k o.descriptor)

  placed_there : 1 ≤ count at (places_in image k)
  placed_there = count_at (places_in image k) offset offset_low

  apart : k ≡ at → ⊥
  apart e = place_other layout image i k o.whole o.indexed there at placed_there (sym e)

  own : (j : ℕ) → 1 ≤ count j (k ∷ places_in image k) → (2 ≤ j) × (j < sector_count image)
  own = own_inside layout image i k o.whole o.indexed there

  own_apart : (j : ℕ) → 1 ≤ count j (k ∷ places_in image k) → j ≡ i → ⊥
  own_apart = own_other layout image i k o.whole o.indexed there

  own_data : (2 ≤ at) × (at < sector_count image)
  own_data = own at (omega (arith, placed_there, count_more at k (places_in image k)))

  own_descriptor : (2 ≤ k) × (k < sector_count image)
  own_descriptor = own k (omega (arith, count_here k (places_in image k)))

  size : length after ≡ length image
  size = splice-length between (256 * at) bytes ∙ splice-length image (256 * k) marked

  long_marked : length marked ≡ 256
  long_marked = mark_length layout (sector_of image k) ∙ o.long

  -- the two sectors, and all others
  descriptor_now : sector_of after k ≡ marked
  descriptor_now = sector_other between at bytes long k apart ∙ sector_same image k marked long_marked (sector_inside layout image o.whole k own_descriptor.1)

  data_now : sector_of after at ≡ bytes
  data_now = sector_same between at bytes long (omega (arith, splice-length image (256 * k) marked, sector_inside layout image o.whole at own_data.1))

  others : (j : ℕ) → (j ≡ k → ⊥) → (j ≡ at → ⊥) → sector_of after j ≡ sector_of image j
  others j other foreign = sector_other between at bytes long j foreign ∙ sector_other image k marked long_marked j other

  places_now : places_in after k ≡ places_in image k
  unfolding places_in
  places_now = ap (λ (s : List ℕ). places (chain_of s)) descriptor_now ∙ ap places (mark_chain layout (sector_of image k))

  contents_now : contents_in after k ≡ set (contents_in image k) offset bytes
  unfolding contents_in
  contents_now =
      ap (map (sector_of after)) places_now
      ∙ map_changed (sector_of image) (sector_of after) (places_in image k) offset offset_low
      (omega (arith, own_once layout image i k o.whole o.indexed there at, count_more at k (places_in image k))) (λ j some other. others j (place_other layout image i k o.whole o.indexed there j some) other)
      ∙ ap (set (map (sector_of image) (places_in image k)) offset) data_now

  file_now : overwritten offset bytes (marked_file layout (file_in image k)) ≡ file_in after k
  unfolding overwritten marked_file file_in header_in
  file_now = rw (contents_now, descriptor_now, mark_header layout (sector_of image k))

  changed_there : Altered layout image after i k []
  unfolding marked_all name_in
  changed_there =
      record {
        sound = o.whole;
        indexed = o.indexed;
        listed = there;
        size = size;
        once = λ j. omega (arith, count_none j);
        free = λ j some. absurd (omega (arith, some, count_none j));
        sector0 = others 0 (λ e. omega (arith, e, own_descriptor.0)) (λ e. omega (arith, e, own_data.0));
        index = others i (λ e. own_apart k (omega (arith, count_here k (places_in image k))) (sym e)) (λ e. own_apart at (omega (arith, placed_there, count_more at k (places_in image k))) (sym e));
        rules = rw descriptor_now (mark_rules layout (sector_of image k) o.long (sector_count image) o.descriptor);
        named = ap name_of descriptor_now ∙ mark_name layout (sector_of image k);
        places = places_now ∙ sym (append-nil (places_in image k));
        stands = λ j held foreign.
            let some = count_apart j k (places_in image k) foreign in
            others j some.0 (λ e. omega (arith, rw e at some.1, placed_there));
      }

  -- what is not touched stands: without marks the descriptor too
  untouched : (t : Bool) → layout.marks ≡ t → (j : ℕ) → count j (cond t (k ∷ (at ∷ [])) (at ∷ [])) ≡ 0 → sector_of after j ≡ sector_of image j
  untouched true e j none = let some = count_apart j k (at ∷ []) none in others j some.0 (count_apart j at [] some.1).0
  untouched false e j none =
      elim (ℕ_discrete j k) [
        | yes here ↦ rw here (descriptor_now ∙ mark_none layout (sector_of image k) e)
        | no other ↦ others j other (count_apart j at [] none).0
      ]

  -- the writes are what is touched
  listed_so : sectors_in (overwrite_writes layout image offset bytes k) ≡ overwrite_touches layout k at
  unfolding overwrite_writes sectors_in
  listed_so = go layout.marks
    where
      go : (t : Bool) → sectors_in (cond t (write k marked ∷ (write at bytes ∷ [])) (write at bytes ∷ [])) ≡ cond t (k ∷ (at ∷ [])) (at ∷ [])
      go true = refl
      go false = refl

  whole_writes : Whole (length image) (overwrite_writes layout image offset bytes k)
  unfolding overwrite_writes Whole
  whole_writes = go layout.marks
    where
      fits : (j : ℕ) → j < sector_count image → 256 * j + 256 ≤ length image
      fits = sector_inside layout image o.whole

      go : (t : Bool) → Whole (length image) (cond t (write k marked ∷ (write at bytes ∷ [])) (write at bytes ∷ []))
      go true = (long_marked, fits k own_descriptor.1, (long, fits at own_data.1, tt))
      go false = (long, fits at own_data.1, tt)

  overwritten_stays : Has image i name
      (λ j.
      let touched = overwrite_touches layout j (get_or (places_in image j) offset 0) in
      (offset < length (places_in image j)) × Stays image after i name j touched × (sectors_in (overwrite_writes layout image offset bytes k) ≡ touched))
  overwritten_stays =
      found_has layout image name i p k o (
        offset_low,
        record {
          lies =
              rw (append-nil (places_in image k)) at
              (altered_lies layout changed_there name o.named (chain_of (sector_of image k)) (ap chain_of descriptor_now ∙ mark_chain layout (sector_of image k)));
          others = λ j inside none. untouched layout.marks refl j none;
        },
        listed_so,
      )

pub overwrites : (layout : Layout) (offset : ℕ) (bytes : List ℕ) → Does layout (overwrite offset bytes)
unfolding outcome overwrite_of overwriting overwrite_tests Passed TouchesIn
overwrites layout offset bytes image directory name e =
    let c = changed_done (open_of layout image directory name) (λ i k. overwriting layout image offset bytes k) (open_refused layout image directory name) e in
    let i = c.index in
    let k = c.sector in
    let tests = overwrite_tests image offset bytes k in
    let passed = all_passed tests c.number in
    let opened = opened_at layout image directory name i c.place k c.found_at in
    let o = opened.1 in
    let inside = leb-false (sectors_of (sector_of image k)) offset passed.1.1.0 in
    let long = eqb-true (length bytes) 256 (not-false _ passed.1.1.1.0) in
    rw (c.is, unless_passed tests (overwrite_writes layout image offset bytes k) [] c.number, overwrite_written layout image bytes offset k, opened.0) (
      altered_done layout (changed_there layout image name i c.place k o offset bytes inside long) name o.named (λ file. overwritten offset bytes (marked_file layout file))
          (file_now layout image name i c.place k o offset bytes inside long),
      overwritten_stays layout image name i c.place k o offset bytes inside long,
      whole_writes layout image name i c.place k o offset bytes inside long,
    )

-- Append: the sector taken was free, so it is nobody's, and the three writes are to different sectors. The descriptor with the longer chain keeps its rules, its places
-- are the old ones and the new one behind them, and its header changes in the number of sectors alone.
use mathlib.Core.Path.{◌≡◌, refl, sym, ap, ◌∙◌}
use mathlib.Core.Bool.{false}
use mathlib.Core.List.{List, [], ◌∷◌, ◌++◌, map, map-append}
use Prim.Native.Nat.{ℕ, ◌+◌, ◌≤◌, ◌<◌}
use native.Mathlib.Omega.{arith}
use lib.ListN.{length, take, length-map}
use borrow.Author.Tests.{not-false, eqb-true, ltb-false}
use Rattle.rules.specs.Bytes.{word_bytes, splice}
use Rattle.rules.specs.Sectors.{Write, sector_of, sector_count, written, sectors_in, Whole}
use Rattle.rules.specs.Map.{count, free_count, marked, marked_all}
use Rattle.rules.specs.Chain.{blocks, places, extended, chain_with}
use Rattle.rules.specs.Kind.{is_program}
use Rattle.rules.specs.Descriptor.{name_of, status_of, sectors_of, chain_of, marked_by, IsDescriptor}
use Rattle.rules.specs.Volume.{files_in, name_in, places_in, holders, header_in, contents_in, file_in, catalogue}
use Rattle.rules.specs.Choice.{data_choice}
use Rattle.rules.specs.declared.Layout.{Layout}
use Rattle.rules.specs.declared.Block.{Block}
use Rattle.rules.specs.Outcome.{write}
use Rattle.rules.specs.Tests.{Passed}
use Rattle.rules.specs.Opening.{open_of}
use Rattle.rules.specs.Calls.Append.{longer_blocks, append_tests, append_writes, appending, append_of}
use Rattle.rules.proofs.Extended.{with_chain-length, sectors_few}
use Rattle.rules.proofs.Map.{count_here, count_more, only_one, one_once, count_apart}
use Rattle.rules.proofs.Volume.{places_count}
use Rattle.rules.proofs.Marking.{marked-length}
use Rattle.rules.proofs.Marks.{marking_bit, mark_length, mark_status, mark_name, mark_chain, mark_sectors, mark_rules, mark_header}
use Rattle.rules.proofs.Longer.{longer_blocks_lem, longer_descriptor, longer_name, longer_header, longer_places, longer_chain, longer_rules}
use Rattle.rules.proofs.Choice.{Chosen, sound_fenced, data_choice_free}
use Rattle.rules.proofs.Tests.{all_passed, unless_passed}
use Rattle.rules.proofs.Opening.{IsOpened, opened_at, open_refused, changed_done}
use Rattle.rules.proofs.Written.{written-length, Apart, written_apart, written_at}
use Rattle.rules.proofs.Listed.{label_long, sector_inside, index_low, rest_apart, opened_listed}
use Rattle.rules.proofs.Replaced.{at, besides, all_parted}
use Rattle.rules.proofs.Altered.{Altered, own_inside, own_other, place_other}
use Rattle.rules.proofs.Staying.{free_unheld, map_agree}
use Rattle.demands.specs.Catalogue.{changed}
use Rattle.demands.specs.Call.{append}
use Rattle.demands.specs.Ours.{outcome}
use Rattle.demands.specs.Effects.{effect, Done, marked_file, longer}
use Rattle.demands.specs.Grounds.{Has}
use Rattle.demands.specs.Taking.{Takes}
use Rattle.demands.specs.Touches.{Grows, TouchesIn}
use Rattle.demands.specs.Does.{Does}
use Rattle.demands.proofs.Replacing.{altered_done, altered_lies, found_has}
use Rattle.demands.proofs.Taking.{append_takes}

-- The three writes, with a free sector `new` and a descriptor `d` for the file at sector k.
module _ (layout : Layout) (image name : List ℕ) (i p k : ℕ) (o : IsOpened layout image name i p k) (bytes : List ℕ) (long : length bytes ≡ 256)
    (new : ℕ) (chosen : Chosen (sector_count image) (sector_of image 0) new) (d : List ℕ) (size : length d ≡ 256) where
  abbrev first : Write
  first = write new bytes

  abbrev second : Write
  second = write 0 (marked 1 (sector_of image 0) new)

  abbrev third : Write
  third = write k d

  abbrev after : List ℕ
  after = written image (first ∷ (second ∷ (third ∷ [])))

  abbrev there : 1 ≤ count k (files_in image i)
  there = opened_listed layout image name i p k o

  -- the sector taken was nobody's
  held_other : (j : ℕ) → 1 ≤ count j (holders layout image) → j ≡ new → ⊥
  held_other j held e = omega (arith, rw e at held, free_unheld layout image new o.whole chosen.inside chosen.free)

  own : (j : ℕ) → 1 ≤ count j (k ∷ places_in image k) → 1 ≤ count j (holders layout image)
  own j held = omega (arith, held, all_parted layout image i o.indexed (at k) there j)

  own_range : (2 ≤ k) × (k < sector_count image)
  own_range = own_inside layout image i k o.whole o.indexed there k (omega (arith, count_here k (places_in image k)))

  whole : Whole (length image) (first ∷ (second ∷ (third ∷ [])))
  unfolding Whole
  whole =
      let fits = sector_inside layout image o.whole in (
        long,
        fits new chosen.inside,
        (marked-length 1 (sector_of image 0) new ∙ label_long layout image o.whole, fits 0 (omega (arith, o.whole.size)), (size, fits k own_range.1, tt)),
      )

  new_now : sector_of after new ≡ bytes
  unfolding Apart
  new_now = written_at image [] first (second ∷ (third ∷ [])) whole ((λ e. omega (arith, e, chosen.from)), ((λ e. held_other k (own k (omega (arith, count_here k (places_in image k)))) (sym e)), tt))

  map_now : sector_of after 0 ≡ marked 1 (sector_of image 0) new
  unfolding Apart
  map_now = written_at image (first ∷ []) second (third ∷ []) whole ((λ e. omega (arith, e, own_range.0)), tt)

  descriptor_now : sector_of after k ≡ d
  unfolding Apart
  descriptor_now = written_at image (first ∷ (second ∷ [])) third [] whole tt

  -- all else stands as it stood
  else_same : (j : ℕ) → 1 ≤ j → (j ≡ new → ⊥) → (j ≡ k → ⊥) → sector_of after j ≡ sector_of image j
  unfolding Apart
  else_same j some apart other = written_apart image (first ∷ (second ∷ (third ∷ []))) j whole (apart, ((λ e. omega (arith, e, some)), (other, tt)))

  held_same : (j : ℕ) → 1 ≤ count j (besides layout image i (at k)) → sector_of after j ≡ sector_of image j
  held_same j held =
      let apart = rest_apart layout image o.whole i o.indexed k there j held in
      else_same j (omega (arith, apart.0)) (held_other j (omega (arith, held, all_parted layout image i o.indexed (at k) there j, count_more j 0 (i ∷ besides layout image i (at k)), count_more j i (besides layout image i (at k)))))
      (count_apart j k (places_in image k) apart.2).0

  place_same : (j : ℕ) → 1 ≤ count j (places_in image k) → sector_of after j ≡ sector_of image j
  place_same j placed =
      let held : 1 ≤ count j (k ∷ places_in image k) = omega (arith, placed, count_more j k (places_in image k)) in
      else_same j (omega (arith, (own_inside layout image i k o.whole o.indexed there j held).0)) (held_other j (own j held)) (place_other layout image i k o.whole o.indexed there j placed)

  -- where the descriptor is the old one with the new sector at its end
  module _ (rules : IsDescriptor layout (sector_count image) d) (named : name_of d ≡ name_in image k) (longer-by : places (chain_of d) ≡ places_in image k ++ (new ∷ [])) where
    places_now : places_in after k ≡ places_in image k ++ (new ∷ [])
    unfolding places_in
    places_now = ap (λ (s : List ℕ). places (chain_of s)) descriptor_now ∙ longer-by

    altered : Altered layout image after i k (new ∷ [])
    unfolding marked_all name_in
    altered =
        record {
          sound = o.whole;
          indexed = o.indexed;
          listed = there;
          size = written-length image (first ∷ (second ∷ (third ∷ [])));
          once = one_once new;
          free = λ j some. rw (← only_one new j some) chosen;
          sector0 = map_now;
          index =
              else_same i (index_low layout image o.whole i o.indexed).0
              (held_other i (omega (arith, all_parted layout image i o.indexed (at k) there i, count_more i 0 (i ∷ besides layout image i (at k)), count_here i (besides layout image i (at k)))))
              (λ e. own_other layout image i k o.whole o.indexed there k (omega (arith, count_here k (places_in image k))) (sym e));
          rules = rw descriptor_now rules;
          named = ap name_of descriptor_now ∙ named;
          places = places_now;
          stands = λ j held foreign. held_same j held;
        }

    contents_now : contents_in after k ≡ contents_in image k ++ (bytes ∷ [])
    unfolding contents_in
    contents_now =
        ap (map (sector_of after)) places_now
        ∙ map-append (sector_of after) (places_in image k) (new ∷ [])
        ∙ rw (new_now, map_agree (sector_of after) (sector_of image) (places_in image k) place_same)

    many : length (contents_in image k) ≡ sectors_of (sector_of image k)
    unfolding contents_in
    many = length-map (places_in image k) (sector_of image) ∙ places_count layout (sector_count image) image k o.descriptor

    appended_done : take 28 d ≡ splice (take 28 (marked_by layout (sector_of image k))) 14 (word_bytes (sectors_of (sector_of image k) + 1))
        → Done layout image after i name (effect (changed name (λ file. longer bytes (marked_file layout file)) (catalogue image i)) 1 0)
    unfolding longer marked_file file_in header_in
    appended_done header =
        altered_done layout altered name o.named (λ file. longer bytes (marked_file layout file))
        (rw (many, descriptor_now, header, contents_now, mark_header layout (sector_of image k)))

    -- and its blocks are those that the sector makes longer
    appended_gains : (blocks-now : List Block) → Takes image [] (places_in image k) (blocks (chain_of (sector_of image k))) (new ∷ []) blocks-now → chain_of d ≡ chain_with blocks-now
        → Has image i name (Grows image after i name (new ∷ (0 ∷ (k ∷ []))))
    unfolding marked_all
    appended_gains blocks-now takes chain =
        found_has layout image name i p k o
        (record {
          gains = record {
            taken = record { ks = new ∷ []; so_many = refl; chain = blocks-now; takes = takes };
            lies = altered_lies layout altered name o.named (chain_with blocks-now) (ap chain_of descriptor_now ∙ chain);
            map = map_now;
            others = λ j inside apart.
                let some = count_apart j 0 (k ∷ (new ∷ [])) apart in
                let own = count_apart j k (new ∷ []) some.1 in
                else_same j (omega (arith, some.0)) (count_apart j new [] own.1).0 own.0;
          };
          writes = refl;
        })

appending_done : (layout : Layout) (image name bytes : List ℕ) (i p k : ℕ) → IsOpened layout image name i p k → Passed (append_tests image bytes k) →
    let after = written image (append_writes layout image bytes k) in
    Done layout image after i name (effect (changed name (λ file. longer bytes (marked_file layout file)) (catalogue image i)) 1 0)
    × Has image i name (Grows image after i name (sectors_in (append_writes layout image bytes k))) × Whole (length image) (append_writes layout image bytes k)
unfolding name_in places_in append_tests append_writes longer_blocks Passed sectors_in
appending_done layout image name bytes i p k o passed =
    let n = sector_count image in
    let d = sector_of image k in
    let marked = marked_by layout d in
    let same-sectors = mark_sectors layout d in
    let same_chain = mark_chain layout d in
    let new = data_choice (sector_of image 0) in
    let room = ltb-false (free_count (sector_of image 0)) 1 passed.1.1.1.0 in
    let chosen = data_choice_free n (sector_of image 0) (sound_fenced layout image o.whole) room in
    let short : sectors_of marked ≤ 1600 = rw same-sectors (rw o.is at (sectors_few layout image i p o.whole o.indexed o.inside)) in
    let small = o.whole.size.1 in
    let few : length (longer_blocks_lem marked new) ≤ 76 = rw same_chain (ltb-false 76 (length (longer_blocks_lem d new)) passed.1.1.1.1.0) in
    let long = eqb-true (length bytes) 256 (not-false _ passed.1.1.0) in
    let marked-long = mark_length layout d ∙ o.long in
    let kept = mark_rules layout d o.long n o.descriptor in
    let records : is_program (status_of marked) ≡ false = rw (mark_status layout d (omega (arith, o.long)), marking_bit layout (status_of d) 0 (λ e. omega (arith, e))) passed.1.0 in
    let size = with_chain-length marked (sectors_of marked + 1) (longer_blocks_lem marked new) ∙ marked-long in
    let rules = longer_rules layout n marked new marked-long kept small short chosen.from chosen.inside records few in
    let named = longer_name marked new ∙ mark_name layout d in
    let places = longer_places layout n marked new marked-long kept small short chosen.from chosen.inside records few ∙ ap (λ (chain : List ℕ). places chain ++ (new ∷ [])) same_chain in
    let chain = longer_chain layout n marked new marked-long kept small short chosen.from chosen.inside records few ∙ ap (λ (chain : List ℕ). chain_with (extended 0 (blocks chain) new)) same_chain in
    let header = longer_header marked new ∙ ap (λ (c : ℕ). splice (take 28 marked) 14 (word_bytes (c + 1))) same-sectors in
    rw (← same-sectors, ← same_chain) (
      appended_done layout image name i p k o bytes long new chosen (longer_descriptor marked new) size rules named places header,
      appended_gains layout image name i p k o bytes long new chosen (longer_descriptor marked new) size rules named places (longer_blocks_lem d new)
          (append_takes layout image i k o.whole o.indexed (opened_listed layout image name i p k o) room) chain,
      whole layout image name i p k o bytes long new chosen (longer_descriptor marked new) size,
    )

pub appends : (layout : Layout) (bytes : List ℕ) → Does layout (append bytes)
unfolding outcome append_of appending TouchesIn
appends layout bytes image directory name e =
    let c = changed_done (open_of layout image directory name) (λ i k. appending layout image bytes k) (open_refused layout image directory name) e in
    let i = c.index in
    let k = c.sector in
    let tests = append_tests image bytes k in
    let opened = opened_at layout image directory name i c.place k c.found_at in
    rw (c.is, unless_passed tests (append_writes layout image bytes k) [] c.number, opened.0)
    (appending_done layout image name bytes i c.place k opened.1 (all_passed tests c.number))

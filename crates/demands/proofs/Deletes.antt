-- Delete: the file goes and none comes. Its number leaves the index, the bits of its descriptor and places are cleared, and every other sector stands as it stood.
use mathlib.Core.Path.{◌≡◌, refl, ◌∙◌}
use mathlib.Core.List.{List, [], ◌∷◌}
use Prim.Native.Nat.{ℕ, ◌≤◌, ◌<◌}
use native.Mathlib.Omega.{arith}
use lib.ListN.{length, length-map}
use Rattle.rules.specs.Sectors.{sector_of, sector_count, Write, sectors_in, written, Whole}
use Rattle.rules.specs.Map.{count, marked_all}
use Rattle.rules.specs.Index.{index_of, without}
use Rattle.rules.specs.Volume.{files_in, name_in, places_in, contents_in, file_in, catalogue}
use Rattle.rules.specs.Sound.{IsIndexed, Sound}
use Rattle.rules.specs.Outcome.{write}
use Rattle.rules.specs.Opening.{open_of}
use Rattle.rules.specs.Calls.Delete.{delete_tests, deleting, delete_of}
use Rattle.rules.specs.declared.Layout.{Layout}
use Rattle.rules.proofs.Tests.{unless_passed}
use Rattle.rules.proofs.Map.{count_apart}
use Rattle.rules.proofs.Marking.{all_length}
use Rattle.rules.proofs.Indexed.{without-length, index_length}
use Rattle.rules.proofs.Opening.{opened_at, open_refused, changed_done, place_many}
use Rattle.rules.proofs.Written.{written-length, Apart, written_apart, written_at}
use Rattle.rules.proofs.Listed.{label_long, sector_inside, rest_apart, opened_listed, index_low}
use Rattle.rules.proofs.Replaced.{none, at, Replaced, index_anew, given_mapped}
use Rattle.demands.specs.Catalogue.{taken_out, named, held}
use Rattle.demands.specs.Call.{delete}
use Rattle.demands.specs.Ours.{outcome}
use Rattle.demands.specs.Effects.{effect, Done}
use Rattle.demands.specs.Touches.{Leaves, TouchesIn}
use Rattle.demands.specs.Does.{Does}
use Rattle.demands.proofs.Filed.{named_file}
use Rattle.demands.proofs.Replacing.{catalogue-after, replaced_done, numbers_after, found_has}

module _ (layout : Layout) (image : List ℕ) (i : ℕ) (name : List ℕ) (k : ℕ) (is : Sound layout image) (indexed : IsIndexed layout image i) (there : 1 ≤ count k (files_in image i)) (is_named_lem : name ≡ name_in image k) where
  abbrev first : Write
  first = write i (index_of (without k (files_in image i)))

  abbrev second : Write
  second = write 0 (marked_all 0 (sector_of image 0) (k ∷ places_in image k))

  abbrev after : List ℕ
  after = written image (first ∷ (second ∷ []))

  range : (1 ≤ i) × (i < sector_count image)
  range = index_low layout image is i indexed

  whole : Whole (length image) (first ∷ (second ∷ []))
  unfolding Whole
  whole =
      let fits = sector_inside layout image is in (
        index_length (without k (files_in image i)),
        fits i range.1,
        (all_length 0 (sector_of image 0) (k ∷ places_in image k) ∙ label_long layout image is, fits 0 (omega (arith, is.size)), tt),
      )

  sector0 : sector_of after 0 ≡ marked_all 0 (sector_of image 0) (k ∷ places_in image k)
  unfolding Apart
  sector0 = written_at image (first ∷ []) second [] whole tt

  index_now : sector_of after i ≡ index_of (without k (files_in image i))
  unfolding Apart
  index_now = written_at image [] first (second ∷ []) whole ((λ e. omega (arith, e, range)), tt)

  others : (j : ℕ) → (j ≡ 0 → ⊥) → (j ≡ i → ⊥) → sector_of after j ≡ sector_of image j
  unfolding Apart
  others j some apart = written_apart image (first ∷ (second ∷ [])) j whole (apart, (some, tt))

  replaced : Replaced layout image after i name (at k) none
  replaced =
      record {
        sound = is;
        indexed = indexed;
        listed = there;
        size = written-length image (first ∷ (second ∷ []));
        mapped = given_mapped layout image after i (at k) is indexed there sector0;
        numbered =
            index_anew layout image after i name (at k) none is indexed (λ j e. absurd (let z : ◌≡◌ {A = ℕ} 0 1 = cc in omega arith))
            (omega (arith, without-length k (files_in image i) there, place_many layout image i (is.each i indexed))) index_now;
        stands = λ j held. let apart = rest_apart layout image is i indexed k there j held in others j apart.0 apart.1;
        new = tt;
      }

  was_held : held (named name (catalogue image i)) ≡ length (k ∷ places_in image k)
  unfolding held file_in contents_in
  was_held = rw (named_file layout image i name k is indexed there is_named_lem, length-map (places_in image k) (sector_of image)) (omega arith)

  deleted : Done layout image after i name (effect (taken_out name (catalogue image i)) 0 (held (named name (catalogue image i))))
  deleted = replaced_done layout replaced name is_named_lem _ 0 _ (catalogue-after layout replaced name is_named_lem) (omega (arith, was_held))

  leaves : Leaves image after i k
  leaves =
      record {
        map = sector0;
        numbers = numbers_after layout replaced index_now;
        others = λ j inside apart.
            let some = count_apart j 0 _ apart in
            others j some.0 (count_apart j i _ some.1).0;
      }

  -- and its writes are the index and sector 0
  leaves_so : Leaves image after i k × (sectors_in (first ∷ (second ∷ [])) ≡ i ∷ (0 ∷ []))
  unfolding sectors_in
  leaves_so = (leaves, refl)

pub deletes : (layout : Layout) → Does layout delete
unfolding outcome delete_of deleting TouchesIn
deletes layout image directory name e =
    let was = changed_done (open_of layout image directory name) (deleting image) (open_refused layout image directory name) e in
    let i = was.index in
    let k = was.sector in
    let opened-there = opened_at layout image directory name i was.place k was.found_at in
    let opened = opened-there.1 in
    let there = opened_listed layout image name i was.place k opened in
    rw (
      was.is,
      unless_passed (delete_tests image k) (first layout image i name k opened.whole opened.indexed there opened.named ∷ (second layout image i name k opened.whole opened.indexed there opened.named ∷ [])) [] was.number,
      opened-there.0,
    ) (
      deleted layout image i name k opened.whole opened.indexed there opened.named,
      found_has layout image name i was.place k opened {holds = λ h. Leaves image (after layout image i name k opened.whole opened.indexed there opened.named) i h × _}
          (leaves_so layout image i name k opened.whole opened.indexed there opened.named),
      whole layout image i name k opened.whole opened.indexed there opened.named,
    )

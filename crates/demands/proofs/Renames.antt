-- Rename: the file goes and comes under another name. That changes ten bytes in its descriptor and the place of its number in the index; the new name is no file's, so the names ascend
-- again, and the chain stands as it stood, so the holders are the same and the map needs no change.
use mathlib.Core.Path.{◌≡◌, refl, ap, ◌∙◌}
use mathlib.Core.Bool.{true}
use mathlib.Core.List.{List, [], ◌∷◌}
use Prim.Native.Nat.{ℕ, ◌≤◌, ◌<◌}
use native.Mathlib.Omega.{arith}
use lib.ListN.{length}
use Rattle.rules.specs.Bytes.{byte_at, splice}
use Rattle.rules.specs.Sectors.{Write, sector_of, sector_count, written, sectors_in, Whole}
use Rattle.rules.specs.Name.{name_rule, IsName}
use Rattle.rules.specs.Map.{count}
use Rattle.rules.specs.Chain.{places}
use Rattle.rules.specs.Descriptor.{name_of, chain_of, marked_by, IsDescriptor}
use Rattle.rules.specs.Index.{index_of, without}
use Rattle.rules.specs.Volume.{index_at, files_in, name_in, places_in, placed, header_in, contents_in, file_in, catalogue}
use Rattle.rules.specs.Sound.{IsIndexed, Sound}
use Rattle.rules.specs.Outcome.{Bare, write}
use Rattle.rules.specs.Opening.{find_in}
use Rattle.rules.specs.Calls.Rename.{rename_tests, renaming_in, renaming, open_both, rename_of}
use Rattle.rules.specs.declared.Layout.{Layout}
use Rattle.rules.specs.Answers.Opened.{At, Refused}
use Rattle.rules.proofs.Tests.{unless_passed}
use Rattle.rules.proofs.Splice.{splice-length, splice_front, splice-take, splice_above}
use Rattle.rules.proofs.Sectors.{sector_length}
use Rattle.rules.proofs.Name.{name_is}
use Rattle.rules.proofs.Descriptor.{chain_same, front_changed}
use Rattle.rules.proofs.Marks.{mark_length, mark_chain, mark_rules, mark_header}
use Rattle.rules.proofs.Map.{count_none, count_here, count_more, count_apart}
use Rattle.rules.proofs.Indexed.{without-length, placed-length, index_length}
use Rattle.rules.proofs.Staying.{map_agree}
use Rattle.rules.proofs.Misnamed.{none_rule}
use Rattle.rules.proofs.Opening.{IsOpened, was_looked, sound_passed, name_passed, find_refused, under_refused, refused_bare, directory_found, directory_refused, absent_index, unfound, changed_done, added_done, place_many}
use Rattle.rules.proofs.Written.{written-length, Apart, written_apart, written_at}
use Rattle.rules.proofs.Listed.{sector_inside, index_low, listed_range, listed_descriptor, rest_apart, opened_listed}
use Rattle.rules.proofs.Replaced.{at, Replaced, stayed, index_anew, same_mapped}
use Rattle.rules.proofs.Altered.{own_other, place_other}
use Rattle.demands.specs.Catalogue.{put_in, taken_out, named}
use Rattle.demands.specs.Call.{rename}
use Rattle.demands.specs.Ours.{outcome}
use Rattle.demands.specs.Effects.{effect, Done, renamed, marked_file}
use Rattle.demands.specs.Touches.{Numbers, Stays, TouchesIn}
use Rattle.demands.specs.Does.{Does}
use Rattle.demands.proofs.Filed.{named_file}
use Rattle.demands.proofs.Replacing.{catalogue-after, replaced_done, numbers_after, lies_after, found_has}

-- a descriptor with another name: all bytes from 10 on stand as they stood
module _ (d new : List ℕ) (long : length d ≡ 256) (ten : length new ≡ 10) where
  new_name : name_of (splice d 0 new) ≡ new
  unfolding name_of
  new_name = rw ten at (splice_front d new (omega arith))

  same_byte : (i : ℕ) → 10 ≤ i → byte_at (splice d 0 new) i ≡ byte_at d i
  same_byte i behind = splice_above d 0 new i (omega arith)

  same_chain : chain_of (splice d 0 new) ≡ chain_of d
  same_chain = chain_same d (splice d 0 new) (splice-length d 0 new) (λ i low. same_byte i (omega arith))

  new_descriptor_lem : (layout : Layout) (n : ℕ) → IsName new → IsDescriptor layout n d → IsDescriptor layout n (splice d 0 new)
  new_descriptor_lem layout n is rules =
      let status = same_byte 12 (omega arith) in
      front_changed d (splice d 0 new) (splice-length d 0 new) layout n (λ i low. same_byte i (omega arith)) (λ j third fourth. rw status) (rw new_name is) (rw status rules.status) rules

-- the number that goes is the one that comes
still_listed : (image after : List ℕ) (i k : ℕ) → Numbers image after i (k ∷ []) (k ∷ []) → Numbers image after i [] []
still_listed image after i k numbers = record { lists = λ j. omega (arith, numbers.lists j, count_none j); laid = numbers.laid }

-- the writes, and their sectors
abbrev renamings : Layout → List ℕ → ℕ → List ℕ → ℕ → List Write
renamings layout image i new k = write k (splice (marked_by layout (sector_of image k)) 0 new) ∷ (write i (index_of (placed image new k (without k (files_in image i)))) ∷ [])

module _ (layout : Layout) (image : List ℕ) (i : ℕ) (old new : List ℕ) (k : ℕ) (is : Sound layout image) (indexed : IsIndexed layout image i) (there : 1 ≤ count k (files_in image i)) (is_named_lem : old ≡ name_in image k) (is_name : IsName new)
    (absent : (j : ℕ) → 1 ≤ count j (files_in image i) → name_in image j ≡ new → ⊥) where
  abbrev marked : List ℕ
  marked = marked_by layout (sector_of image k)

  abbrev descriptor : List ℕ
  descriptor = splice (marked_by layout (sector_of image k)) 0 new

  abbrev after : List ℕ
  after = written image (renamings layout image i new k)

  range : (2 ≤ k) × (k < sector_count image)
  range = listed_range layout image is i indexed k there

  index_range : (1 ≤ i) × (i < sector_count image)
  index_range = index_low layout image is i indexed

  index_other : k ≡ i → ⊥
  index_other = own_other layout image i k is indexed there k (omega (arith, count_here k (places_in image k)))

  long : length (sector_of image k) ≡ 256
  long = sector_length image k (sector_inside layout image is k range.1)

  long_marked : length marked ≡ 256
  long_marked = mark_length layout (sector_of image k) ∙ long

  chain_now : chain_of descriptor ≡ chain_of (sector_of image k)
  chain_now = same_chain marked new long_marked is_name.ten ∙ mark_chain layout (sector_of image k)

  whole : Whole (length image) (renamings layout image i new k)
  unfolding Whole
  whole =
      let fits = sector_inside layout image is in (
        splice-length marked 0 new ∙ long_marked,
        fits k range.1,
        (index_length (placed image new k (without k (files_in image i))), fits i index_range.1, tt),
      )

  sector_k : sector_of after k ≡ descriptor
  unfolding Apart
  sector_k = written_at image [] (write k descriptor) (write i _ ∷ []) whole (index_other, tt)

  index_now : sector_of after i ≡ index_of (placed image new k (without k (files_in image i)))
  unfolding Apart
  index_now = written_at image (write k descriptor ∷ []) (write i _) [] whole tt

  others : (j : ℕ) → (j ≡ k → ⊥) → (j ≡ i → ⊥) → sector_of after j ≡ sector_of image j
  unfolding Apart
  others j other apart = written_apart image (renamings layout image i new k) j whole (other, (apart, tt))

  places_now : places_in after k ≡ places_in image k
  unfolding places_in
  places_now = rw sector_k (ap places chain_now)

  replaced : Replaced layout image after i new (at k) (at k)
  unfolding name_in
  replaced =
      record {
        sound = is;
        indexed = indexed;
        listed = there;
        size = written-length image (renamings layout image i new k);
        mapped = same_mapped layout image after i (at k) (at k) is indexed there (others 0 (λ e. omega (arith, e, range)) (λ e. omega (arith, e, index_range))) (λ j. rw places_now);
        numbered =
            index_anew layout image after i new (at k) (at k) is indexed (λ j e. let z : k ≡ j = cc in rw (← z) range)
            (omega (arith, placed-length k image new (without k (files_in image i)), without-length k (files_in image i) there, place_many layout image i (is.each i indexed))) index_now;
        stands = λ j held.
            let apart = rest_apart layout image is i indexed k there j held in
            others j (count_apart j k (places_in image k) apart.2).0 apart.1;
        new = record {
          rules = rw sector_k (new_descriptor_lem marked new long_marked is_name.ten layout (sector_count image) is_name (mark_rules layout (sector_of image k) long (sector_count image) (listed_descriptor layout image is i indexed k there)));
          named = rw sector_k (new_name marked new long_marked is_name.ten);
          alone = λ j left. absent j (stayed image i (at k) there j left);
        };
      }

  file_now : file_in after k ≡ renamed new (marked_file layout (file_in image k))
  unfolding renamed marked_file file_in header_in contents_in
  file_now =
      let contents = map_agree (sector_of after) (sector_of image) (places_in image k)
      (λ j h. others j (place_other layout image i k is indexed there j h) (own_other layout image i k is indexed there j (omega (arith, h, count_more j k (places_in image k)))))
      in
      rw (places_now, contents, sector_k, splice-take 28 marked 0 new, mark_header layout (sector_of image k))

  renamed_done : Done layout image after i old (effect (put_in (renamed new (marked_file layout (named old (catalogue image i)))) (taken_out old (catalogue image i))) 0 0)
  renamed_done =
      replaced_done layout replaced old is_named_lem _ 0 0
      (catalogue-after layout replaced old is_named_lem ∙ rw (file_now, named_file layout image i old k is indexed there is_named_lem))
      (rw places_now refl)

  renamed_stays : Stays image after i new k (k ∷ (i ∷ []))
  renamed_stays =
      record {
        lies =
            lies_after layout replaced (places_in image k) (chain_of (sector_of image k)) places_now
            (ap chain_of sector_k ∙ chain_now);
        others = λ j inside apart. let some = count_apart j k (i ∷ []) apart in others j some.0 (count_apart j i [] some.1).0;
      }

-- a file that was found under its old name: the volume is sound, and both names keep the rule
both_opened : (layout : Layout) (image : List ℕ) (directory : ℕ) (old new : List ℕ) (i p k : ℕ) → open_both layout image directory old new ≡ At i p k
    → (index_at layout image directory ≡ i) × IsOpened layout image old i p k × (name_rule new ≡ true)
unfolding open_both was_looked
both_opened layout image directory old new i p k e =
    let volume = sound_passed layout image _ (At i p k) refl e in
    let first = name_passed old _ (At i p k) refl volume.1 in
    let second = name_passed new _ (At i p k) refl first.1 in
    let found = directory_found layout image directory old i p k volume.0 first.0 second.1 in
    (found.0, found.1, none_rule new second.0)

both_refused : (layout : Layout) (image : List ℕ) (directory : ℕ) (old new : List ℕ) (number : ℕ) → open_both layout image directory old new ≡ Refused number → Bare number number
unfolding open_both
both_refused layout image directory old new =
    refused_bare layout image _ (λ number e. under_refused old _ number (under_refused new _ number (directory_refused layout image directory old number)) e)

-- number 0: the old name is found and the new one is not, and the file is not protected
pub renames : (layout : Layout) (new : List ℕ) → Does layout (rename new)
unfolding outcome rename_of renaming renaming_in TouchesIn sectors_in
renames layout new image directory old e =
    let was = changed_done (open_both layout image directory old new) (renaming layout image new) (both_refused layout image directory old new) e in
    let i = was.index in
    let k = was.sector in
    let both = both_opened layout image directory old new i was.place k was.found_at in
    let opened = both.1 in
    let there = opened_listed layout image old i was.place k opened in
    let added = added_done (find_in image i new) (renaming_in layout image new k) (λ number found. absurd (find_refused image i new number found)) was.number in
    let same = absent_index image i new added.index added.absent in
    let is_name = name_is new both.2 in
    let absent = unfound image i new (rw (← same) at added.absent) in
    rw (was.is, added.is, ← same, unless_passed (rename_tests image k) (renamings layout image i new k) [] added.number, both.0) (
      renamed_done layout image i old new k opened.whole opened.indexed there opened.named is_name absent,
      found_has layout image old i was.place k opened (
        renamed_stays layout image i old new k opened.whole opened.indexed there opened.named is_name absent,
        still_listed image _ i k
            (numbers_after layout (replaced layout image i old new k opened.whole opened.indexed there opened.named is_name absent) (index_now layout image i old new k opened.whole opened.indexed there opened.named is_name absent)),
        refl,
      ),
      whole layout image i old new k opened.whole opened.indexed there opened.named is_name absent,
    )

-- A file changed where it stands: it keeps its name and its number in the index, and may take free sectors. It goes and comes under its own name. Last, one of its own sectors written.
use mathlib.Core.Path.{◌≡◌, sym, ap, ◌∙◌}
use mathlib.Core.List.{List, [], ◌∷◌, ◌++◌, append-nil}
use Prim.Native.Nat.{ℕ, ◌*◌, ◌≤◌, ◌<◌}
use native.Mathlib.Omega.{arith}
use lib.ListN.{length}
use Rattle.rules.specs.Bytes.{part, splice}
use Rattle.rules.specs.Chain.{places}
use Rattle.rules.specs.Sectors.{sector_of, sector_count}
use Rattle.rules.specs.Map.{count, marked_all}
use Rattle.rules.specs.Descriptor.{name_of, chain_of, IsDescriptor}
use Rattle.rules.specs.Index.{numbers}
use Rattle.rules.specs.Volume.{files_in, name_in, places_in, header_in, contents_in, file_in}
use Rattle.rules.specs.Sound.{IsIndexed, Sound}
use Rattle.rules.specs.declared.Layout.{Layout}
use Rattle.rules.proofs.Splice.{splice-length}
use Rattle.rules.proofs.Map.{count_none, count_here, count_append}
use Rattle.rules.proofs.Choice.{Chosen}
use Rattle.rules.proofs.Indexed.{placed_back}
use Rattle.rules.proofs.Staying.{holders_without, map_agree}
use Rattle.rules.proofs.Listed.{sector_inside, held_inside, held_apart, file_once, rest_apart, listed_name, not_listed}
use Rattle.rules.proofs.Written.{sector_same, sector_other}
use Rattle.rules.proofs.Replaced.{at, besides, stayed, Replaced, taken_mapped}

pub record Altered (layout : Layout) (image after : List ℕ) (i k : ℕ) (fresh : List ℕ) : Type 0 where
  pub sound : Sound layout image
  pub indexed : IsIndexed layout image i
  pub listed : 1 ≤ count k (files_in image i)
  pub size : length after ≡ length image
  pub once : (j : ℕ) → count j fresh ≤ 1
  pub free : (j : ℕ) → 1 ≤ count j fresh → Chosen (sector_count image) (sector_of image 0) j
  pub sector0 : sector_of after 0 ≡ marked_all 1 (sector_of image 0) fresh
  pub index : sector_of after i ≡ sector_of image i
  pub rules : IsDescriptor layout (sector_count image) (sector_of after k)
  pub named : name_in after k ≡ name_in image k
  pub places : places_in after k ≡ places_in image k ++ fresh
  pub stands : (j : ℕ) → 1 ≤ count j (besides layout image i (at k)) → count j (k ∷ places_in image k) ≡ 0 → sector_of after j ≡ sector_of image j

module _ (layout : Layout) {image after : List ℕ} {i k : ℕ} {fresh : List ℕ} (a : Altered layout image after i k fresh) where
  pub files_same : files_in after i ≡ files_in image i
  unfolding files_in
  files_same = ap numbers a.index

  pub altered : Replaced layout image after i (name_in image k) (at k) (at k)
  altered =
      let is = a.sound in
      let there = a.listed in
      record {
        sound = is;
        indexed = a.indexed;
        listed = there;
        size = a.size;
        mapped =
            taken_mapped layout image after i (at k) (at k) fresh is a.indexed there a.once a.free a.sector0
            (λ j. omega (arith, ap (λ (l : List ℕ). count j (k ∷ l)) a.places, count_append j (k ∷ places_in image k) fresh));
        numbered = record { index = rw a.index (is.each i a.indexed).index; files_are = files_same ∙ sym (placed_back image k (files_in image i) (is.each i a.indexed).ascending there) };
        stands = λ j rest. a.stands j rest (rest_apart layout image is i a.indexed k there j rest).2;
        new = record {
          rules = a.rules;
          named = a.named;
          alone = λ j left same. not_listed layout image is i a.indexed k there j left (listed_name layout image is i a.indexed j k (stayed image i (at k) there j left) there same);
        };
      }

-- One of the file's own sectors written: its descriptor's or one of its places.
module _ (layout : Layout) (image : List ℕ) (i k : ℕ) (is : Sound layout image) (indexed : IsIndexed layout image i) (listed : 1 ≤ count k (files_in image i)) where
  pub own_once : (j : ℕ) → count j (k ∷ places_in image k) ≤ 1
  own_once j = omega (arith, holders_without image k j (files_in image i) listed, file_once layout image is i indexed j)

  pub own_inside : (j : ℕ) → 1 ≤ count j (k ∷ places_in image k) → (2 ≤ j) × (j < sector_count image)
  own_inside j own = held_inside layout image is i indexed j (omega (arith, own, holders_without image k j (files_in image i) listed))

  -- none of them is the index
  pub own_other : (j : ℕ) → 1 ≤ count j (k ∷ places_in image k) → j ≡ i → ⊥
  own_other j own = (held_apart layout image is i indexed j (omega (arith, own, holders_without image k j (files_in image i) listed))).0

  -- its descriptor is none of its places
  pub place_other : (j : ℕ) → 1 ≤ count j (places_in image k) → j ≡ k → ⊥
  place_other j there e = omega (arith, rw e at there, own_once k, count_here k (places_in image k))

  module _ (w : ℕ) (bytes : List ℕ) (long : length bytes ≡ 256) (own : 1 ≤ count w (k ∷ places_in image k)) where
    abbrev after : List ℕ
    after = splice image (256 * w) bytes

    pub own_here : sector_of after w ≡ bytes
    own_here = sector_same image w bytes long (sector_inside layout image is w (own_inside w own).1)

    pub own_altered : IsDescriptor layout (sector_count image) (sector_of after k) → name_in after k ≡ name_in image k → places_in after k ≡ places_in image k → Altered layout image after i k []
    unfolding marked_all
    own_altered rules named places =
        let high = (own_inside w own).0 in
        record {
          sound = is;
          indexed = indexed;
          listed = listed;
          size = splice-length image (256 * w) bytes;
          once = λ j. omega (arith, count_none j);
          free = λ j some. absurd (omega (arith, some, count_none j));
          sector0 = sector_other image w bytes long 0 (λ e. omega (arith, e, high));
          index = sector_other image w bytes long i (λ e. own_other w own (sym e));
          rules = rules;
          named = named;
          places = places ∙ sym (append-nil (places_in image k));
          stands = λ j there foreign. sector_other image w bytes long j (λ e. omega (arith, own, rw e at foreign));
        }

  -- Its descriptor written anew, with the same name and chain: the header is the new one, and the contents stay.
  module _ (d : List ℕ) (long : length d ≡ 256) (rules : IsDescriptor layout (sector_count image) d) (named : name_of d ≡ name_in image k) (chain : chain_of d ≡ chain_of (sector_of image k)) where
    abbrev own_descriptor : 1 ≤ count k (k ∷ places_in image k)
    own_descriptor = omega (arith, count_here k (places_in image k))

    descriptor_now : sector_of (splice image (256 * k) d) k ≡ d
    descriptor_now = own_here k d long own_descriptor

    places_now : places_in (splice image (256 * k) d) k ≡ places_in image k
    unfolding places_in
    places_now = ap (λ (s : List ℕ). places (chain_of s)) descriptor_now ∙ ap places chain

    pub redescribed : Altered layout image (splice image (256 * k) d) i k []
    unfolding name_in
    redescribed = own_altered k d long own_descriptor (rw descriptor_now rules) (ap name_of descriptor_now ∙ named) places_now

    pub redescribed_file : file_in (splice image (256 * k) d) k ≡ record { header = part d 0 28; contents = contents_in image k }
    unfolding file_in header_in contents_in
    redescribed_file =
        let contents = map_agree (sector_of (splice image (256 * k) d)) (sector_of image) (places_in image k) (λ j h. sector_other image k d long j (place_other j h)) in
        rw (places_now, contents, descriptor_now)

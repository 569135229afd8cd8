-- What a file that goes and one that comes leave, in the words of the demands: the frame, the catalogue and the free count. Last, a file changed where it stands, and one whose descriptor is changed in a byte.
use mathlib.Core.Path.{◌≡◌, refl, sym, ap, ◌∙◌}
use mathlib.Core.List.{List, [], ◌∷◌, ◌++◌, map, append-nil}
use Prim.Native.Nat.{ℕ, ◌+◌, ◌*◌, ◌≤◌, ◌<◌}
use native.Mathlib.Omega.{arith}
use native.Mathlib.Decide.{ℕ_discrete}
use lib.ListN.{length, set, length-append, length-set}
use lib.Seq.{get_or-set_other, take-set-lt}
use Rattle.rules.specs.Bytes.{splice}
use Rattle.rules.specs.Sectors.{sector_of, sector_count}
use Rattle.rules.specs.Map.{count}
use Rattle.rules.specs.Index.{index_of, without}
use Rattle.rules.specs.Descriptor.{name_of, chain_of, IsDescriptor}
use Rattle.rules.specs.Volume.{File, files_in, name_in, places_in, header_in, contents_in, file_in, catalogue}
use Rattle.rules.specs.declared.Layout.{Layout}
use Rattle.rules.proofs.Map.{count_none, count_here, count_other, count_more, count_apart, count_append}
use Rattle.rules.proofs.Indexed.{without-count, placed-count}
use Rattle.rules.proofs.Indexes.{held_of_has, other_indexes, other_indexed}
use Rattle.rules.proofs.Staying.{files_kept, file_holds, other_index, other_held, other_files}
use Rattle.rules.proofs.Descriptor.{name_same, chain_same}
use Rattle.rules.proofs.Opening.{IsOpened}
use Rattle.rules.proofs.Listed.{listed_name, opened_listed}
use Rattle.rules.proofs.Replaced.{Slot, none, at, staying, coming, held, IsListed, IsNew, Replaced, elsewhere, sector_stands, name_stands, file_stands, sound_after, free_after}
use Rattle.rules.proofs.Written.{sector_other}
use Rattle.rules.proofs.Altered.{Altered, files_same, altered, own_here, redescribed, redescribed_file}
use Rattle.demands.specs.Catalogue.{put_in, taken_out, changed}
use Rattle.demands.specs.Effects.{Another, Kept, effect, Done}
use Rattle.demands.specs.Grounds.{Has}
use Rattle.demands.specs.Touches.{Numbers, Lies, Stays}
use Rattle.demands.proofs.Filed.{file_name_lem, placed_files, taken_out_lem, changed_files}

-- the file that goes has that name
abbrev pub IsNamed : List ℕ → Slot → List ℕ → Type 0
IsNamed image none old = Unit {0}
IsNamed image (at k) old = old ≡ name_in image k

-- the catalogue without it, and with the one that comes
abbrev pub lost : Slot → List ℕ → List File → List File
lost none old files = files
lost (at k) old files = taken_out old files

abbrev pub won : List ℕ → Slot → List File → List File
won after none files = files
won after (at k) files = put_in (file_in after k) files

-- a file of another name stays, and those that stay are listed afterwards
other_stays : (image : List ℕ) (i : ℕ) (old : List ℕ) (goes : Slot) → IsListed image i goes → IsNamed image goes old → (j : ℕ) → 1 ≤ count j (files_in image i) → (name_in image j ≡ old → ⊥)
    → 1 ≤ count j (staying goes (files_in image i))
other_stays image i old none listed is j there other = there
other_stays image i old (at k) listed is j there other =
    let apart : k ≡ j → ⊥ = λ e. other (ap (name_in image) (sym e) ∙ sym is) in
    omega (arith, there, without-count k j (files_in image i) listed, count_other j k (without k (files_in image i)) apart)

still_there : (image name : List ℕ) (comes : Slot) (j : ℕ) (ks : List ℕ) → 1 ≤ count j ks → 1 ≤ count j (coming image name comes ks)
still_there image name none j ks some = some
still_there image name (at k) j ks some = omega (arith, some, placed-count k j image name ks, count_more j k ks)

lost_files : (image : List ℕ) (i : ℕ) (old : List ℕ) (goes : Slot) → IsNamed image goes old → ((k j : ℕ) → goes ≡ at k → 1 ≤ count j (files_in image i) → name_in image j ≡ name_in image k → j ≡ k)
    → map (file_in image) (staying goes (files_in image i)) ≡ lost goes old (catalogue image i)
unfolding catalogue
lost_files image i old none is only = refl
lost_files image i old (at k) is only = taken_out_lem image old k is (files_in image i) (λ j. only k j refl)

won_files : (layout : Layout) (image after name : List ℕ) (comes : Slot) (ks : List ℕ) → IsNew layout image after name ks comes → ((j : ℕ) → 1 ≤ count j ks → name_in after j ≡ name_in image j)
    → map (file_in after) (coming image name comes ks) ≡ won after comes (map (file_in after) ks)
won_files layout image after name none ks new kept = refl
won_files layout image after name (at k) ks new kept = placed_files image after name k (file_name_lem after k ∙ new.named) ks (λ j there. file_name_lem after j ∙ kept j there)

module _ (layout : Layout) {image after : List ℕ} {i : ℕ} {name : List ℕ} {goes comes : Slot} (r : Replaced layout image after i name goes comes) (old : List ℕ) (is : IsNamed image goes old) where
  stays : (j : ℕ) → 1 ≤ count j (files_in image i) → (name_in image j ≡ old → ⊥) → 1 ≤ count j (staying goes (files_in image i))
  stays = other_stays image i old goes r.listed is

  -- a file of another index, or of another name in this one
  record Standing (j k : ℕ) : Type 0 where
    listed : 1 ≤ count k (files_in after j)
    sectors : (p : ℕ) → 1 ≤ count p (k ∷ places_in image k) → sector_of after p ≡ sector_of image p

  standing : (j k : ℕ) → Another layout image i old j k → Standing j k
  standing j k another =
      elim (ℕ_discrete j i) [
        | yes here ↦
            let there = rw here at another.listed in
            let stay = stays k there (another.other here) in
            record { listed = rw (here, r.numbered.files_are) (still_there image name comes k (staying goes (files_in image i)) stay); sectors = λ p held. sector_stands layout r k p stay held }
        | no apart ↦
            let among = other_indexed layout image i j r.indexed apart another.indexed in
            record {
              listed = rw (other_files layout image after i (elsewhere layout r) j among) another.listed;
              sectors = λ p held.
                  other_held layout image after i (elsewhere layout r) p
                  (omega (arith, held, file_holds image k p (files_in image j) another.listed, held_of_has image j (other_indexes layout image i) among p));
            }
      ]

  kept : Kept layout image after i old
  kept =
      record {
        label = r.mapped.label;
        index = λ j indexed apart. other_index layout image after i (elsewhere layout r) j (other_indexed layout image i j r.indexed apart indexed);
        listed = λ j k another. (standing j k another).listed;
        descriptor = λ j k another. (standing j k another).sectors k (omega (arith, count_here k (places_in image k)));
        contents = λ j k p another here. (standing j k another).sectors p (omega (arith, here, count_more p k (places_in image k)));
      }

  pub catalogue-after : catalogue after i ≡ won after comes (lost goes old (catalogue image i))
  unfolding catalogue
  catalogue-after =
      ap (map (file_in after)) r.numbered.files_are
      ∙ won_files layout image after name comes (staying goes (files_in image i)) r.new (name_stands layout r)
      ∙ ap (won after comes)
      (files_kept image after (staying goes (files_in image i)) (file_stands layout r)
      ∙ lost_files image i old goes is (λ k j e there same. listed_name layout image r.sound i r.indexed j k there (rw e at r.listed) same))

  pub replaced_done : (expected : List File) (took gave : ℕ) → catalogue after i ≡ expected → length (held after comes) + gave ≡ length (held image goes) + took
      → Done layout image after i old (effect expected took gave)
  replaced_done expected took gave e sizes =
      record {
        sound = sound_after layout r;
        size = r.size;
        kept = kept;
        catalogue_is = e;
        free = omega (arith, sizes, free_after layout r);
      }

-- the index where it was laid anew, and the file that comes
abbrev pub those : Slot → List ℕ
those none = []
those (at k) = k ∷ []

pub numbers_after : (layout : Layout) {image after : List ℕ} {i : ℕ} {name : List ℕ} {goes comes : Slot} (r : Replaced layout image after i name goes comes)
    → sector_of after i ≡ index_of (coming image name comes (staying goes (files_in image i))) → Numbers image after i (those goes) (those comes)
numbers_after layout {image} {after} {i} {name} {goes} {comes} r laid =
    let others = staying goes (files_in image i) in
    record {
      lists = λ j. omega (arith, ap (count j) r.numbered.files_are, went image i goes r.listed j, came image name comes j others);
      laid = laid ∙ ap index_of (sym r.numbered.files_are);
    }
  where
    went : (image : List ℕ) (i : ℕ) (goes : Slot) → IsListed image i goes → (j : ℕ) → count j (files_in image i) ≡ count j (those goes) + count j (staying goes (files_in image i))
    went image i none listed j = omega (arith, count_none j)
    went image i (at k) listed j = omega (arith, without-count k j (files_in image i) listed, count_append j (k ∷ []) (without k (files_in image i)))

    came : (image name : List ℕ) (comes : Slot) (j : ℕ) (ks : List ℕ) → count j (coming image name comes ks) ≡ count j (those comes) + count j ks
    came image name none j ks = omega (arith, count_none j)
    came image name (at k) j ks = omega (arith, placed-count k j image name ks, count_append j (k ∷ []) ks)

pub lies_after : (layout : Layout) {image after : List ℕ} {i : ℕ} {name : List ℕ} {goes : Slot} {k : ℕ} (r : Replaced layout image after i name goes (at k)) (places chain : List ℕ)
    → places_in after k ≡ places → chain_of (sector_of after k) ≡ chain → Lies after i name k places chain
lies_after layout {image} {after} {i} {name} {goes} {k} r places chain placed chained =
    let others = staying goes (files_in image i) in
    record {
      listed = omega (arith, ap (count k) r.numbered.files_are, placed-count k k image name others, count_here k others);
      named = r.new.named;
      places_are = placed;
      chain_is = chained;
    }

-- a file changed where it stands
pub altered_done : (layout : Layout) {image after : List ℕ} {i k : ℕ} {fresh : List ℕ} → Altered layout image after i k fresh → (name : List ℕ) → name ≡ name_in image k
    → (change : File → File) → change (file_in image k) ≡ file_in after k → Done layout image after i name (effect (changed name change (catalogue image i)) (length fresh) 0)
unfolding catalogue
altered_done layout {image} {after} {i} {k} {fresh} a name is change e =
    let r = altered layout a in
    replaced_done layout r name is _ (length fresh) 0
    (ap (map (file_in after)) (files_same layout a)
    ∙ changed_files image name k is after change e (files_in image i) a.listed (λ j there. listed_name layout image a.sound i a.indexed j k there a.listed) (file_stands layout r))
    (omega (arith, ap length a.places, length-append (places_in image k) fresh))

pub altered_lies : (layout : Layout) {image after : List ℕ} {i k : ℕ} {fresh : List ℕ} → Altered layout image after i k fresh → (name : List ℕ) → name ≡ name_in image k → (chain : List ℕ) → chain_of (sector_of after k) ≡ chain
    → Lies after i name k (places_in image k ++ fresh) chain
altered_lies layout {image} {after} {i} {k} {fresh} a name is chain chained = rw is (lies_after layout (altered layout a) (places_in image k ++ fresh) chain a.places chained)

-- the file that was found, of which something holds
pub found_has : (layout : Layout) (image name : List ℕ) (i p k : ℕ) → IsOpened layout image name i p k → {holds : ℕ → Type 0} → holds k → Has image i name holds
found_has layout image name i p k o so = record { sector = k; listed = opened_listed layout image name i p k o; named = sym o.named; so = so }

-- a byte of its descriptor, behind the name and before the chain
module _ (layout : Layout) (image name : List ℕ) (i p k : ℕ) (o : IsOpened layout image name i p k) (b value : ℕ) (low : 10 ≤ b) (high : b < 28) (rules : IsDescriptor layout (sector_count image) (set (sector_of image k) b value)) where
  abbrev d : List ℕ
  d = sector_of image k

  abbrev byte_after : List ℕ
  byte_after = splice image (256 * k) (set d b value)

  long : length (set d b value) ≡ 256
  long = length-set d b value ∙ o.long

  named : name_of (set d b value) ≡ name_in image k
  unfolding name_in
  named = name_same d (set d b value) (length-set d b value) (λ j h. get_or-set_other d b j value 0 (λ is. omega arith))

  chain : chain_of (set d b value) ≡ chain_of d
  chain = chain_same d (set d b value) (length-set d b value) (λ j h. get_or-set_other d b j value 0 (λ is. omega arith))

  byte_altered : Altered layout image byte_after i k []
  byte_altered = redescribed layout image i k o.whole o.indexed (opened_listed layout image name i p k o) (set d b value) long rules named chain

  pub byte_done : (change : File → File) → change (file_in image k) ≡ record { header = set (header_in image k) b value; contents = contents_in image k }
      → Done layout image byte_after i name (effect (changed name change (catalogue image i)) 0 0)
  unfolding header_in
  byte_done change e =
      altered_done layout byte_altered name o.named change
      (e ∙ sym (redescribed_file layout image i k o.whole o.indexed (opened_listed layout image name i p k o) (set d b value) long rules named chain ∙ rw (take-set-lt 28 d b value high)))

  pub byte_stays : Stays image byte_after i name k (k ∷ [])
  byte_stays =
      record {
        lies =
            rw (append-nil (places_in image k)) at
            (altered_lies layout byte_altered name o.named (chain_of d) (ap chain_of (own_here layout image i k o.whole o.indexed (opened_listed layout image name i p k o) k (set d b value) long (omega (arith, count_here k (places_in image k)))) ∙ chain));
        others = λ j inside apart. sector_other image k (set d b value) long j (count_apart j k [] apart).0;
      }

-- The files of an image: how many places and contents they have, and what is read of them; and what they hold: that those of kept rules hold sectors of the volume.
use mathlib.Core.Path.{◌≡◌, refl, ◌∙◌}
use mathlib.Core.List.{List, [], ◌∷◌, ◌++◌, map}
use Prim.Native.Nat.{ℕ, zero, suc, ◌+◌, ◌≤◌, ◌<◌}
use native.Mathlib.Omega.{arith}
use native.Mathlib.Decide.{dec_lt, ℕ_discrete}
use lib.ListN.{length, get_or, length-map}
use lib.Seq.{take-take}
use Rattle.rules.specs.Bytes.{byte_at}
use Rattle.rules.specs.Sectors.{sector_of}
use Rattle.rules.specs.Chain.{places, blocks}
use Rattle.rules.specs.Map.{count}
use Rattle.rules.specs.Descriptor.{name_of, sectors_of, chain_of, IsDescriptor}
use Rattle.rules.specs.Volume.{name_in, places_in, file_holders, header_in, contents_in}
use Rattle.rules.specs.declared.Layout.{Layout}
use Rattle.rules.proofs.Bytes.{part_at}
use Rattle.rules.proofs.Map.{count_none, count_here, count_other, count_more, count_at, counted_all, count_append}
use Rattle.rules.proofs.Chain.{places_length, places_hold}

-- the places of a file whose descriptor keeps its rules are from 2 to n - 1
pub places_inside : (layout : Layout) (n : ℕ) (image : List ℕ) (k p : ℕ) → IsDescriptor layout n (sector_of image k) → 1 ≤ count p (places_in image k) → (2 ≤ p) × (p < n)
unfolding places_in places
places_inside layout n image k p is h = places_hold n (sectors_of (sector_of image k)) 0 (blocks (chain_of (sector_of image k))) p is.chain.linked h

-- there are c of them, and so of the contents
pub places_count : (layout : Layout) (n : ℕ) (image : List ℕ) (k : ℕ) → IsDescriptor layout n (sector_of image k) → length (places_in image k) ≡ sectors_of (sector_of image k)
unfolding places_in places
places_count layout n image k is = omega (arith, places_length n (sectors_of (sector_of image k)) 0 (blocks (chain_of (sector_of image k))) is.chain.linked)

pub contents_count : (layout : Layout) (n : ℕ) (image : List ℕ) (k : ℕ) → IsDescriptor layout n (sector_of image k) → length (contents_in image k) ≡ sectors_of (sector_of image k)
unfolding contents_in
contents_count layout n image k is = length-map (places_in image k) (sector_of image) ∙ places_count layout n image k is

-- a content by its offset, and a byte and the name of the header, are those of the sectors
pub get_mapped : {A B : Type 0} (f : A → B) (l : List A) (p : ℕ) (d : A) (e : B) → p < length l → get_or (map f l) p e ≡ f (get_or l p d)
get_mapped f [] p d e h = absurd (omega arith)
get_mapped f (x ∷ l) zero d e h = refl
get_mapped f (x ∷ l) (suc p) d e h = get_mapped f l p d e (omega arith)

pub content_at : (layout : Layout) (n : ℕ) (image : List ℕ) (k : ℕ) → IsDescriptor layout n (sector_of image k) → (offset : ℕ) → offset < sectors_of (sector_of image k)
    → get_or (contents_in image k) offset [] ≡ sector_of image (get_or (places_in image k) offset 0)
unfolding contents_in
content_at layout n image k is offset low = get_mapped (sector_of image) (places_in image k) offset 0 [] (rw (places_count layout n image k is) low)

pub header_at : (image : List ℕ) (k i : ℕ) → i < 28 → byte_at (header_in image k) i ≡ byte_at (sector_of image k) i
unfolding header_in
header_at image k i low = let e : 0 + i ≡ i = omega arith in rw e at (part_at (sector_of image k) 0 28 i low)

pub header_name : (image : List ℕ) (k : ℕ) → name_of (header_in image k) ≡ name_in image k
unfolding header_in name_in name_of
header_name image k = take-take 10 28 (sector_of image k) (omega arith)

pub place_inside : (layout : Layout) (n : ℕ) (image : List ℕ) (k offset : ℕ) → IsDescriptor layout n (sector_of image k) → offset < sectors_of (sector_of image k)
    → (2 ≤ get_or (places_in image k) offset 0) × (get_or (places_in image k) offset 0 < n)
place_inside layout n image k offset is h = places_inside layout n image k (get_or (places_in image k) offset 0) is (count_at (places_in image k) offset (omega (arith, places_count layout n image k is)))

-- what holds of the descriptors' sectors and of the places of files holds of all that they hold
pub file_holders_all : (P : ℕ → Type 0) (image ks : List ℕ) → ((k : ℕ) → 1 ≤ count k ks → P k) → ((k p : ℕ) → 1 ≤ count k ks → 1 ≤ count p (places_in image k) → P p)
    → (p : ℕ) → 1 ≤ count p (file_holders image ks) → P p
unfolding file_holders
file_holders_all P image [] described placed p some = absurd (omega (arith, count_none p))
file_holders_all P image (k ∷ ks) described placed p some =
    elim (ℕ_discrete k p) [
      | yes here ↦ rw (← here) (described k (omega (arith, count_here k ks)))
      | no there ↦
          let rest = count_other p k (places_in image k ++ file_holders image ks) there in
          let split = count_append p (places_in image k) (file_holders image ks) in
          elim (dec_lt 0 (count p (places_in image k))) [
            | yes first ↦ placed k p (omega (arith, count_here k ks)) first
            | no other ↦
                file_holders_all P image ks (λ j h. described j (omega (arith, h, count_more j k ks))) (λ j q h. placed j q (omega (arith, h, count_more j k ks))) p (omega (arith, some, rest, split))
          ]
    ]

-- they are sectors of the volume from 2 up
pub file_holders_inside : (layout : Layout) (n : ℕ) (image ks : List ℕ) (p : ℕ) → ((q : ℕ) → q < length ks → (2 ≤ get_or ks q 0) × (get_or ks q 0 < n))
    → ((q : ℕ) → q < length ks → IsDescriptor layout n (sector_of image (get_or ks q 0))) → 1 ≤ count p (file_holders image ks) → (2 ≤ p) × (p < n)
file_holders_inside layout n image ks p range is h =
    file_holders_all (λ (j : ℕ). (2 ≤ j) × (j < n)) image ks (counted_all (λ (k : ℕ). (2 ≤ k) × (k < n)) ks range)
    (λ k j there placed. places_inside layout n image k j (counted_all (λ (i : ℕ). IsDescriptor layout n (sector_of image i)) ks is k there) placed) p h

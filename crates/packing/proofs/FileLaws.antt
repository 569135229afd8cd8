-- The files of all indexes by their numbers: their descriptors keep the rules, and what is read of a descriptor is what the packed form has of the file.
use mathlib.Core.Path.{◌≡◌, ap, ◌∙◌}
use mathlib.Core.List.{List, ◌∷◌, ◌++◌, map}
use Prim.Native.Nat.{ℕ, ◌+◌, ◌*◌, ◌≤◌, ◌<◌}
use native.Mathlib.Omega.{arith}
use lib.ListN.{length, replicate, length-map}
use Rattle.rules.specs.Bytes.{part, over}
use Rattle.rules.specs.Sectors.{sector_of, sector_count}
use Rattle.rules.specs.Map.{count}
use Rattle.rules.specs.Chain.{places, blocks_bytes}
use Rattle.rules.specs.Descriptor.{sectors_of, chain_of, IsDescriptor}
use Rattle.rules.specs.Volume.{indexes, places_in, header_in, contents_in, file_in, catalogues}
use Rattle.rules.specs.Sound.{Sound}
use Rattle.rules.specs.Calls.Pack.{one_block, packed_descriptor, packed_data, data_sectors, together, packed_sectors}
use Rattle.rules.specs.declared.Layout.{Layout}
use Rattle.rules.proofs.Map.{count_here, count_more}
use Rattle.rules.proofs.Volume.{places_count}
use Rattle.rules.proofs.Indexes.{files_range}
use Rattle.rules.proofs.Pack.{data_length, all_files, all_together, all_sectors, together_whole, used_inside}

-- the indexes and descriptors are inside the volume
pub descriptors_inside : (layout : Layout) (image : List ℕ) → Sound layout image → 1 + length (indexes layout image) + length (all_files layout image) ≤ 1600
descriptors_inside layout image is = omega (arith, used_inside layout image is, all_sectors layout image, is.size)

-- the numbers of files whose descriptors keep their rules
pub record Kept (layout : Layout) (image ks : List ℕ) : Type 0 where
  pub each : (k : ℕ) → 1 ≤ count k ks → (2 ≤ k) × (k < sector_count image) × IsDescriptor layout (sector_count image) (sector_of image k)

pub all_kept : (layout : Layout) (image : List ℕ) → Sound layout image → Kept layout image (all_files layout image)
all_kept layout image is = record { each = files_range layout image (indexes layout image) is.each }

module _ {layout : Layout} {image : List ℕ} {k : ℕ} {ks : List ℕ} (kept : Kept layout image (k ∷ ks)) where
  pub first_inside : k < sector_count image
  first_inside = (kept.each k (omega (arith, count_here k ks))).1

  pub first_descriptor : IsDescriptor layout (sector_count image) (sector_of image k)
  first_descriptor = (kept.each k (omega (arith, count_here k ks))).2

  pub rest_kept : Kept layout image ks
  rest_kept = record { each = λ j h. kept.each j (omega (arith, h, count_more j k ks)) }

  -- the contents of the first: c sectors
  pub contents_count : length (file_in image k).contents ≡ sectors_of (sector_of image k)
  unfolding file_in contents_in
  contents_count = length-map (places_in image k) (sector_of image) ∙ places_count layout (sector_count image) image k first_descriptor

-- what is read of a descriptor: its header, its chain's sectors, and its packed form
module _ (image : List ℕ) (k : ℕ) (descriptor : List ℕ) (is : descriptor ≡ sector_of image k) where
  pub header_read : (header : List ℕ) → header ≡ part descriptor 0 28 → header ≡ header_in image k
  unfolding header_in
  header_read header e = e ∙ ap (λ (d : List ℕ). part d 0 28) is

  pub contents_read : (chain : List ℕ) → chain ≡ chain_of descriptor → map (sector_of image) (places chain) ≡ (file_in image k).contents
  unfolding file_in contents_in places_in
  contents_read chain e = rw (e, is)

pub descriptor_packed : (image : List ℕ) (k start sectors : ℕ) (header : List ℕ) → header ≡ header_in image k → length (file_in image k).contents ≡ sectors
    → header ++ over (replicate 228 0) (blocks_bytes (one_block start sectors)) ≡ packed_descriptor start (file_in image k)
unfolding packed_descriptor file_in
descriptor_packed image k start sectors header e f = rw (e, ← f)

-- the data ends with the sectors in use
pub data_ends : (layout : Layout) (image : List ℕ) → Sound layout image
    → 256 * (1 + length (indexes layout image) + length (all_files layout image)) + length (packed_data (together (catalogues layout image))) ≡ 256 * packed_sectors (catalogues layout image)
data_ends layout image is =
    let long = data_length (together (catalogues layout image)) (together_whole layout image is) in
    omega (arith, long, all_sectors layout image, ap data_sectors (all_together layout image))

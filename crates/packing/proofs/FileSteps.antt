-- The loops over the files: what the files ks that are still ahead give, at the start, a file further, and where none is left.
use mathlib.Core.Path.{◌≡◌, refl, sym, ap, ◌∙◌}
use mathlib.Core.List.{List, [], ◌∷◌, ◌++◌, map}
use Prim.Native.Nat.{ℕ, ◌+◌, ◌*◌, ◌≤◌, ◌<◌}
use native.Mathlib.Omega.{arith}
use lib.ListN.{length, length-append}
use Rattle.rules.specs.Bytes.{splice}
use Rattle.rules.specs.Sectors.{sector_of, sector_count, joined}
use Rattle.rules.specs.Descriptor.{sectors_of}
use Rattle.rules.specs.Volume.{File, indexes, file_in, catalogues}
use Rattle.rules.specs.Sound.{Sound}
use Rattle.rules.specs.Calls.Pack.{packed_descriptor, packed_descriptors, packed_data, data_sectors, together, packed_sectors}
use Rattle.rules.specs.declared.Layout.{Layout}
use Rattle.rules.proofs.Pieces.{Pieces, pieces_first, pieces_next, pieces_last}
use Rattle.rules.proofs.Pack.{descriptor_length, file_whole, all_files, all_together, all_sectors}
use Rattle.packing.proofs.FileLaws.{Kept, all_kept, first_inside, first_descriptor, rest_kept, contents_count}

-- the files with those numbers
abbrev listed : List ℕ → List ℕ → List File
listed image ks = map (file_in image) ks

-- laying the descriptors: those of the files ks are left, and go to `to`; their data is to be from sector `start` on
pub record Described (layout : Layout) (image before after : List ℕ) (from behind : ℕ) (ks : List ℕ) (start to : ℕ) : Type 0 where
  pub kept : Kept layout image ks
  pub to_is : to + 256 * length ks ≡ from + 256 * length (all_files layout image)
  pub start_is : start + data_sectors (listed image ks) ≡ packed_sectors (catalogues layout image)
  pub pieces : Pieces (packed_descriptors behind (together (catalogues layout image))) before from (packed_descriptors start (listed image ks)) after to

pub described_start : (layout : Layout) (image ks target : List ℕ) (from behind : ℕ) → Sound layout image → ks ≡ all_files layout image
    → behind ≡ 1 + length (indexes layout image) + length (all_files layout image) → Described layout image target target from behind ks behind from
described_start layout image ks target from behind is e behind_is =
    record {
      kept = rw e (all_kept layout image is);
      to_is = rw e refl;
      start_is = rw e (omega (arith, behind_is, all_sectors layout image));
      pieces = rw (e, all_together layout image) (pieces_first _ target from);
    }

module _ {layout : Layout} {image before after : List ℕ} {from behind : ℕ} {ks : List ℕ} {start to : ℕ} (so_far : Described layout image before after from behind ks start to)
    {k : ℕ} {more : List ℕ} (ahead : ks ≡ k ∷ more) {sectors : ℕ} (sectors_are : sectors ≡ sectors_of (sector_of image k)) where
  kept_here : Kept layout image (k ∷ more)
  kept_here = rw ahead at so_far.kept

  pub described_inside : k < sector_count image
  described_inside = first_inside kept_here

  pub described_contents : length (file_in image k).contents ≡ sectors
  described_contents = contents_count kept_here ∙ sym sectors_are

  -- the sectors of the first do not pass the last in use
  pub described_ahead : start + sectors + data_sectors (listed image more) ≡ packed_sectors (catalogues layout image)
  unfolding data_sectors
  described_ahead =
      let start_is = rw ahead at so_far.start_is in
      omega (arith, start_is, described_contents)

  pub described_step : {later laid : List ℕ} → length image ≡ 256 * sector_count image → laid ≡ packed_descriptor start (file_in image k) → later ≡ splice after to laid
      → Described layout image before later from behind more (start + sectors) (to + 256)
  unfolding packed_descriptors
  described_step {laid = laid} whole laid-is later-is =
      let long : length laid ≡ 256 = ap length laid-is ∙ descriptor_length start (file_in image k) (file_whole _ image whole layout k described_inside (first_descriptor kept_here)) in
      let to_is = rw ahead at so_far.to_is in
      record {
        kept = rest_kept kept_here;
        to_is = omega (arith, to_is);
        start_is = described_ahead;
        pieces = pieces_next so_far.pieces laid (rw (ahead, described_contents, laid-is)) later-is (omega (arith, long));
      }

pub described_end : {layout : Layout} {image before after : List ℕ} {from behind : ℕ} {ks : List ℕ} {start to : ℕ} → Described layout image before after from behind ks start to → ks ≡ []
    → (start ≡ packed_sectors (catalogues layout image)) × (after ≡ splice before from (packed_descriptors behind (together (catalogues layout image))))
unfolding packed_descriptors data_sectors
described_end so_far none =
    let start_is = rw none at so_far.start_is in
    (omega (arith, start_is), (pieces_last so_far.pieces (rw none)).0)

-- laying the data: that of the files ks is left, and goes to `to`
pub record Joined (layout : Layout) (image before after : List ℕ) (from : ℕ) (ks : List ℕ) (to : ℕ) : Type 0 where
  pub pieces : Pieces (packed_data (together (catalogues layout image))) before from (packed_data (listed image ks)) after to

pub joined_start : (layout : Layout) (image ks target : List ℕ) (from : ℕ) → ks ≡ all_files layout image → Joined layout image target target from ks from
joined_start layout image ks target from e = record { pieces = rw (e, all_together layout image) (pieces_first _ target from) }

module _ {layout : Layout} {image before after : List ℕ} {from : ℕ} {ks : List ℕ} {to : ℕ} (so_far : Joined layout image before after from ks to) {k : ℕ} {more : List ℕ} (ahead : ks ≡ k ∷ more) where
  data_ahead : packed_data (listed image ks) ≡ joined (file_in image k).contents ++ packed_data (listed image more)
  unfolding packed_data
  data_ahead = rw ahead

  -- the data of the first does not pass the end of all data
  pub joined_ahead : to + length (joined (file_in image k).contents) ≤ from + length (packed_data (together (catalogues layout image)))
  joined_ahead =
      omega (arith, so_far.pieces.ends, ap length data_ahead, length-append (joined (file_in image k).contents) (packed_data (listed image more)))

  pub joined_step : {later : List ℕ} {next : ℕ} → next ≡ to + length (joined (file_in image k).contents) → later ≡ splice after to (joined (file_in image k).contents)
      → Joined layout image before later from more next
  joined_step next_is later-is = record { pieces = pieces_next so_far.pieces (joined (file_in image k).contents) data_ahead later-is next_is }

pub joined_end : {layout : Layout} {image before after : List ℕ} {from : ℕ} {ks : List ℕ} {to : ℕ} → Joined layout image before after from ks to → ks ≡ []
    → after ≡ splice before from (packed_data (together (catalogues layout image)))
unfolding packed_data
joined_end so_far none = (pieces_last so_far.pieces (rw none)).0

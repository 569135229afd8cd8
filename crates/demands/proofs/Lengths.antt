-- The lengths of programs: sectors and end offset make a length, the kind rule leaves no others, and the length has them back. What was stored is in StoredLoads.
use mathlib.Core.Path.{◌≡◌, sym, ap, ◌∙◌}
use Prim.Native.Nat.{ℕ, ◌%◌, ◌<◌}
use native.Mathlib.Omega.{arith}
use lib.ListN.{length, length-map}
use Rattle.rules.specs.Bytes.{byte_at}
use Rattle.rules.specs.Sectors.{sector_of, sector_count}
use Rattle.rules.specs.Kind.{program_length, sectors_for}
use Rattle.rules.specs.Descriptor.{sectors_of, file_kind}
use Rattle.rules.specs.Volume.{File, files_in, file_in, catalogue}
use Rattle.rules.specs.Sound.{file_at}
use Rattle.rules.specs.declared.Layout.{Layout}
use Rattle.rules.proofs.Sectors.{sector_below}
use Rattle.rules.proofs.Status.{program_end}
use Rattle.rules.proofs.Length.{length_stored, stored_sectors, stored_end}
use Rattle.rules.proofs.Volume.{contents_count, header_at}
use Rattle.demands.specs.Lengths.{OfLength, EveryLength, LengthAlone}
use Rattle.demands.proofs.Filed.{file_of_lem}

-- a file with so many sectors and that end offset
pub of_length : (file : File) (size : ℕ) → length file.contents ≡ sectors_for size → byte_at file.header 16 ≡ size % 256 → OfLength file size
of_length file size sectors end =
    record { enough = omega (arith, sectors); needed = omega (arith, sectors); end_offset = end; long = rw (sectors, end) (length_stored size) }

pub every_length : (layout : Layout) → EveryLength layout
unfolding EveryLength catalogue file_in file_kind
every_length layout image is small i indexed p listed program =
    let inside : p < length (files_in image i) = omega (arith, listed, length-map (files_in image i) (file_in image)) in
    let k = file_at image i p in
    let d = sector_of image k in
    let rules = (is.each i indexed).descriptors p inside in
    let file : File = file_in image k in
    let c = contents_count layout (sector_count image) image k rules in
    let end : byte_at file.header 16 ≡ byte_at d 16 = header_at image k 16 (omega arith) in
    let status : byte_at file.header 12 ≡ byte_at d 12 = header_at image k 12 (omega arith) in
    let below = sector_below image k 256 (omega arith) small 16 in
    let kind = program_end (byte_at d 12) (sectors_of d) (byte_at d 16) (byte_at d 17) (rw (file_of_lem image i p inside, status) at program) rules.kind in
    rw (file_of_lem image i p inside, end, c)
    (of_length file (program_length (sectors_of d) (byte_at d 16)) (c ∙ sym (stored_sectors (sectors_of d) (byte_at d 16) below kind)) (end ∙ sym (stored_end (sectors_of d) (byte_at d 16) below kind)))

pub length_alone : LengthAlone
unfolding LengthAlone
length_alone file file' size size' is also =
    (λ e. (omega (arith, e, is.enough, is.needed, also.enough, also.needed), is.end_offset ∙ ap (λ (s : ℕ). s % 256) e ∙ sym also.end_offset), λ c end. sym is.long ∙ rw (c, end) also.long)

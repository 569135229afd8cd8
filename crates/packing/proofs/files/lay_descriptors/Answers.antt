-- `packing::files::lay_descriptors` meets its contract. The loop's invariant: the descriptors of the files to come, laid from `to` on, give what all give (`Described`). Assumes
-- nothing.
use mathlib.Core.Path.{◌≡◌, refl, ap, ◌∙◌}
use Prim.Native.Nat.{◌+◌, ◌*◌, ◌≤◌}
use native.Mathlib.Omega.{arith}
use lib.ListN.{length}
use Rattle.rules.specs.Sectors.{sector_of}
use Rattle.rules.specs.Descriptor.{sectors_of}
use Rattle.rules.specs.Volume.{header_in}
use Rattle.rules.proofs.Pack.{header_length, used_inside}
use Rattle.packing.specs.Walk.{files_left}
use Rattle.packing.proofs.FileLaws.{descriptors_inside, header_read, descriptor_packed}
use Rattle.packing.proofs.FileSteps.{Described, described_start, described_inside, described_contents, described_ahead, described_step, described_end}
use Rattle.packing.proofs.files.lay_descriptors.Goals as goal
use Rattle.packing.proofs.files.lay_descriptors.Goals.{After-lay, After-part, After-sectors-sectors}

-- its sectors, which end inside the volume, and its header
count : (c : After-sectors-sectors) → c.sectors-sectors.result ≡ sectors_of (sector_of c.args.source.now c.in-Some.k)
count c = c.sectors-sectors.ensures ∙ ap sectors_of c.descriptor_of-descriptor.ensures

few : (c : After-sectors-sectors) → c.loop-k.start + c.sectors-sectors.result ≤ 1600
few c =
    let is = c.requires.0 in
    omega (arith, described_ahead c.loop-k.invariant c.in-Some.ensures.steps (count c), used_inside _ _ is, is.size)

header : (c : After-part) → c.part.result.now ≡ header_in c.args.source.now c.in-Some.k
header c = header_read c.args.source.now _ _ c.descriptor_of-descriptor.ensures _ c.part.ensures

pub loop-k-init : goal.loop-k-init
loop-k-init c =
    rw (c.from-to.ensures, c.into_iter-k-iterator.ensures.into_iter_gives) (described_start _ _ _ _ _ _ c.requires.0 c.files_of-k-items.ensures (omega (arith, c.requires.1, c.requires.2)))

pub packed_descriptor-requires : goal.packed_descriptor-requires
packed_descriptor-requires c =
    let at = goal.at.packed_descriptor-requires c in
    let inside = described_inside c.loop-k.invariant c.in-Some.ensures.steps (count at.After-sectors-sectors) in
    (refl, ap length (header at.After-part) ∙ header_length _ _ c.requires.0.whole _ inside, omega (arith, few at.After-sectors-sectors), omega (arith, few at.After-sectors-sectors))

pub overflow_add-start : goal.overflow_add-start
overflow_add-start c = omega (arith, few (goal.at.overflow_add-start c).After-sectors-sectors)

-- the descriptor laid
laid : (c : After-lay) →
    let a = c.args in
    let l = c.loop-k in
    Described a.layout a.source.now a.target.now c.lay.new.buffer (256 * a.first) a.behind (files_left c.next.new.self) (l.start + c.sectors-sectors.result) (l.to + 256)
laid c =
    let at = goal.at.After-lay c in
    let here = c.in-Some.ensures.steps in
    let packed = c.packed_descriptor.ensures ∙ descriptor_packed c.args.source.now _ _ _ _ (header at.After-part) (described_contents c.loop-k.invariant here (count at.After-sectors-sectors)) in
    described_step c.loop-k.invariant here (count at.After-sectors-sectors) c.requires.0.whole packed c.lay.ensures

pub overflow_add-to : goal.overflow_add-to
overflow_add-to c =
    omega (arith, (laid (goal.at.overflow_add-to c).After-lay).to_is, c.requires.1, descriptors_inside _ _ c.requires.0)

pub loop-k-preserved : goal.loop-k-preserved
loop-k-preserved c = laid (goal.at.loop-k-preserved c).After-lay

pub returns : goal.returns
returns c =
    let end = described_end c.loop-k.invariant c.in-None.ensures.steps.0 in
    record { value = end.0; target_after = end.1 }

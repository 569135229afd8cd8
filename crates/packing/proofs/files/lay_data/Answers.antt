-- `packing::files::lay_data` meets its contract. The loop's invariant: the data of the files to come, laid from `to` on, gives what all data gives (`Joined`). Assumes
-- nothing.
use mathlib.Core.Path.{◌≡◌, ap, ◌∙◌}
use mathlib.Core.List.{List, map}
use Prim.Native.Nat.{ℕ, ◌+◌}
use native.Mathlib.Omega.{arith}
use lib.ListN.{length}
use Rattle.rules.specs.Bytes.{splice}
use Rattle.rules.specs.Sectors.{sector_of, joined}
use Rattle.rules.specs.Chain.{places}
use Rattle.rules.specs.Volume.{file_in}
use Rattle.rules.proofs.Pack.{used_inside}
use Rattle.packing.proofs.FileLaws.{contents_read, data_ends}
use Rattle.packing.proofs.FileSteps.{joined_start, joined_ahead, joined_step, joined_end}
use Rattle.packing.proofs.files.lay_data.Goals as goal
use Rattle.packing.proofs.files.lay_data.Goals.{After-chain}

-- the contents of the file that stands here
contents : (c : After-chain) →
    let source = c.args.source.now in
    joined (map (sector_of source) (places c.chain.result.now)) ≡ joined (file_in source c.in-Some.k).contents
contents c = ap joined (contents_read c.args.source.now _ _ c.descriptor_of.ensures _ c.chain.ensures)

pub loop-k-init : goal.loop-k-init
loop-k-init c = rw (c.from-to.ensures, c.into_iter-k-iterator.ensures.into_iter_gives) (joined_start _ _ _ _ _ c.files_of-k-items.ensures)

pub lay_sectors-to-requires : goal.lay_sectors-to-requires
lay_sectors-to-requires c =
    let is = c.requires.0 in
    omega (arith, joined_ahead c.loop-k.invariant c.in-Some.ensures.steps, ap length (contents (goal.at.lay_sectors-to-requires c).After-chain), c.requires.1, data_ends _ _ is, used_inside _ _ is, is.size)

pub loop-k-preserved : goal.loop-k-preserved
loop-k-preserved c =
    let l = c.loop-k in
    let laid = c.lay_sectors-to.ensures in
    let here = contents (goal.at.loop-k-preserved c).After-chain in
    joined_step l.invariant c.in-Some.ensures.steps (laid.value ∙ ap (λ (bytes : List ℕ). l.to + length bytes) here) (laid.target_after ∙ ap (splice l.target l.to) here)

pub returns : goal.returns
returns c = joined_end c.loop-k.invariant c.in-None.ensures.steps.0

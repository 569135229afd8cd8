-- `appending::write_longer` meets its contract: the sectors made are those of the definition, and they are written in its order. Assumes nothing.
use mathlib.Core.Path.{◌≡◌}
use mathlib.Core.List.{List}
use Prim.Native.Nat.{ℕ, ◌+◌, ◌*◌}
use native.Mathlib.Omega.{arith}
use Rattle.rules.specs.Bytes.{splice}
use Rattle.rules.specs.Sectors.{sector_of, written}
use Rattle.rules.specs.Map.{marked}
use Rattle.rules.specs.Chain.{blocks, extended}
use Rattle.rules.specs.Descriptor.{sectors_of, chain_of, with_chain, marked_by}
use Rattle.rules.specs.Choice.{data_choice}
use Rattle.rules.specs.Calls.Append.{longer_blocks, append_writes}
use Rattle.rules.specs.declared.Layout.{Layout}
use Rattle.rules.proofs.Opening.{is_sector, file_long}
use Rattle.appending.proofs.write_longer.Goals as goal

-- three sectors written one after the other, the first of them the one chosen
three : (layout : Layout) (image one two all bytes sector0 old descriptor : List ℕ) (k new : ℕ) → one ≡ splice image (256 * new) bytes → two ≡ splice one (256 * 0) sector0
    → all ≡ splice two (256 * k) descriptor → new ≡ data_choice (sector_of image 0) → sector0 ≡ marked 1 (sector_of image 0) new
    → old ≡ sector_of image k → descriptor ≡ with_chain (marked_by layout old) (sectors_of old + 1) (extended 0 (blocks (chain_of old)) new)
    → all ≡ written image (append_writes layout image bytes k)
unfolding append_writes longer_blocks written
three layout image one two all bytes sector0 old descriptor k new first second third is marks there longer = rw (third, second, first, marks, longer, there, is)

pub longer-requires : goal.longer-requires
longer-requires c =
    let pre = c.requires in
    rw c.sector_of.ensures (is_sector _ _ _ _ pre.0.1, pre.2, pre.3)

pub map_with-requires : goal.map_with-requires
map_with-requires c =
    let sound = c.requires.0.1.sound in
    file_long _ _ 0 sound (omega (arith, sound.size))

pub returns : goal.returns
returns c =
    three _ _ _ _ _ _ _ _ _ _ _ c.write_sector.ensures c.write_sector-2.ensures c.write_sector-3.ensures c.requires.1 c.map_with.ensures
    c.sector_of.ensures c.longer.ensures

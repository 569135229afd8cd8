-- `formatting::format::lay_sector0` meets its contract: the label is laid at the front, the map into the part behind it, and both fill it. Assumes nothing.
use mathlib.Core.Path.{◌≡◌, ap, ◌∙◌}
use mathlib.Core.List.{List, [], ◌∷◌, ◌++◌}
use Prim.Native.Nat.{ℕ}
use native.Mathlib.Omega.{arith}
use lib.ListN.{length, length-append}
use borrow.Rule.Slice.PartMut.{put_mid}
use Rattle.rules.specs.Bytes.{splice}
use Rattle.rules.specs.Chain.{run}
use Rattle.rules.proofs.Bytes.{part_length}
use Rattle.rules.proofs.Splice.{splice_whole}
use Rattle.rules.proofs.Formatted.{put_next, map_length, label_length}
use Rattle.formatting.specs.Geometry.{geometry_of}
use Rattle.formatting.proofs.format.lay_sector0.Goals as goal
use Rattle.formatting.proofs.format.lay_sector0.Goals.{After-lay}

-- what the two calls leave of any sector
filled : (sector : List ℕ) {given laid came label map : List ℕ} → length sector ≡ 256 → given ≡ label → laid ≡ splice sector 0 given → came ≡ map → length label ≡ 56 → length map ≡ 200
    → put_mid 56 200 laid came ≡ label ++ map
filled sector {given} {laid} {came} {label} {map} size given_is laid-is came-is long long' =
    put_next sector laid given came 56 200 laid-is (ap length given_is ∙ long) (ap length came-is ∙ long') (omega (arith, size))
    ∙ rw (given_is, came-is) (splice_whole sector (label ++ map) (length-append label map ∙ omega (arith, size)))

-- the sector is as long as it was
long : (c : After-lay) → length c.lay.new.buffer ≡ 256
long c = c.lay.auto.buffer ∙ c.requires.3

pub slice_bounds-lay_map-end : goal.slice_bounds-lay_map-end
slice_bounds-lay_map-end c = omega (arith, long (goal.at.slice_bounds-lay_map-end c).After-lay)

pub lay_map-requires : goal.lay_map-requires
lay_map-requires c =
    let p = c.requires in
    (part_length c.lay.new.buffer 56 200 (omega (arith, long (goal.at.lay_map-requires c).After-lay)), omega (arith, p.0), omega (arith, p.1))

pub returns : goal.returns
unfolding run
returns c =
    let a = c.args in
    let named-long = label_length a.n a.name.now (geometry_of a.geometry) c.requires.2 in
    filled a.sector0.now c.requires.3 c.new_label-label.ensures c.lay.ensures c.lay_map.ensures named-long (map_length a.n (0 ∷ (1 ∷ [])))

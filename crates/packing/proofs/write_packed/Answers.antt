-- `packing::write_packed` meets its contract: each call lays its part right behind the one before, up to the end of the target, and the map at last into its place. Assumes nothing.
use mathlib.Core.Path.{◌≡◌, refl, ap, ◌∙◌}
use mathlib.Core.List.{List}
use Prim.Native.Nat.{ℕ, ◌+◌, ◌*◌, ◌-◌, ◌≤◌}
use native.Mathlib.Omega.{arith}
use lib.ListN.{length}
use borrow.Rule.Slice.PartMut.{put_mid}
use Rattle.rules.specs.Volume.{indexes, catalogues}
use Rattle.rules.specs.Calls.Pack.{packed_sectors}
use Rattle.rules.proofs.Bytes.{part_length}
use Rattle.rules.proofs.Splice.{splice-length, put_back}
use Rattle.rules.proofs.Pack.{all_files, used_inside}
use Rattle.packing.proofs.PackedLaws.{laid_packed}
use Rattle.packing.proofs.write_packed.Goals as goal
use Rattle.packing.proofs.write_packed.Goals.{After-fill_free, After-lay_data, After-lay_indexes-behind, After-lay_label-first}

-- the target keeps its length
one_long : (c : After-lay_label-first) → length c.lay_label-first.new.target ≡ length c.args.source.now
one_long c = ap length c.lay_label-first.ensures.target_after ∙ splice-length c.args.target.now 0 _ ∙ c.requires.1

four_long : (c : After-lay_data) → length c.lay_data.new.target ≡ length c.args.source.now
four_long c =
    ap length c.lay_data.ensures ∙ splice-length _ _ _ ∙ ap length c.lay_descriptors.ensures.target_after ∙ splice-length _ _ _ ∙ ap length c.lay_indexes-behind.ensures.target_after ∙ splice-length _ _ _ ∙ one_long (goal.at.After-lay_data c).After-lay_label-first

-- where the parts begin
behind_is : (c : After-lay_indexes-behind) →
    let a = c.args in
    c.lay_indexes-behind.result ≡ 1 + length (indexes a.layout a.source.now) + length (all_files a.layout a.source.now)
behind_is c = omega (arith, c.lay_indexes-behind.ensures.value, c.lay_label-first.ensures.value)

pub lay_label-first-requires : goal.lay_label-first-requires
lay_label-first-requires c =
    let is = c.requires.0 in
    (is, omega (arith, is.whole, is.size, c.requires.1))

pub lay_indexes-behind-requires : goal.lay_indexes-behind-requires
lay_indexes-behind-requires c =
    (c.requires.0, one_long (goal.at.lay_indexes-behind-requires c).After-lay_label-first, c.lay_label-first.ensures.value)

pub lay_descriptors-requires : goal.lay_descriptors-requires
lay_descriptors-requires c =
    (c.requires.0, c.lay_label-first.ensures.value, c.lay_indexes-behind.ensures.value)

pub lay_data-requires : goal.lay_data-requires
lay_data-requires c =
    (c.requires.0, behind_is (goal.at.lay_data-requires c).After-lay_indexes-behind)

-- the sectors in use are inside the target
used_is : (c : After-lay_data) → c.from-used.result ≡ packed_sectors (catalogues c.args.layout c.args.source.now)
used_is c = c.from-used.ensures ∙ c.lay_descriptors.ensures.value

room : (c : After-lay_data) → (256 * c.from-used.result ≤ length c.lay_data.new.target) × (c.from-used.result ≤ 1600)
room c =
    let is = c.requires.0 in
    (omega (arith, four_long c, used_is c, used_inside _ _ is, is.whole), omega (arith, used_is c, used_inside _ _ is, is.size))

pub overflow_mul-used : goal.overflow_mul-used
overflow_mul-used c = omega (arith, room (goal.at.overflow_mul-used c).After-lay_data)

pub slice_bounds-fill_free-count : goal.slice_bounds-fill_free-count
slice_bounds-fill_free-count c = (room (goal.at.slice_bounds-fill_free-count c).After-lay_data).0

pub slice_bounds-fill_free-start : goal.slice_bounds-fill_free-start
slice_bounds-fill_free-start c = (room (goal.at.slice_bounds-fill_free-start c).After-lay_data).0

-- the target with its free sectors
abbrev five : After-fill_free → List ℕ
five c =
    let used = c.from-used.result in
    let four = c.lay_data.new.target in
    put_mid (256 * used) (length four - 256 * used) four c.fill_free.new.rest

five_long : (c : After-fill_free) → length (five c) ≡ length c.args.source.now
five_long c =
    let at = (goal.at.After-fill_free c).After-lay_data in
    let used = c.from-used.result in
    let four = c.lay_data.new.target in
    let free = length four - 256 * used in
    let long = c.fill_free.auto.rest ∙ part_length four (256 * used) free (omega (arith, room at)) in
    ap length (put_back four c.fill_free.new.rest (256 * used) free long (omega (arith, room at))) ∙ splice-length four (256 * used) _ ∙ four_long at

pub slice_bounds-lay_map-end : goal.slice_bounds-lay_map-end
slice_bounds-lay_map-end c =
    let is = c.requires.0 in
    omega (arith, five_long (goal.at.slice_bounds-lay_map-end c).After-fill_free, is.whole, is.size)

pub lay_map-requires : goal.lay_map-requires
lay_map-requires c =
    let is = c.requires.0 in
    let at = (goal.at.lay_map-requires c).After-fill_free in (
      part_length (five at) 56 200 (omega (arith, five_long at, is.whole, is.size)),
      omega (arith, used_is (goal.at.After-fill_free at).After-lay_data, used_inside _ _ is),
      omega (arith, is.size),
    )

pub returns : goal.returns
returns c =
    laid_packed _ c.args.source.now c.requires.0 c.lay_label-first.ensures.value c.lay_indexes-behind.ensures.value (used_is (goal.at.returns c).After-lay_data) c.args.target.now _ _ _ _ _ _ _ c.requires.1
    c.lay_label-first.ensures.target_after c.lay_indexes-behind.ensures.target_after c.lay_descriptors.ensures.target_after c.lay_data.ensures c.fill_free.ensures refl c.lay_map.ensures

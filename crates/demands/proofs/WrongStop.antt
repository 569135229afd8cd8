-- The emergency stop shuts out the versions that the statement names.
use mathlib.Core.Path.{◌≡◌, refl, sym, ap, ◌∙◌}
use mathlib.Core.Bool.{Bool, true, false}
use mathlib.Core.Logic.{◌⊎◌, inl, inr}
use mathlib.Core.List.{List, [], ◌∷◌}
use Prim.Native.Nat.{ℕ, ◌/◌, ◌≤◌, ◌<◌}
use native.Mathlib.Omega.{arith}
use lib.ListN.{length, take, set}
use Rattle.rules.specs.Bytes.{byte_at, all_are, over, splice}
use Rattle.rules.specs.Sectors.{sector_of, sector_count, through, written}
use Rattle.rules.specs.Name.{name_byte, padded, name_rule}
use Rattle.rules.specs.Label.{label_rule}
use Rattle.rules.specs.Map.{map_bit, count, taken, bits_rule, map_rule, byte_of, bytes_of, map_of}
use Rattle.rules.specs.Descriptor.{IsDescriptor}
use Rattle.rules.specs.Index.{numbers, range_rule, index_rule}
use Rattle.rules.specs.Directory.{entries, entry_name, is_absent, is_named, entry_rule, entries_rule}
use Rattle.rules.specs.Volume.{directories, present, indexes, every, files_in, files_of, file_holders, holders}
use Rattle.rules.specs.Verdict.{size_rule, descriptors_rule, held_twice, volume_tests, verdict}
use Rattle.rules.specs.Sound.{IsIndexed, Sound}
use Rattle.rules.specs.Tests.{first_of}
use Rattle.rules.specs.Calls.Format.{new_label, formatted}
use Rattle.rules.specs.Calls.Pack.{together}
use Rattle.rules.specs.Calls.Repair.{each_rule, distinct_rule, repair_tests}
use Rattle.rules.specs.declared.Layout.{Layout}
use Rattle.rules.proofs.Sectors.{sector_length}
use Rattle.rules.proofs.Map.{count_none, count_here, count_other, counted_all, count_append}
use Rattle.rules.proofs.Directory.{entries_kept}
use Rattle.rules.proofs.Indexes.{held_of_has}
use Rattle.rules.proofs.Staying.{indexes_kept}
use Rattle.rules.proofs.Verdict.{passes}
use Rattle.rules.proofs.Listed.{label_long, index_low, listed_range}
use Rattle.rules.proofs.Repair.{mendable}
use Rattle.demands.specs.Bench.{disk_x, geometry}
use Rattle.demands.specs.Call as call
use Rattle.demands.specs.Call.{Change, Version, number_of}
use Rattle.demands.specs.Grounds.{grounds}
use Rattle.demands.specs.Demand2.{Means, Frame}
use Rattle.demands.specs.Stop.{cut, Restores, Withstood, Stop}
use Rattle.demands.specs.WrongStop.{Made, index, made, IndexFirst, MapFirst, DropsFiles, RepairsNothing, WrongStops}
use Rattle.demands.proofs.Agreeing.{descriptors_held}
use Rattle.demands.proofs.Cutting.{mendable_done, on_size, on_written, on_stood, on_label}
use Rattle.demands.proofs.Stop.{accepted}

-- whatever the catalogues after a cut, repair is done and its volume is sound
record Repaired (layout : Layout) (version : Version) (medium : List ℕ) : Type 0 where
  done : number_of version call.repair medium ≡ 0
  sound : Sound layout (version call.repair medium).image

after_cut : (layout : Layout) (version : Version) → Stop layout version → {change : Change} → (m : Made layout version change) (many : ℕ) → Repaired layout version (cut m.image (made m) many)
unfolding Withstood
after_cut layout version stop {change} m many = go ((stop.withstands change m.directory m.name m.image m.sound m.done).between many)
  where
    go : {before after marked : List _} {B : Type 0} → Restores layout version (cut m.image (made m) many) before
        ⊎ (Restores layout version (cut m.image (made m) many) after ⊎ (B × Restores layout version (cut m.image (made m) many) marked)) → Repaired layout version (cut m.image (made m) many)
    go (inl r) = record { done = r.done; sound = r.sound }
    go (inr (inl r)) = record { done = r.done; sound = r.sound }
    go (inr (inr r)) = record { done = r.1.done; sound = r.1.sound }

-- an index of the volume is one of what is on the medium, whose label stands
module _ (layout : Layout) (image after : List ℕ) (is : Sound layout image) (size : length after ≡ length image) (label : (b : ℕ) → b < 56 → byte_at (sector_of after 0) b ≡ byte_at (sector_of image 0) b) (done : List ℕ) where
  abbrev medium : List ℕ
  medium = written image (through after done)

  still_indexed : (i : ℕ) → IsIndexed layout image i → IsIndexed layout medium i
  still_indexed i indexed =
      let long = sector_length medium 0 (omega (arith, on_size image after is.whole size done, is.whole, is.size)) in
      rw (indexes_kept layout image medium (entries_kept layout (sector_of image 0) (sector_of medium 0) (long ∙ sym (label_long layout image is)) (on_label image after is.whole size (omega (arith, is.size)) label done))) indexed

index_first : (layout : Layout) (version : Version) → IndexFirst layout version → Stop layout version → ⊥
unfolding Means files_in
index_first layout version kind stop =
    let some = kind.some in
    let image = some.image in
    let is = some.sound in
    let r = made some in
    let i = index some in
    let c = call.change some.directory some.name (call.create kind.status kind.record_length kind.records_per_sector) in
    let change = (stop.meets.means c image is some.done).0 in
    let done = take kind.many r.order in
    let medium = cut image r kind.many in
    let can = accepted layout version stop.meets medium (after_cut layout version stop some kind.many).done in
    let here = still_indexed layout image r.image is change.size change.kept.label done i some.indexed in
    let there = on_written image r.image is.whole change.size done i (index_low layout image is i some.indexed).1 kind.written in
    let rules =
    counted_all (λ (j : ℕ). IsDescriptor layout (sector_count medium) (sector_of medium j)) (files_in medium i) (can.each i here).descriptors kind.k
    (rw (ap (λ (s : List ℕ). count kind.k (numbers s)) there) kind.lists)
    in
    let many : sector_count medium ≡ sector_count image = ap (λ (m : ℕ). m / 256) (on_size image r.image is.whole change.size done) in
    kind.none_there (rw (many, on_stood image r.image is.whole change.size done kind.k kind.unwritten) at rules)

map_first : (layout : Layout) (version : Version) → MapFirst layout version → Stop layout version → ⊥
unfolding Means files_in holders
map_first layout version kind stop =
    let some = kind.some in
    let image = some.image in
    let is = some.sound in
    let r = made some in
    let i = index some in
    let k = kind.k in
    let change = (stop.meets.means (call.change some.directory some.name call.delete) image is some.done).0 in
    let done = take 1 r.order in
    let medium = cut image r 1 in
    let sound : Sound layout medium = rw kind.unrepaired at (after_cut layout version stop some 1).sound in
    let here = still_indexed layout image r.image is change.size change.kept.label done i some.indexed in
    let zero : sector_of medium 0 ≡ sector_of r.image 0 =
    on_written image r.image is.whole change.size done 0 (omega (arith, is.size)) (rw kind.first (omega (arith, count_here 0 [])))
    in
    let stood : sector_of medium i ≡ sector_of image i =
    on_stood image r.image is.whole change.size done i (rw kind.first (count_other i 0 [] (λ e. omega (arith, e, index_low layout image is i some.indexed)) ∙ count_none i))
    in
    let listed : 1 ≤ count k (files_in medium i) = rw (ap (λ (s : List ℕ). count k (numbers s)) stood) kind.listed in
    let all = indexes layout medium in
    let bit = sound.marked k (listed_range layout medium sound i here k listed).1 in
    omega (
      arith,
      sym bit ∙ ap (λ (s : List ℕ). map_bit s k) zero ∙ kind.cleared,
      listed,
      descriptors_held medium k (files_in medium i),
      held_of_has medium i all here k,
      count_append k (0 ∷ all) (file_holders medium (files_of medium all)),
    )

drops_files : (layout : Layout) (version : Version) → DropsFiles layout version → Stop layout version → ⊥
unfolding Frame
drops_files layout version kind stop = omega (arith, kind.fewer, ap (λ files. length (together files)) (stop.meets.frame call.repair kind.image kind.sound))

-- an empty volume of three sectors whose map has the third taken: it is not sound, and it can be mended
abbrev wrong_map : List ℕ
wrong_map = set (formatted 3 disk_x geometry) 56 0xFF

unmapped : (marks directories : Bool) →
    let layout : Layout = record { marks = marks; directories = directories } in
    (verdict layout wrong_map ≡ 6) × (first_of (repair_tests layout wrong_map) ≡ 0)
unfolding formatted new_label map_of bytes_of byte_of taken count all_are over splice sector_of name_byte padded name_rule label_rule map_bit bits_rule map_rule numbers range_rule index_rule entries entry_name is_absent is_named entry_rule entries_rule directories present indexes every files_in files_of file_holders holders size_rule descriptors_rule held_twice volume_tests verdict first_of each_rule distinct_rule repair_tests
unmapped true true = (refl, refl)
unmapped true false = (refl, refl)
unmapped false true = (refl, refl)
unmapped false false = (refl, refl)

repairs_nothing : (layout : Layout) (version : Version) → RepairsNothing version → Stop layout version → ⊥
unfolding RepairsNothing Means grounds
repairs_nothing layout version nothing stop =
    let shown = unmapped layout.marks layout.directories in
    let done = mendable_done layout wrong_map (number_of version call.repair wrong_map) (mendable layout wrong_map shown.1) (stop.meets.progress call.repair wrong_map) in
    let sound : Sound layout wrong_map = rw (nothing wrong_map) at (stop.meets.mends wrong_map done).sound in
    let six : ◌≡◌ {A = ℕ} 6 0 = sym shown.0 ∙ passes layout wrong_map sound in
    omega (arith, six)

pub wrong_stops : (layout : Layout) → WrongStops layout
wrong_stops layout = record { index_first = index_first layout; map_first = map_first layout; drops_files = drops_files layout; repairs_nothing = repairs_nothing layout }

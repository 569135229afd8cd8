-- Demand 2 shuts out the wrong versions. One that meets it is ours, so its numbers are those computed of case M's volume, to whose file NOTES a sector can be appended; the others depart from
-- what demand 2 says of the sectors.
use mathlib.Core.Path.{◌≡◌, refl, sym, ap, ◌∙◌}
use mathlib.Core.Bool.{true}
use mathlib.Core.List.{List, [], ◌∷◌, ◌++◌, map}
use mathlib.Core.Logic.{inl, inr}
use Prim.Native.Nat.{ℕ, ◌+◌, ◌-◌, ◌≤◌, ◌<◌}
use native.Mathlib.Omega.{arith}
use lib.ListN.{length}
use Rattle.rules.specs.Bytes.{all_are}
use Rattle.rules.specs.Sectors.{sector_of, sector_count}
use Rattle.rules.specs.Name.{name_byte, padded, name_rule}
use Rattle.rules.specs.Map.{map_bit, count}
use Rattle.rules.specs.declared.Layout.{Layout}
use Rattle.rules.specs.declared.Block.{Block}
use Rattle.rules.specs.Sound.{IsIndexed}
use Rattle.rules.specs.Volume.{index_at, indexes, files_in, files_of, file_holders, holders, File, file_in, catalogue, catalogues}
use Rattle.rules.specs.Tests.{first_of}
use Rattle.rules.specs.Verdict.{size_rule, volume_tests, verdict}
use Rattle.rules.specs.Calls.Summary.{free_count_of}
use Rattle.rules.specs.Calls.Format.{formatted}
use Rattle.rules.specs.Calls.Append.{append_of}
use Rattle.rules.specs.Answers.Amount as amount
use Rattle.rules.proofs.Map.{count_none, count_other}
use Rattle.rules.proofs.Marking.{all_other}
use Rattle.rules.proofs.Verdict.{sound}
use Rattle.rules.proofs.Formatted.{formatted-length}
use Rattle.rules.proofs.Indexes.{root_at}
use Rattle.rules.proofs.Altered.{own_inside, own_other}
use Rattle.demands.specs.Call as call
use Rattle.demands.specs.Call.{Change, Call, Result, Version, form_of, number_in, number_of, change_rule}
use Rattle.demands.specs.Ours.{seen, outcome, ours}
use Rattle.demands.specs.CaseM.{notes, case_m}
use Rattle.demands.specs.Bench.{disk_x, geometry}
use Rattle.demands.specs.Formatting.{EmptyVolume}
use Rattle.demands.specs.Does.{Formatting}
use Rattle.demands.specs.Taking.{Free, ForData, Takes}
use Rattle.demands.specs.Grounds.{Has}
use Rattle.demands.specs.Touches.{Touches, TouchesIn}
use Rattle.demands.specs.Demand2.{FreeIs, Shows, Means, Demand2}
use Rattle.demands.specs.Unique.{OnlyOurs}
use Rattle.demands.specs.Wrong.{NeverDone, OneNumber, DoesNothing, InventsFree, OnlyReports, Instance, after, Wipes, MovesData, TakesHigher, WrongVersions}
use Rattle.demands.proofs.Formatting.{formatting}
use Rattle.demands.proofs.Carried.{named_number_lem, amount_number_lem}
use Rattle.demands.proofs.Computed.{second_sector, computed}
use Rattle.demands.proofs.Touched.{behind_system, directory_there, of_first}
use Rattle.demands.proofs.Complete.{only_ours}

-- a volume of n sectors, just formatted: its holders are sectors 0 and 1
abbrev volume : ℕ → List ℕ
volume n = formatted n disk_x geometry

rule_x : name_rule disk_x ≡ true
unfolding name_rule name_byte padded all_are
rule_x = refl

new_volume : (layout : Layout) (n : ℕ) → 3 ≤ n → n ≤ 1600 → EmptyVolume layout (volume n)
unfolding Formatting
new_volume layout n large small = formatting layout n disk_x geometry large small rule_x

-- it has one index, the root's, and no files
no_files : (layout : Layout) (image : List ℕ) → EmptyVolume layout image → length (indexes layout image ++ file_holders image (files_of image (indexes layout image))) ≡ 1
unfolding catalogues catalogue files_of file_holders
no_files layout image new = go (indexes layout image) new.empty
  where
    none : (ks : List ℕ) → map (file_in image) ks ≡ [] → ks ≡ []
    none [] e = refl
    none (k ∷ ks) e = let one = ap length e in absurd (omega (arith, one))

    first_empty : (files : List File) → files ∷ [] ≡ [] ∷ [] → files ≡ []
    first_empty files e = cc e

    go : (is : List ℕ) → map (catalogue image) is ≡ [] ∷ [] → length (is ++ file_holders image (files_of image is)) ≡ 1
    go [] e = let one = ap length e in absurd (omega (arith, one))
    go (i ∷ []) e = rw (none (files_in image i) (first_empty (catalogue image i) e))
    go (i ∷ (j ∷ is)) e = let one = ap length e in absurd (omega (arith, one))

free_is : (layout : Layout) (image : List ℕ) → EmptyVolume layout image → (free : ℕ) → FreeIs layout image free → free + 2 ≡ sector_count image
unfolding holders
free_is layout image new free counted = omega (arith, no_files layout image new, counted.is)

module _ (layout : Layout) (version : Version) (all : Demand2 layout version) where
  -- its numbers are ours
  number_ours : (c : Call) (image : List ℕ) → number_of version c image ≡ number_of (ours layout) c image
  unfolding OnlyOurs
  number_ours c image = ap (λ (r : Result (form_of c)). number_in (form_of c) r.answer) (only_ours layout version all c image)

  judges : (image : List ℕ) → number_of version (call.look call.judge []) image ≡ verdict layout image
  unfolding ours seen
  judges image = number_ours (call.look call.judge []) image

  -- the append to NOTES changes the image
  abbrev appending : Call
  appending = call.change 0 notes (call.append second_sector)

  appends : number_of version appending (case_m layout) ≡ 0
  unfolding ours outcome
  appends = number_ours appending (case_m layout) ∙ named_number_lem (call.one notes) (append_of layout (case_m layout) 0 notes second_sector).number ∙ (computed layout).appended

  append_marks : (version appending (case_m layout)).image ≡ case_m layout → ⊥
  unfolding Means
  append_marks same =
      let free = rw same at (all.means appending (case_m layout) (sound layout (case_m layout) (computed layout).judged) appends).0.free in
      omega (arith, free)

  -- the free count of an empty volume
  counts : (n : ℕ) → 3 ≤ n → n ≤ 1600 → (version (call.look call.free_count []) (volume n)).answer ≡ amount.Given (n - 2)
  unfolding ours seen free_count_of verdict Means Shows
  counts n large small =
      let new = new_volume layout n large small in
      let counting = call.look call.free_count [] in
      let zero = number_ours counting (volume n) ∙ amount_number_lem (free_count_of layout (volume n)) ∙ new.judged in
      let given = (all.means counting (volume n) new.sound zero).0 in
      let size : sector_count (volume n) ≡ n = rw (formatted-length n disk_x geometry refl (omega arith)) (omega arith) in
      let free : given.free ≡ n - 2 = omega (arith, free_is layout (volume n) new given.free given.count, size) in
      given.is ∙ ap amount.Given free

refuses_always : (layout : Layout) (version : Version) → NeverDone version → Demand2 layout version → ⊥
unfolding NeverDone
refuses_always layout version kind all = kind (call.look call.judge []) (case_m layout) (judges layout version all (case_m layout) ∙ (computed layout).judged)

-- the judge gives 0 to case M's volume and 1 to no bytes at all
answers_same : (layout : Layout) (version : Version) → OneNumber version → Demand2 layout version → ⊥
unfolding verdict volume_tests first_of size_rule
answers_same layout version kind all =
    let zero = sym (kind.is (call.look call.judge []) (case_m layout)) ∙ judges layout version all (case_m layout) ∙ (computed layout).judged in
    let one : kind.number ≡ 1 = sym (kind.is (call.look call.judge []) []) ∙ judges layout version all [] in
    omega (arith, zero, one)

does_nothing : (layout : Layout) (version : Version) → DoesNothing version → Demand2 layout version → ⊥
unfolding DoesNothing
does_nothing layout version kind all = append_marks layout version all (kind (appending layout version all) (case_m layout)).0

-- a volume of 64 sectors and one of 65
invents_free : (layout : Layout) (version : Version) → InventsFree layout version → Demand2 layout version → ⊥
unfolding InventsFree
invents_free layout version kind all =
    let first = counts layout version all 64 (omega arith) (omega arith) in
    let second = counts layout version all 65 (omega arith) (omega arith) in
    let same : amount.Given 62 ≡ amount.Given 63 =
    sym first ∙ kind (volume 64) (volume 65) (new_volume layout 64 (omega arith) (omega arith)).sound (new_volume layout 65 (omega arith) (omega arith)).sound ∙ second
    in
    let free : ◌≡◌ {A = ℕ} 62 63 = cc in
    omega (arith, free)

only_reports : (layout : Layout) (version : Version) → OnlyReports layout version → Demand2 layout version → ⊥
unfolding OnlyReports
only_reports layout version kind all = append_marks layout version all (kind (case_m layout) 0 notes second_sector (sound layout (case_m layout) (computed layout).judged) (rw (root_at layout (case_m layout)) (computed layout).held))

-- what demand 2 says of the sectors where a change was done
touched : (layout : Layout) (version : Version) → Demand2 layout version → {change : Change} → (some : Instance layout version change) → Touches (change_rule layout change) change some.image (after some) some.directory some.name (version (call.change some.directory some.name change) some.image).order
unfolding Means
touched layout version all {change} some = (all.means (call.change some.directory some.name change) some.image some.sound some.done).1

-- the directory is there
there : (layout : Layout) (version : Version) → Demand2 layout version → {change : Change} → (some : Instance layout version change)
    → IsIndexed (change_rule layout change) some.image (index_at (change_rule layout change) some.image some.directory)
there layout version all {change} some =
    directory_there (change_rule layout change) some.directory some.name change some.image _ some.done (all.progress (call.change some.directory some.name change) some.image)

abbrev this_file : (layout : Layout) {version : Version} {change : Change} → (some : Instance layout version change)
    → Has some.image (index_at (change_rule layout change) some.image some.directory) some.name (λ k. Unit {0})
this_file layout some = record { sector = some.k; listed = some.listed; named = some.is_named; so = tt }

wipes : (layout : Layout) (version : Version) → Wipes layout version → Demand2 layout version → ⊥
unfolding TouchesIn
wipes layout version kind all =
    let some = kind.some in
    let i = index_at layout some.image some.directory in
    let indexed = there layout version all some in
    let inside = own_inside layout some.image i some.k some.sound indexed some.listed kind.sector kind.own in
    let apart = own_other layout some.image i some.k some.sound indexed some.listed kind.sector kind.own in
    kind.wiped ((touched layout version all some).so.0.others kind.sector inside.1 (behind_system i kind.sector [] (λ e. omega (arith, e, inside.0)) apart ∙ count_none kind.sector))

moves_data : (layout : Layout) (version : Version) → MovesData layout version → Demand2 layout version → ⊥
unfolding TouchesIn
moves_data layout version kind all =
    let some = kind.some in
    kind.moved (of_first layout some.image (index_at layout some.image some.directory) some.name some.sound (there layout version all some) (this_file layout some) (touched layout version all some)).0.lies.places_are

-- the sector taken is the lowest free one from 34 up, where there is one
taken_low : (image : List ℕ) (before after : List Block) (places ks : List ℕ) (lower higher : ℕ) → 34 ≤ lower → lower < higher → Free image [] lower
    → Takes image [] places before ks after → length ks ≡ 1 → count higher ks ≡ 0
unfolding Takes
taken_low image before after places [] lower higher low order free takes one = absurd (omega (arith, one))
taken_low image before after places (k ∷ []) lower higher low order free takes one =
    count_other higher k [] (λ e. go takes.0 e) ∙ count_none higher
  where
    go : ForData image [] k → k ≡ higher → ⊥
    go (inl lowest) e = lowest.first lower low (omega (arith, order, e)) free
    go (inr none) e = none.0 lower low free
taken_low image before after places (k ∷ (j ∷ ks)) lower higher low order free takes one = absurd (omega (arith, one))

takes_higher : (layout : Layout) (version : Version) → TakesHigher layout version → Demand2 layout version → ⊥
unfolding TouchesIn
takes_higher layout version kind all =
    let some = kind.some in
    let gains = (touched layout version all some).so.gains in
    let apart = taken_low some.image _ gains.taken.chain _ gains.taken.ks kind.lower kind.higher kind.order.0 kind.order.1 kind.lower_free gains.taken.takes gains.taken.so_many in
    let stays = all_other 1 (omega arith) (sector_of some.image 0) gains.taken.ks kind.higher apart in
    omega (arith, sym kind.taken ∙ ap (λ (s : List ℕ). map_bit s kind.higher) gains.map ∙ stays ∙ kind.higher_free.free)

pub wrong_versions : (layout : Layout) → WrongVersions layout
wrong_versions layout =
    record {
      refuses_always = refuses_always layout;
      answers_same = answers_same layout;
      does_nothing = does_nothing layout;
      invents_free = invents_free layout;
      only_reports = only_reports layout;
      wipes = wipes layout;
      moves_data = moves_data layout;
      takes_higher = takes_higher layout;
    }

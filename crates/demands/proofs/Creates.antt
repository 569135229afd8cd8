-- Create, where its number is 0: a new file without sectors was entered.
use mathlib.Core.Path.{◌≡◌, refl}
use mathlib.Core.Bool.{Bool, true, false, ◌||◌}
use mathlib.Core.List.{List, []}
use mathlib.Core.Logic.{◌⊎◌, inl, inr}
use Prim.Native.Nat.{ℕ, ◌≤◌, ◌<◌}
use native.Mathlib.Omega.{arith}
use lib.Dec.{eqb}
use lib.ListN.{length}
use borrow.Author.Tests.{not-false, eqb-true, ltb-false, leb-false}
use Rattle.rules.specs.Sectors.{Write, sector_of, sector_count, written, sectors_in, Whole}
use Rattle.rules.specs.Map.{free_count, marked, marked_all}
use Rattle.rules.specs.Chain.{extended_all}
use Rattle.rules.specs.Kind.{allowed_bits, marking, kind_of, IsStatus, IsKind}
use Rattle.rules.specs.Descriptor.{new_descriptor}
use Rattle.rules.specs.Volume.{files_in, catalogue}
use Rattle.rules.specs.Choice.{descriptor_choice}
use Rattle.rules.specs.Tests.{Passed}
use Rattle.rules.specs.Opening.{open_of}
use Rattle.rules.specs.Calls.Create.{create_status, entered, create_tests, creating, create_of}
use Rattle.rules.specs.Calls.Store.{data_writes}
use Rattle.rules.specs.declared.Layout.{Layout}
use Rattle.rules.proofs.Tests.{all_passed, unless_passed}
use Rattle.rules.proofs.Name.{name_is}
use Rattle.rules.proofs.Map.{only_one, one_once}
use Rattle.rules.proofs.Marks.{HoldsFour, allowed_four, marking-status, marking_kind, records_status}
use Rattle.rules.proofs.Choice.{Chosen, sound_fenced, descriptor_choice_free}
use Rattle.rules.proofs.Opening.{IsAbsent, absent_at, open_refused, added_done}
use Rattle.demands.specs.Catalogue.{put_in}
use Rattle.demands.specs.Call.{create}
use Rattle.demands.specs.Ours.{outcome}
use Rattle.demands.specs.Grounds.{CreateStatus}
use Rattle.demands.specs.Effects.{effect, Done, new_header, pieces}
use Rattle.demands.specs.Taking.{Takes}
use Rattle.demands.specs.Touches.{Enters, TouchesIn}
use Rattle.demands.specs.Does.{Does}
use Rattle.demands.proofs.NewFile.{new_is}
use Rattle.demands.proofs.Taking.{descriptor_lowest}
use Rattle.demands.proofs.Entering.{new_file_done}

-- the four statuses, as the test and as the ground states them
pub status_among : (status : ℕ) → create_status status ≡ true → CreateStatus status
unfolding create_status
status_among status = go (eqb status 0) (eqb status 0x02) (eqb status 0x80) refl refl refl
  where
    go : (a b c : Bool) → eqb status 0 ≡ a → eqb status 0x02 ≡ b → eqb status 0x80 ≡ c → (a || (b || (c || eqb status 0x82))) ≡ true → CreateStatus status
    go true b c is more last e = record { among = inl (eqb-true status 0 is) }
    go false true c is more last e = record { among = inr (inl (eqb-true status 0x02 more)) }
    go false false true is more last e = record { among = inr (inr (inl (eqb-true status 0x80 last))) }
    go false false false is more last e = record { among = inr (inr (inr (eqb-true status 0x82 e))) }

-- what holds of the four holds of one that is among them
by_status : (P : ℕ → Type 0) → P 0 → P 0x02 → P 0x80 → P 0x82 → (status : ℕ) → CreateStatus status → P status
by_status P p0 p2 p80 p82 status is = go is.among
  where
    go : (status ≡ 0) ⊎ ((status ≡ 0x02) ⊎ ((status ≡ 0x80) ⊎ (status ≡ 0x82))) → P status
    go (inl e) = rw e p0
    go (inr (inl e)) = rw e p2
    go (inr (inr (inl e))) = rw e p80
    go (inr (inr (inr e))) = rw e p82

pub among_status : (status : ℕ) → CreateStatus status → create_status status ≡ true
unfolding create_status
among_status = by_status (λ (status : ℕ). create_status status ≡ true) refl refl refl refl

-- each keeps the rules of any set that has the four bits, and marked those of the layout
status_rules : (bits : ℕ) → HoldsFour bits → (status : ℕ) → CreateStatus status → IsStatus bits status
status_rules bits four =
    by_status (IsStatus bits) (records_status bits four 0 0 (omega arith) (omega arith)) (records_status bits four 1 0 (omega arith) (omega arith))
    (records_status bits four 0 1 (omega arith) (omega arith)) (records_status bits four 1 1 (omega arith) (omega arith))

kind_rules : (c end_offset record_length status : ℕ) → CreateStatus status → IsKind (kind_of status c end_offset record_length) c end_offset
unfolding kind_of IsKind
kind_rules c end_offset record_length = by_status (λ (status : ℕ). IsKind (kind_of status c end_offset record_length) c end_offset) tt tt tt tt

module _ (layout : Layout) (image : List ℕ) (i : ℕ) (name : List ℕ) (status record_length records_per_sector : ℕ) where
  abbrev k : ℕ
  k = descriptor_choice (sector_of image 0)

  abbrev writes : List Write
  writes = entered image i name k (new_descriptor name (marking layout status) records_per_sector 0 record_length) (marked 1 (sector_of image 0) k)

  module _ (absent : IsAbsent layout image name i) (allowed : CreateStatus status) (place : length (files_in image i) < 127) (room : 1 ≤ free_count (sector_of image 0)) where
    chosen : Chosen (sector_count image) (sector_of image 0) k
    chosen = descriptor_choice_free (sector_count image) (sector_of image 0) (sound_fenced layout image absent.whole) room

    created_done :
        let after = written image writes in
        Done layout image after i name (effect (put_in (record { header = new_header name (marking layout status) records_per_sector 0 0 record_length; contents = [] }) (catalogue image i)) 1 0) × Enters image after i name 0 (sectors_in writes) × Whole (length image) writes
    unfolding marked_all data_writes pieces extended_all Takes
    created_done =
        new_file_done layout image i name [] k [] (marking layout status) records_per_sector 0 record_length absent place (one_once k) (λ j some. rw (← only_one k j some) chosen) (omega arith) (omega arith)
        (marking-status layout status (status_rules (allowed_bits layout) (allowed_four layout) status allowed)) (rw (marking_kind layout status 0 0 record_length) (kind_rules 0 0 record_length status allowed))
        (new_descriptor name (marking layout status) records_per_sector 0 record_length) (new_is name (marking layout status) records_per_sector 0 record_length (name_is name absent.rule).ten)
        (descriptor_lowest layout image absent.whole room) refl

pub creates : (layout : Layout) (status record_length records_per_sector : ℕ) → Does layout (create status record_length records_per_sector)
unfolding outcome create_of creating create_tests Passed TouchesIn
creates layout status record_length records_per_sector image directory name e =
    let added = added_done (open_of layout image directory name) (creating layout image name status record_length records_per_sector) (open_refused layout image directory name) e in
    let i = added.index in
    let tests = create_tests image status i in
    let passed = all_passed tests added.number in
    let absent = absent_at layout image directory name i added.absent in
    rw (added.is, unless_passed tests (writes layout image i name status record_length records_per_sector) [] added.number, absent.0)
    (created_done layout image i name status record_length records_per_sector absent.1 (status_among status (not-false _ passed.0))
    (leb-false 127 (length (files_in image i)) passed.1.0) (ltb-false (free_count (sector_of image 0)) 1 passed.1.1.0))

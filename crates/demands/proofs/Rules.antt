-- The two rules differ in one bit of the status, so what says nothing of that bit says the same by both; and where that bit is zero, making it zero changes nothing.
use mathlib.Core.Path.{◌≡◌, refl, sym, ap, ◌∙◌}
use mathlib.Core.Bool.{false}
use mathlib.Core.List.{List, ◌∷◌, ◌++◌}
use Prim.Native.Nat.{ℕ, ◌<◌}
use native.Mathlib.Omega.{arith}
use native.Mathlib.Decide.{ℕ_discrete}
use lib.ListN.{length}
use lib.Seq.{set-get_or}
use Rattle.rules.specs.Bytes.{bit_of, with_bit}
use Rattle.rules.specs.Sectors.{sector_of, sector_count, written}
use Rattle.rules.specs.Kind.{allowed_bits, with_marks, IsStatus}
use Rattle.rules.specs.Descriptor.{status_of}
use Rattle.rules.specs.Directory.{entries, AreEntries}
use Rattle.rules.specs.Volume.{indexes, files_in, files_of, file_holders, holders}
use Rattle.rules.specs.Sound.{file_at, IsIndexed, SoundIndex, Sound}
use Rattle.rules.specs.Opening.{open_of}
use Rattle.rules.specs.Calls.Protect.{setting_bit, set_bit_of, clear_of}
use Rattle.rules.specs.declared.Layout.{Layout}
use Rattle.rules.proofs.Tests.{by_rule}
use Rattle.rules.proofs.Indexes.{marks_indexes}
use Rattle.rules.proofs.Map.{by_eight}
use Rattle.rules.proofs.Written.{sector_back}
use Rattle.rules.proofs.Opening.{opened_is, open_refused, changed_done}
use Rattle.demands.specs.Call as call
use Rattle.demands.specs.Call.{Result, names_of, form_of, number_in}
use Rattle.demands.specs.Ours.{outcome, ours}
use Rattle.demands.specs.Unique.{OnlyOurs}
use Rattle.demands.specs.Rules.{BothRules, ClearsNothing}
use Rattle.demands.proofs.Carried.{named_number_lem}
use Rattle.demands.proofs.Complete.{only_ours}

-- a volume by another layout that has the same indexes: its entries keep the rules of that one, and its files' statuses
module _ (layout layout' : Layout) (image : List ℕ) (is : Sound layout image) (same : indexes layout' image ≡ indexes layout image) (entered : AreEntries (sector_count image) (entries layout' (sector_of image 0)))
    (keeps : (i : ℕ) → IsIndexed layout image i → (p : ℕ) → p < length (files_in image i) → IsStatus (allowed_bits layout') (status_of (sector_of image (file_at image i p)))) where
  holders_by : holders layout' image ≡ holders layout image
  unfolding holders
  holders_by = ap (λ (is : List ℕ). 0 ∷ (is ++ file_holders image (files_of image is))) same

  index_by : (i : ℕ) → IsIndexed layout image i → SoundIndex layout' image i
  index_by i indexed =
      let s = is.each i indexed in
      record {
        index = s.index;
        descriptors = λ p h. let d = s.descriptors p h in record { name = d.name; status = keeps i indexed p h; kind = d.kind; chain = d.chain };
        ascending = s.ascending;
      }

  pub sound_by : Sound layout' image
  sound_by =
      record {
        whole = is.whole;
        size = is.size;
        label = is.label;
        entered = entered;
        each = λ i indexed. index_by i (rw same at indexed);
        single = rw holders_by is.single;
        marked = rw holders_by is.marked;
        filled = is.filled;
      }

-- a status by another set of bits, which has all that it has
status_by : (bits bits' status : ℕ) → ((j : ℕ) → j < 8 → bit_of bits' j ≡ 0 → bit_of status j ≡ 0) → IsStatus bits status → IsStatus bits' status
status_by bits bits' status others is = record { small = is.small; others = others; excludes = is.excludes }

wider : (layout : Layout) (status : ℕ) → IsStatus (allowed_bits layout) status → IsStatus (allowed_bits (with_marks layout)) status
unfolding allowed_bits
wider layout status is = status_by (allowed_bits layout) _ status (λ j h out. is.others j h (narrow j h out)) is
  where
    narrow : (j : ℕ) → j < 8 → bit_of (allowed_bits (with_marks layout)) j ≡ 0 → bit_of (allowed_bits layout) j ≡ 0
    narrow =
        by_rule (λ layout. (j : ℕ) → j < 8 → bit_of (allowed_bits (with_marks layout)) j ≡ 0 → bit_of (allowed_bits layout) j ≡ 0) (λ edition j h out. out)
        (λ edition.
        by_eight (λ (j : ℕ). bit_of (allowed_bits (with_marks layout)) j ≡ 0 → bit_of (allowed_bits (record { marks = false; directories = edition })) j ≡ 0)
        (λ out. out) (λ out. out) (λ out. refl) (λ out. out) (λ out. refl) (λ out. refl) (λ out. refl) (λ out. out))
        layout

narrower : (layout : Layout) (status : ℕ) → bit_of status 4 ≡ 0 → IsStatus (allowed_bits (with_marks layout)) status → IsStatus (allowed_bits layout) status
unfolding allowed_bits
narrower layout status none is =
    status_by _ (allowed_bits layout) status
    (by_rule (λ layout. (j : ℕ) → j < 8 → bit_of (allowed_bits layout) j ≡ 0 → bit_of status j ≡ 0) (λ edition. is.others)
    (λ edition.
    by_eight (λ (j : ℕ). bit_of (allowed_bits (record { marks = false; directories = edition })) j ≡ 0 → bit_of status j ≡ 0)
    (λ out. absurd (omega (arith, out))) (λ out. absurd (omega (arith, out))) (λ out. is.others 2 (omega arith) refl) (λ out. absurd (omega (arith, out))) (λ out. none)
    (λ out. is.others 5 (omega arith) refl) (λ out. is.others 6 (omega arith) refl) (λ out. absurd (omega (arith, out))))
    layout) is

pub both_rules : BothRules
unfolding allowed_bits entries
both_rules =
    record {
      allowed = λ layout image is. sound_by layout (with_marks layout) image is (marks_indexes layout image) is.entered (λ i indexed p h. wider layout _ ((is.each i indexed).descriptors p h).status);
      unmarked = λ layout image is none.
          sound_by (with_marks layout) layout image is (sym (marks_indexes layout image)) is.entered
          (λ i indexed p h. narrower layout _ (none i (rw (marks_indexes layout image) at indexed) p h) ((is.each i indexed).descriptors p h).status);
      none = λ layout image e is i indexed p h. ((is.each i indexed).descriptors p h).status.others 4 (omega arith) (rw e);
    }

-- a bit that is zero, made zero, is the byte; so the descriptor is laid where it lies
bit_kept : (status j : ℕ) → bit_of status j ≡ 0 → with_bit status j 0 ≡ status
unfolding with_bit
bit_kept status j none = rw none (omega arith)

cleared_same : (layout : Layout) (image : List ℕ) (directory : ℕ) (name : List ℕ) → layout.marks ≡ false → Sound layout image → (clear_of layout image directory name).number ≡ 0 → written image (clear_of layout image directory name).writes ≡ image
unfolding set_bit_of setting_bit written
cleared_same layout image directory name old is zero =
    let marked = with_marks layout in
    let c = changed_done (open_of marked image directory name) (λ i k. setting_bit 4 0 image k) (open_refused marked image directory name) zero in
    let d = sector_of image c.sector in
    let o = opened_is marked image directory name c.index c.place c.sector c.found_at in
    let none : bit_of (status_of d) 4 ≡ 0 = rw o.is at (both_rules.none layout image old is c.index (rw (marks_indexes layout image) at o.indexed) c.place o.inside) in
    rw (c.is, bit_kept (status_of d) 4 none, set-get_or d 12 0) (sector_back image c.sector)

pub clears_nothing : ClearsNothing
unfolding ClearsNothing OnlyOurs ours outcome
clears_nothing layout version meets old image directory name is =
    let c = call.change directory name call.clear in
    let same = only_ours layout version meets c image in
    elim (ℕ_discrete (clear_of layout image directory name).number 0) [
      | yes zero ↦ ap (λ (r : Result (form_of c)). r.image) same ∙ cleared_same layout image directory name old is zero
      | no some ↦ (meets.refuses c image (λ zero. some (sym (named_number_lem (names_of name call.clear) _) ∙ ap (λ (r : Result (form_of c)). number_in (form_of c) r.answer) (sym same) ∙ zero))).0
    ]

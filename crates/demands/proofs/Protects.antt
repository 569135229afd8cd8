-- Protect, unprotect and clear, one law over the bit: the descriptor with it changed keeps its rules, since the other bits of the status, the name and the chain stay.
use mathlib.Core.Path.{◌≡◌, refl, ◌∙◌}
use mathlib.Core.List.{List, [], ◌∷◌}
use Prim.Native.Nat.{ℕ, ◌≤◌}
use native.Mathlib.Omega.{arith}
use lib.ListN.{length, length-set}
use lib.Seq.{get_or-take}
use Rattle.rules.specs.Bytes.{bit_of, with_bit}
use Rattle.rules.specs.Sectors.{sector_of, sector_count, sectors_in, written, Whole}
use Rattle.rules.specs.Kind.{allowed_bits, with_marks}
use Rattle.rules.specs.Descriptor.{status_of}
use Rattle.rules.specs.Volume.{index_at, header_in, file_in, catalogue}
use Rattle.rules.specs.Sound.{IsIndexed, Sound}
use Rattle.rules.specs.Opening.{open_of}
use Rattle.rules.specs.Calls.Protect.{setting_bit, set_bit_of, clear_of}
use Rattle.rules.specs.declared.Layout.{Layout}
use Rattle.rules.proofs.Indexes.{marks_indexes}
use Rattle.rules.proofs.Marks.{allowed_four, bit_rules}
use Rattle.rules.proofs.Listed.{sector_inside, listed_range, listed_descriptor, opened_listed}
use Rattle.rules.proofs.Opening.{IsOpened, opened_at, opened_is, open_refused, changed_done}
use Rattle.demands.specs.Catalogue.{changed}
use Rattle.demands.specs.Call.{protect, unprotect, clear}
use Rattle.demands.specs.Ours.{outcome}
use Rattle.demands.specs.Effects.{effect, Done, with_status}
use Rattle.demands.specs.Grounds.{Has}
use Rattle.demands.specs.Touches.{Stays, TouchesIn}
use Rattle.demands.specs.Does.{Does}
use Rattle.demands.proofs.Replacing.{byte_done, byte_stays, found_has}

-- the 08 bit and the 10 bit of the file at sector k, one law over both
module _ (layout : Layout) (j bit : ℕ) (small : bit ≤ 1) (low : 3 ≤ j) (high : j ≤ 4) (fits : bit_of (allowed_bits layout) j ≡ 0 → bit ≡ 0) where
  bit_there : (image name : List ℕ) (i p k : ℕ) → IsOpened layout image name i p k →
      let after = written image (setting_bit j bit image k).writes in
      Done layout image after i name (effect (changed name (with_status j bit) (catalogue image i)) 0 0)
      × Has image i name (λ h. Stays image after i name h (h ∷ []) × (sectors_in (setting_bit j bit image k).writes ≡ h ∷ [])) × Whole (length image) (setting_bit j bit image k).writes
  unfolding setting_bit sectors_in Whole written with_status file_in header_in
  bit_there image name i p k o =
      let d = sector_of image k in
      let value = with_bit (status_of d) j bit in
      let rules = bit_rules layout j bit small low high fits d o.long (sector_count image) o.descriptor in (
        byte_done layout image name i p k o 12 value (omega arith) (omega arith) rules (with_status j bit) (rw (get_or-take 28 d 12 0 (omega arith))),
        found_has layout image name i p k o (byte_stays layout image name i p k o 12 value (omega arith) (omega arith) rules, refl),
        (length-set d 12 value ∙ o.long, sector_inside layout image o.whole k (listed_range layout image o.whole i o.indexed k (opened_listed layout image name i p k o)).1, tt),
      )

  bit_done : (image : List ℕ) (directory : ℕ) (name : List ℕ) → (set_bit_of layout j bit image directory name).number ≡ 0 →
      let after = written image (set_bit_of layout j bit image directory name).writes in
      let i = index_at layout image directory in
      Done layout image after i name (effect (changed name (with_status j bit) (catalogue image i)) 0 0)
      × Has image i name (λ h. Stays image after i name h (h ∷ []) × (sectors_in (set_bit_of layout j bit image directory name).writes ≡ h ∷ [])) × Whole (length image) (set_bit_of layout j bit image directory name).writes
  unfolding set_bit_of
  bit_done image directory name e =
      let c = changed_done (open_of layout image directory name) (λ i k. setting_bit j bit image k) (open_refused layout image directory name) e in
      let o = opened_at layout image directory name c.index c.place c.sector c.found_at in
      rw (c.is, o.0) (bit_there image name c.index c.place c.sector o.1)

-- every rule has the protection, and a mark is cleared by the rule that has it
pub protects : (layout : Layout) → Does layout protect
unfolding outcome TouchesIn
protects layout image directory name e = bit_done layout 3 1 (omega arith) (omega arith) (omega arith) (λ none. absurd (omega (arith, none, (allowed_four layout).protected))) image directory name e

pub unprotects : (layout : Layout) → Does layout unprotect
unfolding outcome TouchesIn
unprotects layout image directory name e = bit_done layout 3 0 (omega arith) (omega arith) (omega arith) (λ none. refl) image directory name e

pub clears : (layout : Layout) → Does layout clear
unfolding outcome TouchesIn
clears layout image directory name e = bit_done (with_marks layout) 4 0 (omega arith) (omega arith) (omega arith) (λ none. refl) image directory name e

-- A volume that is sound by a rule stays sound by it where a mark is cleared: by the rule without marks too. Either rule has the same indexes.
pub cleared_sound : (layout : Layout) (image : List ℕ) (directory : ℕ) (name : List ℕ) → Sound layout image → (clear_of layout image directory name).number ≡ 0
    → Sound layout (written image (clear_of layout image directory name).writes)
unfolding set_bit_of
cleared_sound layout image directory name is e =
    let marked = with_marks layout in
    let c = changed_done (open_of marked image directory name) (λ i k. setting_bit 4 0 image k) (open_refused marked image directory name) e in
    let i = c.index in
    let k = c.sector in
    let o = opened_is marked image directory name i c.place k c.found_at in
    let indexed : IsIndexed layout image i = rw (marks_indexes layout image) at o.indexed in
    let here : IsOpened layout image name i c.place k = record {
      whole = is;
      indexed = indexed;
      rule = o.rule;
      inside = o.inside;
      is = o.is;
      named = o.named;
      low = o.low;
      long = o.long;
      descriptor = listed_descriptor layout image is i indexed k (opened_listed marked image name i c.place k o);
    } in
    rw c.is (bit_there layout 4 0 (omega arith) (omega arith) (omega arith) (λ none. refl) image name i c.place k here).0.sound

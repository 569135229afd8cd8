-- Status and kind: the rules as tests and as facts.
use mathlib.Core.Path.{◌≡◌, refl, sym, ap, ◌∙◌}
use mathlib.Core.Bool.{Bool, true, false, cond, not, ◌&&◌}
use mathlib.Core.List.{List}
use Prim.Native.Nat.{ℕ, ◌+◌, ◌*◌, ◌/◌, ◌%◌, ◌≤◌}
use native.Mathlib.Nat.{div-one}
use native.Mathlib.Omega.{arith}
use native.Mathlib.Decide.{ℕ_discrete}
use lib.Dec.{eqb}
use borrow.Author.Tests.{eq-eqb, ne_eqb, eqb-true, eqb-false, not-true}
use Rattle.rules.specs.Bytes.{bit_of}
use Rattle.rules.specs.Map.{byte_of}
use Rattle.rules.specs.Kind.{is_program, is_internal, is_variable, is_protected, allowed_bits, within, status_rule, kind_of, kind_rule, IsStatus, IsKind}
use Rattle.rules.specs.Descriptor.{status_of}
use Rattle.rules.specs.declared.Layout.{Layout}
use Rattle.rules.specs.declared.Kind.{Kind}
use Rattle.rules.specs.declared.Kind.TheVariants.{Program, Fixed, Variable}
use Rattle.rules.proofs.Tests.{absurd_test, both, by_rule}
use Rattle.rules.proofs.Map.{byte_bit, byte_of_bits, byte_small}

bit_zero : (status j : ℕ) → not (eqb (bit_of status j) 1) ≡ true → bit_of status j ≡ 0
bit_zero status j e =
    let other = eqb-false (bit_of status j) 1 (not-true (eqb (bit_of status j) 1) e) in
    omega (arith, other)

zero_bit : (status j : ℕ) → bit_of status j ≡ 0 → not (eqb (bit_of status j) 1) ≡ true
zero_bit status j e = rw e

-- the bits within a set
module _ (bits status : ℕ) where
  abbrev kept : ℕ → ℕ
  kept j = cond (eqb (bit_of bits j) 1) (bit_of status j) 0

  kept_once : (j : ℕ) → kept j ≤ 1
  kept_once j = go (eqb (bit_of bits j) 1)
    where
      go : (t : Bool) → cond t (bit_of status j) 0 ≤ 1
      go true = omega arith
      go false = omega arith

  kept_in : (j : ℕ) → (bit_of bits j ≡ 0 → bit_of status j ≡ 0) → bit_of status j ≡ kept j
  kept_in j h =
      elim (ℕ_discrete (bit_of bits j) 1) [
        | yes one ↦ rw one
        | no other ↦ rw (ne_eqb (bit_of bits j) 1 other) (h (omega (arith, other)))
      ]

  kept_out : (j : ℕ) → bit_of bits j ≡ 0 → kept j ≡ 0
  kept_out j e = rw e

-- The rule over any set of bits, as a test and as facts.
pub status_is : (bits status : ℕ) → status_rule bits status ≡ true → IsStatus bits status
unfolding status_rule within
status_is bits status e =
    let alone = cond (is_program status) (not (is_internal status) && not (is_variable status)) true in
    let parts = both (eqb status (byte_of (kept bits status) 0)) alone e in
    let is = eqb-true status (byte_of (kept bits status) 0) parts.0 in
    record {
      small = rw is (byte_small (kept bits status) 0 (kept_once bits status));
      others = λ j h out. ap (λ (s : ℕ). bit_of s j) is ∙ byte_bit (kept bits status) (kept_once bits status) 0 j h ∙ ap (kept bits status) (omega arith) ∙ kept_out bits status j out;
      excludes = λ program. excluded program parts.1;
    }
  where
    excluded : bit_of status 0 ≡ 1 → cond (is_program status) (not (is_internal status) && not (is_variable status)) true ≡ true → (bit_of status 1 ≡ 0) × (bit_of status 7 ≡ 0)
    excluded program t =
        let both_out = both (not (is_internal status)) (not (is_variable status)) (rw (eq-eqb (bit_of status 0) 1 program) at t) in
        (bit_zero status 1 both_out.0, bit_zero status 7 both_out.1)

pub is_status : (bits status : ℕ) → IsStatus bits status → status_rule bits status ≡ true
unfolding status_rule within
is_status bits status is =
    rw (eq-eqb status (byte_of (kept bits status) 0) (byte_of_bits (kept bits status) status 0 is.small (λ j h. kept_in bits status j (is.others j h) ∙ ap (kept bits status) (omega arith))))
    (alone (eqb (bit_of status 0) 1) refl)
  where
    alone : (t : Bool) → eqb (bit_of status 0) 1 ≡ t → cond t (not (is_internal status) && not (is_variable status)) true ≡ true
    alone true e =
        let out = is.excludes (eqb-true (bit_of status 0) 1 e) in
        rw (zero_bit status 1 out.0, zero_bit status 7 out.1)
    alone false e = refl

-- the allowed bits as the code tests them: document 01's, and by the rule with marks one more
abbrev pub plain : ℕ → ℕ
plain status = bit_of status 0 + 2 * bit_of status 1 + 8 * bit_of status 3 + 128 * bit_of status 7

-- bit 10 hex of a status that has those alone, and of one that has it besides
even : (b : ℕ) → 8 * b % 2 ≡ 0
even b = omega arith

odd : (b : ℕ) → (8 * b + 1) % 2 ≡ 1
odd b = omega arith

plain_none : (status : ℕ) → status ≡ plain status → bit_of status 4 ≡ 0
plain_none status e =
    let above : status / 16 ≡ 8 * bit_of status 7 = omega (arith, e) in
    ap (λ (q : ℕ). q % 2) above ∙ even (bit_of status 7)

plain_one : (status : ℕ) → status ≡ plain status + 16 → bit_of status 4 ≡ 1
plain_one status e =
    let above : status / 16 ≡ 8 * bit_of status 7 + 1 = omega (arith, e) in
    ap (λ (q : ℕ). q % 2) above ∙ odd (bit_of status 7)

module _ (layout : Layout) (status : ℕ) where
  pub plain_allowed : status ≡ plain status → status ≡ within (allowed_bits layout) status
  unfolding within allowed_bits byte_of
  plain_allowed = by_rule (λ layout. status ≡ plain status → status ≡ within (allowed_bits layout) status) (λ edition e. omega (arith, e, plain_none status e)) (λ edition e. omega (arith, e)) layout

  pub mark_allowed : layout.marks ≡ true → status ≡ plain status + 16 → status ≡ within (allowed_bits layout) status
  unfolding within allowed_bits byte_of
  mark_allowed =
      by_rule (λ layout. layout.marks ≡ true → status ≡ plain status + 16 → status ≡ within (allowed_bits layout) status) (λ edition with e. omega (arith, e, plain_one status e)) (λ edition with e. absurd_test (sym with)) layout

  pub mark_forbidden : layout.marks ≡ false → (status ≡ plain status → ⊥) → status ≡ within (allowed_bits layout) status → ⊥
  unfolding within allowed_bits byte_of
  mark_forbidden =
      by_rule (λ layout. layout.marks ≡ false → (status ≡ plain status → ⊥) → status ≡ within (allowed_bits layout) status → ⊥) (λ edition without. absurd_test without)
      (λ edition without other is. other (omega (arith, is))) layout

  pub other_forbidden : (status ≡ plain status → ⊥) → (status ≡ plain status + 16 → ⊥) → status ≡ within (allowed_bits layout) status → ⊥
  unfolding within allowed_bits byte_of
  other_forbidden =
      by_rule (λ layout. (status ≡ plain status → ⊥) → (status ≡ plain status + 16 → ⊥) → status ≡ within (allowed_bits layout) status → ⊥)
      (λ edition other more is. omega (arith, is, other, more)) (λ edition other more is. other (omega (arith, is))) layout

pub kind_is_lem : (kind : Kind) (c end_offset : ℕ) → kind_rule kind c end_offset ≡ true → IsKind kind c end_offset
unfolding kind_rule IsKind
kind_is_lem (Program length) c end_offset e = λ none. eqb-true end_offset 0 (rw (eq-eqb c 0 none) at e)
kind_is_lem (Fixed record_length internal) c end_offset e = tt
kind_is_lem (Variable record_length internal) c end_offset e = tt

pub is_kind : (kind : Kind) (c end_offset : ℕ) → IsKind kind c end_offset → kind_rule kind c end_offset ≡ true
unfolding kind_rule IsKind
is_kind (Program length) c end_offset is =
    elim (ℕ_discrete c 0) [
      | yes none ↦ rw (eq-eqb c 0 none) (eq-eqb end_offset 0 (is none))
      | no some ↦ rw (ne_eqb c 0 some)
    ]
is_kind (Fixed record_length internal) c end_offset is = refl
is_kind (Variable record_length internal) c end_offset is = refl

-- the tests of a status, by the bits that the code takes out of it
module _ (descriptor : List ℕ) (status : ℕ) (is : status ≡ status_of descriptor) where
  pub protected : status / 8 % 2 ≡ 1 → is_protected (status_of descriptor) ≡ true
  protected set = rw (← is) (eq-eqb (status / 8 % 2) 1 set)

  pub unprotected : (status / 8 % 2 ≡ 1 → ⊥) → is_protected (status_of descriptor) ≡ false
  unprotected clear = rw (← is) (ne_eqb (status / 8 % 2) 1 clear)

  pub program : status % 2 ≡ 1 → is_program (status_of descriptor) ≡ true
  program set = rw (← is, div-one status) (eq-eqb (status % 2) 1 set)

  pub no_program : (status % 2 ≡ 1 → ⊥) → is_program (status_of descriptor) ≡ false
  no_program clear = rw (← is, div-one status) (ne_eqb (status % 2) 1 clear)

-- a file that is no program may have any number of sectors
pub any_kind : (status c end_offset record_length : ℕ) → is_program status ≡ false → IsKind (kind_of status c end_offset record_length) c end_offset
unfolding kind_of IsKind
any_kind status c end_offset record_length e = rw e (go (is_variable status))
  where
    go : (t : Bool) → IsKind (cond t (Variable record_length (is_internal status)) (Fixed record_length (is_internal status))) c end_offset
    go true = tt
    go false = tt

-- and one that is a program has end offset 0 where it has no sector
pub program_end : (status c end_offset record_length : ℕ) → bit_of status 0 ≡ 1 → IsKind (kind_of status c end_offset record_length) c end_offset → c ≡ 0 → end_offset ≡ 0
unfolding kind_of IsKind
program_end status c end_offset record_length set is = rw (eq-eqb (bit_of status 0) 1 set) at is

-- Status and kind. Status: 01 hex program, 02 internal, 08 protected, 80 variable, and by the rule with marks 10, "changed since backup"; other bits zero; 01 excludes 02 and 80.
use Rattle.std.specs.Prelude.{◌≡◌, Bool, true, cond, not, ◌&&◌, ℕ, ◌+◌, ◌-◌, ◌*◌, ◌/◌, ◌<◌, eqb}
use Rattle.rules.specs.Bytes.{bit_of, with_bit}
use Rattle.rules.specs.Map.{byte_of}
use Rattle.rules.specs.declared.Layout.{Layout}
use Rattle.rules.specs.declared.Kind.{Kind}
use Rattle.rules.specs.declared.Kind.TheVariants.{Program, Fixed, Variable}

abbrev pub is_program : ℕ → Bool
is_program status = eqb (bit_of status 0) 1

abbrev pub is_internal : ℕ → Bool
is_internal status = eqb (bit_of status 1) 1

abbrev pub is_variable : ℕ → Bool
is_variable status = eqb (bit_of status 7) 1

abbrev pub is_protected : ℕ → Bool
is_protected status = eqb (bit_of status 3) 1

abbrev pub is_marked : ℕ → Bool
is_marked status = eqb (bit_of status 4) 1

-- the set of bits that a status may have, a byte: 01, 02, 08 and 80 hex, and by the rule with marks 10
unfoldable pub allowed_bits : Layout → ℕ
allowed_bits layout = cond layout.marks 0x9B 0x8B

-- of a status, the bits that are in a set
unfoldable pub within : (bits status : ℕ) → ℕ
within bits status = byte_of (λ j. cond (eqb (bit_of bits j) 1) (bit_of status j) 0) 0

unfoldable pub status_rule : (bits status : ℕ) → Bool
status_rule bits status = eqb status (within bits status) && cond (is_program status) (not (is_internal status) && not (is_variable status)) true

-- the status of a file that a call makes or changes: by the rule with marks it has the mark
unfoldable pub marking : Layout → ℕ → ℕ
marking layout status = cond layout.marks (with_bit status 4 1) status

-- the same layout, by the rule with marks
abbrev pub with_marks : Layout → Layout
with_marks layout = record { marks = true; directories = layout.directories }

-- a program's length in bytes, of its c sectors: end offset 0 means a full last sector
unfoldable pub program_length : ℕ → ℕ → ℕ
program_length c end_offset = cond (eqb end_offset 0) (256 * c) (256 * (c - 1) + end_offset)

-- how many sectors a program of so many bytes takes: bytes/256 rounded up
abbrev pub sectors_for : ℕ → ℕ
sectors_for bytes = (bytes + 255) / 256

-- the kind of a file of that status, with its c, end offset and record length
unfoldable pub kind_of : ℕ → ℕ → ℕ → ℕ → Kind
kind_of status c end_offset record_length =
    cond (is_program status) (Program (program_length c end_offset))
    (cond (is_variable status) (Variable record_length (is_internal status)) (Fixed record_length (is_internal status)))

-- a program with c = 0 has end offset 0
unfoldable pub kind_rule : Kind → (c end_offset : ℕ) → Bool
kind_rule (Program length) c end_offset = cond (eqb c 0) (eqb end_offset 0) true
kind_rule (Fixed record_length internal) c end_offset = true
kind_rule (Variable record_length internal) c end_offset = true

-- The same as facts.
pub record IsStatus (bits status : ℕ) : Type 0 where
  pub small : status < 256
  pub others : (j : ℕ) → j < 8 → bit_of bits j ≡ 0 → bit_of status j ≡ 0
  pub excludes : bit_of status 0 ≡ 1 → (bit_of status 1 ≡ 0) × (bit_of status 7 ≡ 0)

unfoldable pub IsKind : Kind → (c end_offset : ℕ) → Type 0
IsKind (Program length) c end_offset = c ≡ 0 → end_offset ≡ 0
IsKind (Fixed record_length internal) c end_offset = Unit {0}
IsKind (Variable record_length internal) c end_offset = Unit {0}

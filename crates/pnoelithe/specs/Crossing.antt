-- How enums and bools cross to C, which has neither: as numbers. And what a call promises there.
use Rattle.std.specs.Prelude.{◌≡◌, Bool, true, false, cond, List, ◌∷◌, ℕ, eqb, length, Option, Some}
use Rattle.rules.specs.Bytes.{bit_of, splice}
use Rattle.rules.specs.Sectors.{sectors_in, written}
use Rattle.rules.specs.Outcome.{Report, Outcome, if_wrong, behind}
use Rattle.rules.specs.declared.Layout.{Layout}
use Rattle.rules.specs.declared.Kind.{Kind}
use Rattle.rules.specs.declared.Kind.TheVariants.{Program, Fixed, Variable}

-- a layout is a sum of bits: 1 for marks, 2 for directories; other bits are not looked at
unfoldable pub layout_of : ℕ → Layout
layout_of bits = record { marks = eqb (bit_of bits 0) 1; directories = eqb (bit_of bits 1) 1 }

-- 0 PROGRAM, 1 DIS/FIX, 2 DIS/VAR, 3 INT/FIX, 4 INT/VAR
unfoldable pub kind_number : Kind → ℕ
kind_number (Program bytes) = 0
kind_number (Fixed record_length internal) = cond internal 3 1
kind_number (Variable record_length internal) = cond internal 4 2

unfoldable pub flag : Bool → ℕ
flag true = 1
flag false = 0

-- what is given with number 7 stands behind its pointer afterwards, and with any other number what stood there
unfoldable pub behind_seven : ℕ → ℕ → ℕ → ℕ
behind_seven number value before = cond (eqb number 7) value before

-- behind `wrong` that is the place where the name is wrong
abbrev pub place_behind : ℕ → Option ℕ → ℕ → ℕ
place_behind number wrong before = behind_seven number (if_wrong wrong (λ place. place) before) before

-- of a rename: the old name's place where it is wrong, else the new one's
unfoldable pub first_wrong : Option ℕ → Option ℕ → Option ℕ
first_wrong old new = if_wrong old Some new

-- and behind `which` 0 where the old name is wrong, else 1
abbrev pub which_behind : ℕ → Option ℕ → ℕ → ℕ
which_behind number old before = behind_seven number (if_wrong old (λ place. 0) 1) before

-- what `changes` holds afterwards: how many sectors were written, none with a refusal, and their numbers in order; its first number stays, and what is behind them
abbrev pub changes_of : Outcome → List ℕ → List ℕ
changes_of outcome before = splice before 1 (length outcome.writes ∷ sectors_in outcome.writes)

-- a call that writes: the number that it returns, and the image before and after
pub record Crosses (outcome : Outcome) (number : ℕ) (before after : List ℕ) : Type 0 where
  pub returned : number ≡ outcome.number
  pub left : after ≡ written before outcome.writes

-- a call that reads: the number that it returns, and the buffer before and after
pub record ReportCrosses (report : Report) (number : ℕ) (before after : List ℕ) : Type 0 where
  pub returned : number ≡ report.number
  pub left : after ≡ splice before 0 report.bytes

-- and the value behind a pointer, before and after
pub record AmountCrosses (report : Report) (number before after : ℕ) : Type 0 where
  pub returned : number ≡ report.number
  pub value : after ≡ behind number report.value before

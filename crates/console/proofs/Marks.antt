-- The number of a fault has one digit; the numbers of all other refusals are higher. Assumes nothing.
use mathlib.Core.Path.{◌≡◌, refl}
use Prim.Native.Nat.{◌+◌, ◌≤◌}
use native.Mathlib.Omega.{arith}
use borrow.Author.Tests.{le-ltb}
use Rattle.rules.specs.Refusal.{fault_number, refusal_number}
use Rattle.rules.specs.declared.refusal.Fault.{Fault}
use Rattle.rules.specs.declared.refusal.Fault.TheVariants as fault
use Rattle.rules.specs.declared.refusal.Refusal.{Refusal}
use Rattle.rules.specs.declared.refusal.Refusal.TheVariants as refusal
use Rattle.console.specs.Mark.{number_digit}

pub fault_small : (f : Fault) → fault_number f ≤ 6
fault_small fault.Length = omega arith
fault_small fault.Label = omega arith
fault_small fault.Index = omega arith
fault_small fault.Descriptor = omega arith
fault_small fault.Holders = omega arith
fault_small fault.Map = omega arith

pub fault_digit : (f : Fault) → 48 + fault_number f ≡ number_digit (fault_number f)
unfolding number_digit
fault_digit f = rw (le-ltb 6 (fault_number f) (fault_small f)) refl

pub other_digit : (r : Refusal) → ((f : Fault) → r ≡ refusal.Unsound f → ⊥) → 0x2D ≡ number_digit (refusal_number r)
unfolding number_digit
other_digit (refusal.Unsound f) other = absurd (other f refl)
other_digit (refusal.Misnamed place) other = refl
other_digit refusal.Absent other = refl
other_digit refusal.Present other = refl
other_digit refusal.Protected other = refl
other_digit refusal.DirectoryFull other = refl
other_digit refusal.DiskFull other = refl
other_digit refusal.ChainFull other = refl
other_digit refusal.OtherKind other = refl
other_digit refusal.Argument other = refl

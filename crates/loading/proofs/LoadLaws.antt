-- A load by its cases: the kind of a file that is a program, and of one that is not.
use mathlib.Core.Path.{◌≡◌, refl, sym}
use mathlib.Core.Bool.{Bool, true, false, cond}
use mathlib.Core.List.{List}
use Prim.Native.Nat.{ℕ, ◌≤◌, ◌<◌}
use native.Mathlib.Omega.{arith}
use borrow.Author.Tests.{lt-ltb, le-ltb}
use Rattle.rules.specs.Sectors.{sector_of}
use Rattle.rules.specs.Kind.{is_program, is_internal, is_variable, program_length, kind_of}
use Rattle.rules.specs.Descriptor.{file_kind}
use Rattle.rules.specs.Tests.{first_of, unless_met}
use Rattle.rules.specs.Outcome.{gives, refuses}
use Rattle.rules.specs.Calls.Load.{length_in, program_in, load_tests, loading}
use Rattle.rules.specs.declared.Kind.{Kind}
use Rattle.rules.specs.declared.Kind.TheVariants.{Program, Fixed, Variable}

-- the kind of a file that is a program, and of one that is not
program_case : (status c end_offset record_length size : ℕ) → kind_of status c end_offset record_length ≡ Program size → (is_program status ≡ true) × (size ≡ program_length c end_offset)
unfolding kind_of
program_case status c end_offset record_length size e = go (is_program status) (is_variable status) refl e
  where
    go : (t u : Bool) → is_program status ≡ t → cond t (Program (program_length c end_offset)) (cond u (Variable record_length (is_internal status)) (Fixed record_length (is_internal status))) ≡ Program size
        → (is_program status ≡ true) × (size ≡ program_length c end_offset)
    go true u is e = (is, cc)
    go false true is e = absurd (let z : ◌≡◌ {A = ℕ} 0 1 = cc in omega arith)
    go false false is e = absurd (let z : ◌≡◌ {A = ℕ} 0 1 = cc in omega arith)

other_case : (status c end_offset record_length : ℕ) (kind : Kind) → kind_of status c end_offset record_length ≡ kind → ((size : ℕ) → kind ≡ Program size → ⊥) → is_program status ≡ false
unfolding kind_of
other_case status c end_offset record_length kind e none = go (is_program status) refl e
  where
    go : (t : Bool) → is_program status ≡ t → cond t (Program (program_length c end_offset)) (cond (is_variable status) (Variable record_length (is_internal status)) (Fixed record_length (is_internal status))) ≡ kind → is_program status ≡ false
    go true is e = absurd (none (program_length c end_offset) (sym e))
    go false is e = is

pub fixed_apart : (record_length : ℕ) (internal : Bool) (size : ℕ) → Fixed record_length internal ≡ Program size → ⊥
fixed_apart record_length internal size q = let z : ◌≡◌ {A = ℕ} 0 1 = cc in omega arith

pub variable_apart : (record_length : ℕ) (internal : Bool) (size : ℕ) → Variable record_length internal ≡ Program size → ⊥
variable_apart record_length internal size q = let z : ◌≡◌ {A = ℕ} 0 1 = cc in omega arith

module _ (image : List ℕ) (room k : ℕ) where
  pub load_data : (kind : Kind) → file_kind (sector_of image k) ≡ kind → ((size : ℕ) → kind ≡ Program size → ⊥) → loading image room k ≡ refuses 14
  unfolding loading load_tests first_of unless_met file_kind
  load_data kind e none = rw (other_case _ _ _ _ kind e none)

  module _ (size : ℕ) (is : file_kind (sector_of image k) ≡ Program size) where
    pub load_size : size ≡ length_in image k
    unfolding file_kind length_in
    load_size = (program_case _ _ _ _ size is).1

    pub load_short : room < size → loading image room k ≡ refuses 15
    unfolding loading load_tests first_of unless_met file_kind length_in
    load_short h =
        let case = program_case _ _ _ _ size is in
        rw (case.0, ← case.1, lt-ltb room size h)

    pub load_given : size ≤ room → loading image room k ≡ gives size (program_in image k)
    unfolding loading load_tests first_of unless_met file_kind length_in
    load_given h =
        let case = program_case _ _ _ _ size is in
        rw (case.0, ← case.1, le-ltb room size h)

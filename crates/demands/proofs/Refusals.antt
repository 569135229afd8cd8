-- A refusal changes nothing: an outcome that has a number other than 0 has no writes, and such a report no bytes. Said of a list of tests and of an opening, then of each call.
use mathlib.Core.Path.{◌≡◌, refl}
use mathlib.Core.List.{List, []}
use Prim.Native.Nat.{ℕ}
use Rattle.rules.specs.Sectors.{Write}
use Rattle.rules.specs.Kind.{with_marks}
use Rattle.rules.specs.Tests.{Test}
use Rattle.rules.specs.Outcome.{Report, Outcome, refusal, reported, tested}
use Rattle.rules.specs.Opening.{find_in, open_of, on_file, changing, adding}
use Rattle.rules.specs.Calls.Create.{creating, create_of}
use Rattle.rules.specs.Calls.Append.{appending, append_of}
use Rattle.rules.specs.Calls.Overwrite.{overwriting, overwrite_of}
use Rattle.rules.specs.Calls.Protect.{setting_bit, set_bit_of}
use Rattle.rules.specs.Calls.Store.{storing, store_of}
use Rattle.rules.specs.Calls.Delete.{deleting, delete_of}
use Rattle.rules.specs.Calls.Rename.{renaming_in, renaming, open_both, rename_of}
use Rattle.rules.specs.declared.Layout.{Layout}
use Rattle.rules.specs.Answers.Opened.{Opened}
use Rattle.rules.specs.Answers.Opened.{At, Absent, Refused, Misnamed}
use Rattle.rules.proofs.Tests.{unless_met_lem}
use Rattle.demands.specs.Call as call
use Rattle.demands.specs.Call.{Change}
use Rattle.demands.specs.Ours.{outcome}

pub record Writes (outcome : Outcome) : Type 0 where
  pub none : (outcome.number ≡ 0 → ⊥) → outcome.writes ≡ []

pub record Puts (report : Report) : Type 0 where
  pub none : (report.number ≡ 0 → ⊥) → report.bytes ≡ []

-- by their tests
pub tested_writes : (tests : List Test) (writes : List Write) → Writes (tested tests writes)
tested_writes tests writes = record { none = unless_met_lem tests writes [] }

pub reported_puts : (tests : List Test) (value : ℕ) (bytes : List ℕ) → Puts (reported tests value bytes)
reported_puts tests value bytes = record { none = unless_met_lem tests bytes [] }

-- by what was opened
refusal_writes : (number : ℕ) → Writes (refusal number)
refusal_writes number = record { none = λ some. refl }

changing_writes : (o : Opened) (change : ℕ → ℕ → Outcome) → ((i k : ℕ) → Writes (change i k)) → Writes (changing o change)
unfolding changing
changing_writes (At i p k) change each = each i k
changing_writes (Absent i) change each = refusal_writes 8
changing_writes (Refused number) change each = refusal_writes number
changing_writes (Misnamed place) change each = refusal_writes 7

adding_writes : (o : Opened) (addition : ℕ → Outcome) → ((i : ℕ) → Writes (addition i)) → Writes (adding o addition)
unfolding adding
adding_writes (At i p k) addition each = refusal_writes 9
adding_writes (Absent i) addition each = each i
adding_writes (Refused number) addition each = refusal_writes number
adding_writes (Misnamed place) addition each = refusal_writes 7

pub on_file_puts : (o : Opened) (reading : ℕ → Report) → ((k : ℕ) → Puts (reading k)) → Puts (on_file o reading)
unfolding on_file
on_file_puts (At i p k) reading each = each k
on_file_puts (Absent i) reading each = record { none = λ some. refl }
on_file_puts (Refused number) reading each = record { none = λ some. refl }
on_file_puts (Misnamed place) reading each = record { none = λ some. refl }

-- every change
set_writes : (layout : Layout) (j bit : ℕ) (image : List ℕ) (directory : ℕ) (name : List ℕ) → Writes (set_bit_of layout j bit image directory name)
unfolding set_bit_of setting_bit
set_writes layout j bit image directory name = changing_writes (open_of layout image directory name) (λ i k. setting_bit j bit image k) (λ i k. record { none = λ some. absurd (some refl) })

pub change_writes : (layout : Layout) (change : Change) (image : List ℕ) (directory : ℕ) (name : List ℕ) → Writes (outcome layout change image directory name)
unfolding outcome create_of creating append_of appending overwrite_of overwriting store_of storing delete_of deleting rename_of renaming renaming_in
change_writes layout (call.create status record_length records_per_sector) image directory name = adding_writes (open_of layout image directory name) _ (λ i. tested_writes _ _)
change_writes layout (call.append bytes) image directory name = changing_writes (open_of layout image directory name) (λ i k. appending layout image bytes k) (λ i k. tested_writes _ _)
change_writes layout (call.overwrite offset bytes) image directory name = changing_writes (open_of layout image directory name) (λ i k. overwriting layout image offset bytes k) (λ i k. tested_writes _ _)
change_writes layout call.protect image directory name = set_writes layout 3 1 image directory name
change_writes layout call.unprotect image directory name = set_writes layout 3 0 image directory name
change_writes layout call.clear image directory name = set_writes (with_marks layout) 4 0 image directory name
change_writes layout (call.store bytes) image directory name = adding_writes (open_of layout image directory name) _ (λ i. tested_writes _ _)
change_writes layout call.delete image directory name = changing_writes (open_of layout image directory name) (deleting image) (λ i k. tested_writes _ _)
change_writes layout (call.rename new) image directory name = changing_writes (open_both layout image directory name new) (renaming layout image new) (λ i k. adding_writes (find_in image i new) _ (λ j. tested_writes _ _))

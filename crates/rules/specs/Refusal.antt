-- The table's numbers of the faults and refusals, which the code has by name; and the answers of the code in the paper's numbers.
use Rattle.std.specs.Prelude.{ℕ, Option, None, Some, Result, Ok, Err}
use Rattle.rules.specs.Calls.Entry.{no_row}
use Rattle.rules.specs.Answers.Answer.{Answer}
use Rattle.rules.specs.Answers.NamedAnswer.{NamedAnswer}
use Rattle.rules.specs.Answers.RenameAnswer.{RenameAnswer}
use Rattle.rules.specs.Answers.Amount.{Amount}
use Rattle.rules.specs.Answers.NamedAmount.{NamedAmount}
use Rattle.rules.specs.Answers.Summary.{Summary}
use Rattle.rules.specs.Answers.Entry.{Entry}
use Rattle.rules.specs.Answers.Opened.{Opened}
use Rattle.rules.specs.Answers.Answer as answer
use Rattle.rules.specs.Answers.NamedAnswer as named
use Rattle.rules.specs.Answers.RenameAnswer as renamed
use Rattle.rules.specs.Answers.Amount as amount
use Rattle.rules.specs.Answers.NamedAmount as loaded
use Rattle.rules.specs.Answers.Summary as summary
use Rattle.rules.specs.Answers.Opened as opening
use Rattle.rules.specs.declared.Row.{Row}
use Rattle.rules.specs.declared.Totals.{Totals}
use Rattle.rules.specs.declared.FileAt.{FileAt}
use Rattle.rules.specs.declared.Looked.{Looked}
use Rattle.rules.specs.declared.refusal.Fault.{Fault}
use Rattle.rules.specs.declared.refusal.Fault.TheVariants as fault
use Rattle.rules.specs.declared.refusal.Refusal.{Refusal}
use Rattle.rules.specs.declared.refusal.Refusal.TheVariants as refusal
use Rattle.rules.specs.declared.refusal.RenameRefusal.{RenameRefusal}
use Rattle.rules.specs.declared.refusal.RenameRefusal.TheVariants as rename

abbrev pub fault_number : Fault → ℕ
fault_number fault.Length = 1
fault_number fault.Label = 2
fault_number fault.Index = 3
fault_number fault.Descriptor = 4
fault_number fault.Holders = 5
fault_number fault.Map = 6

abbrev pub refusal_number : Refusal → ℕ
refusal_number (refusal.Unsound fault) = fault_number fault
refusal_number (refusal.Misnamed place) = 7
refusal_number refusal.Absent = 8
refusal_number refusal.Present = 9
refusal_number refusal.Protected = 10
refusal_number refusal.DirectoryFull = 11
refusal_number refusal.DiskFull = 12
refusal_number refusal.ChainFull = 13
refusal_number refusal.OtherKind = 14
refusal_number refusal.Argument = 15

-- a refusal is said by its number, and of a wrong name by the place
abbrev pub refused : {A : Type 0} → (misnamed number : ℕ → A) → Refusal → A
refused misnamed number (refusal.Unsound fault) = number (fault_number fault)
refused misnamed number (refusal.Misnamed place) = misnamed place
refused misnamed number refusal.Absent = number 8
refused misnamed number refusal.Present = number 9
refused misnamed number refusal.Protected = number 10
refused misnamed number refusal.DirectoryFull = number 11
refused misnamed number refusal.DiskFull = number 12
refused misnamed number refusal.ChainFull = number 13
refused misnamed number refusal.OtherKind = number 14
refused misnamed number refusal.Argument = number 15

-- the number of a refusal of a call that takes no name. None of them is of a wrong name: that has the number 0, which no answer says
abbrev pub bare_number : Refusal → ℕ
bare_number refusal = refused (λ place. 0) (λ number. number) refusal

-- the number of an image that was judged, 0 of a sound volume
abbrev pub judged : Result (Unit {0}) Fault → ℕ
judged (Ok sound) = 0
judged (Err fault) = fault_number fault

abbrev pub answered : Result (Unit {0}) Refusal → Answer
answered (Ok done) = answer.Done
answered (Err refusal) = answer.Refused (bare_number refusal)

abbrev pub named_answered : Result (Unit {0}) Refusal → NamedAnswer
named_answered (Ok done) = named.Done
named_answered (Err refusal) = refused named.Misnamed named.Refused refusal

abbrev pub rename_answered : Result (Unit {0}) RenameRefusal → RenameAnswer
rename_answered (Ok done) = renamed.Done
rename_answered (Err (rename.OldMisnamed place)) = renamed.OldMisnamed place
rename_answered (Err (rename.NewMisnamed place)) = renamed.NewMisnamed place
rename_answered (Err (rename.Other refusal)) = renamed.Refused (refusal_number refusal)

abbrev pub amount_answered : Result ℕ Refusal → Amount
amount_answered (Ok value) = amount.Given value
amount_answered (Err refusal) = amount.Refused (bare_number refusal)

abbrev pub load_answered : Result ℕ Refusal → NamedAmount
load_answered (Ok value) = loaded.Given value
load_answered (Err refusal) = refused loaded.Misnamed loaded.Refused refusal

abbrev pub summary_answered : Result Totals Refusal → Summary
summary_answered (Ok totals) = summary.Given totals.sectors totals.files totals.free
summary_answered (Err refusal) = summary.Refused (bare_number refusal)

abbrev pub entry_answered : Result Row Refusal → Entry
entry_answered (Ok row) = record { answer = answer.Done; row = row }
entry_answered (Err refusal) = record { answer = answer.Refused (bare_number refusal); row = no_row }

-- a name that was looked for in an index: at a place, or absent
abbrev pub looked_for : ℕ → Option FileAt → Opened
looked_for index None = opening.Absent index
looked_for index (Some file) = opening.At index file.place file.sector

abbrev pub opened : Result Looked Refusal → Opened
opened (Ok looked) = looked_for looked.index looked.file
opened (Err refusal) = refused opening.Misnamed opening.Refused refusal

-- Any call of the paper with any arguments, and any version of the software: what it answers to each call, what it leaves of the image and of the buffer lent, and in which order the sectors are to be written.
-- A call looks at a volume, changes the file that it names, repairs, or formats; what it answers with is said once for each form of an answer.
use Rattle.std.specs.Prelude.{◌≡◌, List, [], ◌∷◌, ℕ}
use Rattle.rules.specs.Name.{IsName, WrongAt}
use Rattle.rules.specs.Kind.{with_marks}
use Rattle.rules.specs.Calls.Format.{Geometry}
use Rattle.rules.specs.Calls.Entry.{no_row}
use Rattle.rules.specs.declared.Layout.{Layout}
use Rattle.rules.specs.Answers.Answer.{Answer}
use Rattle.rules.specs.Answers.Amount.{Amount}
use Rattle.rules.specs.Answers.Summary.{Summary}
use Rattle.rules.specs.Answers.Entry.{Entry}
use Rattle.rules.specs.Answers.NamedAnswer.{NamedAnswer}
use Rattle.rules.specs.Answers.NamedAmount.{NamedAmount}
use Rattle.rules.specs.Answers.RenameAnswer.{RenameAnswer}
use Rattle.rules.specs.Answers.Answer as answers
use Rattle.rules.specs.Answers.Amount as amounts
use Rattle.rules.specs.Answers.Summary as summaries
use Rattle.rules.specs.Answers.NamedAnswer as answered
use Rattle.rules.specs.Answers.NamedAmount as loads
use Rattle.rules.specs.Answers.RenameAnswer as renames

-- the names that a call takes: one, or a rename's two
pub data Names : Type 0 where
  one : (name : List ℕ) → Names
  both : (old new : List ℕ) → Names

-- the forms of an answer: the judge's number, done or refused, an amount, a summary, a row of the catalogue; and of a call that takes names, by those, done or refused, and an amount
pub data Form : Type 0 where
  number : Form
  answer : Form
  amount : Form
  summary : Form
  row : Form
  named : Names → Form
  loaded : (name : List ℕ) → Form

abbrev pub AnsweredTo : Names → Type 0
AnsweredTo (one name) = NamedAnswer
AnsweredTo (both old new) = RenameAnswer

abbrev pub Answered : Form → Type 0
Answered number = ℕ
Answered answer = Answer
Answered amount = Amount
Answered summary = Summary
Answered row = Entry
Answered (named names) = AnsweredTo names
Answered (loaded name) = NamedAmount

-- the paper's number of an answer, case by case
unfoldable pub answer_number : Answer → ℕ
answer_number answers.Done = 0
answer_number (answers.Refused refused) = refused

unfoldable pub amount_number : Amount → ℕ
amount_number (amounts.Given value) = 0
amount_number (amounts.Refused refused) = refused

unfoldable pub summary_number : Summary → ℕ
summary_number (summaries.Given sectors listed free) = 0
summary_number (summaries.Refused refused) = refused

unfoldable pub named_number : (names : Names) → AnsweredTo names → ℕ
named_number (one name) answered.Done = 0
named_number (one name) (answered.Refused refused) = refused
named_number (one name) (answered.Misnamed place) = 7
named_number (both old new) renames.Done = 0
named_number (both old new) (renames.Refused refused) = refused
named_number (both old new) (renames.OldMisnamed place) = 7
named_number (both old new) (renames.NewMisnamed place) = 7

unfoldable pub loaded_number : NamedAmount → ℕ
loaded_number (loads.Given value) = 0
loaded_number (loads.Refused refused) = refused
loaded_number (loads.Misnamed place) = 7

abbrev pub number_in : (form : Form) → Answered form → ℕ
number_in number given = given
number_in answer given = answer_number given
number_in amount given = amount_number given
number_in summary given = summary_number given
number_in row given = answer_number given.answer
number_in (named names) given = named_number names given
number_in (loaded name) given = loaded_number given

-- what an answer carries, case by case: a refusal its number; with 7, and with 7 alone, the place where the name is wrong, and of a rename which of the two that is. No refusal has the
-- number 0, so that 0 always stands for done
abbrev Alone : ℕ → Type 0
Alone refused = (refused ≡ 0 → ⊥) × (refused ≡ 7 → ⊥)

unfoldable pub NamedCarries : (names : Names) → AnsweredTo names → Type 0
NamedCarries (one name) answered.Done = Unit {0}
NamedCarries (one name) (answered.Refused refused) = Alone refused
NamedCarries (one name) (answered.Misnamed place) = WrongAt name place
NamedCarries (both old new) renames.Done = Unit {0}
NamedCarries (both old new) (renames.Refused refused) = Alone refused
NamedCarries (both old new) (renames.OldMisnamed place) = WrongAt old place
NamedCarries (both old new) (renames.NewMisnamed place) = IsName old × WrongAt new place

unfoldable pub LoadCarries : (name : List ℕ) → NamedAmount → Type 0
LoadCarries name (loads.Given value) = Unit {0}
LoadCarries name (loads.Refused refused) = Alone refused
LoadCarries name (loads.Misnamed place) = WrongAt name place

-- beside a refusal stands no row
abbrev pub Carries : (form : Form) → Answered form → Type 0
Carries number given = Unit {0}
Carries answer given = given ≡ answers.Refused 0 → ⊥
Carries amount given = given ≡ amounts.Refused 0 → ⊥
Carries summary given = given ≡ summaries.Refused 0 → ⊥
Carries row given = (given.answer ≡ answers.Refused 0 → ⊥) × ((given.answer ≡ answers.Done → ⊥) → given.row ≡ no_row)
Carries (named names) given = NamedCarries names given
Carries (loaded name) given = LoadCarries name given

-- a call that leaves the image as it is; a directory, a name and numbers are any
pub data Look : Form → Type 0 where
  judge : Look number
  free_count : Look amount
  summarize : Look summary
  entry : (directory place : ℕ) → Look row
  read : (directory : ℕ) (name : List ℕ) (offset : ℕ) → Look (named (one name))
  load : (directory : ℕ) (name : List ℕ) → Look (loaded name)
  list : (directory : ℕ) → Look amount
  pack : Look answer

-- a change of the file that the call names in a directory
pub data Change : Type 0 where
  create : (status record_length records_per_sector : ℕ) → Change
  append : (bytes : List ℕ) → Change
  overwrite : (offset : ℕ) (bytes : List ℕ) → Change
  protect : Change
  unprotect : Change
  clear : Change
  store : (bytes : List ℕ) → Change
  delete : Change
  rename : (new : List ℕ) → Change

-- `buffer` is what the buffer holds that is lent to be filled, packing's target
pub data Call : Type 0 where
  look : {form : Form} → Look form → (buffer : List ℕ) → Call
  change : (directory : ℕ) (name : List ℕ) → Change → Call
  repair : Call
  format : (n : ℕ) (name : List ℕ) (geometry : Geometry) → Call

-- the rule that a call goes by: the one that was chosen; clearing a mark goes by the rule with marks always
abbrev pub change_rule : Layout → Change → Layout
change_rule layout (create status record_length records_per_sector) = layout
change_rule layout (append bytes) = layout
change_rule layout (overwrite offset bytes) = layout
change_rule layout protect = layout
change_rule layout unprotect = layout
change_rule layout clear = with_marks layout
change_rule layout (store bytes) = layout
change_rule layout delete = layout
change_rule layout (rename new) = layout

abbrev pub rule_of : Layout → Call → Layout
rule_of layout (look this buffer) = layout
rule_of layout (change directory name this) = change_rule layout this
rule_of layout repair = layout
rule_of layout (format n name geometry) = layout

-- the names of a change
abbrev pub names_of : (name : List ℕ) → Change → Names
names_of name (create status record_length records_per_sector) = one name
names_of name (append bytes) = one name
names_of name (overwrite offset bytes) = one name
names_of name protect = one name
names_of name unprotect = one name
names_of name clear = one name
names_of name (store bytes) = one name
names_of name delete = one name
names_of name (rename new) = both name new

-- what a call answers with
abbrev pub form_of : Call → Form
form_of (look {form} this buffer) = form
form_of (change directory name this) = named (names_of name this)
form_of repair = answer
form_of (format n name geometry) = named (one name)

-- the buffer lent to be filled, where there is one
abbrev pub lent : Call → List ℕ
lent (look this buffer) = buffer
lent (change directory name this) = []
lent repair = []
lent (format n name geometry) = []

pub record Result (form : Form) : Type 0 where
  pub answer : Answered form
  pub buffer : List ℕ
  pub image : List ℕ
  -- the sectors that a host is to write through, in this order
  pub order : List ℕ

abbrev pub Version : Type 0
Version = (call : Call) → List ℕ → Result (form_of call)

-- the number that a version gives
abbrev pub number_of : Version → Call → List ℕ → ℕ
number_of version call image = number_in (form_of call) (version call image).answer

-- the image after a list of calls
unfoldable pub run : Version → List Call → List ℕ → List ℕ
run version [] image = image
run version (call ∷ calls) image = run version calls (version call image).image

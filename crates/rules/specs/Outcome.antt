-- What a call gives: its number, and with number 0 what it reads or writes; what its answer says of that; and what the code promises.
use Rattle.std.specs.Prelude.{◌≡◌, cond, List, [], ◌∷◌, ℕ, eqb, length, Option, None, Some}
use Rattle.rules.specs.Bytes.{splice}
use Rattle.rules.specs.Sectors.{Write, sectors_in, written}
use Rattle.rules.specs.Tests.{Test, first_of, unless_met}
use Rattle.rules.specs.Answers.Answer.{Answer}
use Rattle.rules.specs.Answers.Amount.{Amount}
use Rattle.rules.specs.Answers.Answer as answer
use Rattle.rules.specs.Answers.Amount as amount
use Rattle.rules.specs.Answers.NamedAnswer.{NamedAnswer}
use Rattle.rules.specs.Answers.NamedAnswer as named
use Rattle.rules.specs.Answers.NamedAmount.{NamedAmount}
use Rattle.rules.specs.Answers.NamedAmount as loaded
use Rattle.rules.specs.Answers.RenameAnswer.{RenameAnswer}
use Rattle.rules.specs.Answers.RenameAnswer as renamed

-- a reading call: its number, a value, and the bytes that it puts at the front of the buffer
pub record Report : Type 0 where
  pub number : ℕ
  pub value : ℕ
  pub bytes : List ℕ

abbrev pub gives : ℕ → List ℕ → Report
gives value bytes = record { number = 0; value = value; bytes = bytes }

abbrev pub refuses : ℕ → Report
refuses number = record { number = number; value = 0; bytes = [] }

-- a call that changes the image: its number, and the whole sectors that it writes, in order
pub record Outcome : Type 0 where
  pub number : ℕ
  pub writes : List Write

abbrev pub write : ℕ → List ℕ → Write
write k bytes = record { sector = k; bytes = bytes }

abbrev pub done : List Write → Outcome
done writes = record { number = 0; writes = writes }

abbrev pub refusal : ℕ → Outcome
refusal number = record { number = number; writes = [] }

-- the order of the writes, as a host is given it: how many there are, and the numbers of their sectors
unfoldable pub order_of : List Write → List ℕ
order_of [] = []
order_of (first ∷ more) = length (first ∷ more) ∷ sectors_in (first ∷ more)

-- it is put behind the first number of a list that is lent for it; a refusal has no writes, and puts nothing there
abbrev pub listed : Outcome → List ℕ → List ℕ
listed outcome before = splice before 1 (order_of outcome.writes)

-- each by its tests: a refusal puts nothing into the buffer, and writes nothing
abbrev pub reported : List Test → ℕ → List ℕ → Report
reported tests value bytes = record { number = first_of tests; value = unless_met tests value 0; bytes = unless_met tests bytes [] }

abbrev pub tested : List Test → List Write → Outcome
tested tests writes = record { number = first_of tests; writes = unless_met tests writes [] }

-- what an answer says, case by case: the paper's number, and what is given with it. No refusal has the number 0.
unfoldable pub AnswerSays : Answer → ℕ → Type 0
AnswerSays answer.Done number = number ≡ 0
AnswerSays (answer.Refused refused) number = (refused ≡ number) × (number ≡ 0 → ⊥)

unfoldable pub AmountSays : Amount → Report → Type 0
AmountSays (amount.Given value) report = (report.number ≡ 0) × (value ≡ report.value)
AmountSays (amount.Refused refused) report = (refused ≡ report.number) × (report.number ≡ 0 → ⊥)

-- a refusal that carries its number alone has neither 0 nor 7
abbrev pub Bare : ℕ → ℕ → Type 0
Bare refused number = (refused ≡ number) × (number ≡ 0 → ⊥) × (number ≡ 7 → ⊥)

-- of a call that takes a name, by where the name is wrong: with 7, and with 7 alone, the place
unfoldable pub NamedSays : Option ℕ → NamedAnswer → ℕ → Type 0
NamedSays wrong named.Done number = number ≡ 0
NamedSays wrong (named.Refused refused) number = Bare refused number
NamedSays wrong (named.Misnamed place) number = (number ≡ 7) × (wrong ≡ Some place)

unfoldable pub NamedAmountSays : Option ℕ → NamedAmount → Report → Type 0
NamedAmountSays wrong (loaded.Given value) report = (report.number ≡ 0) × (value ≡ report.value)
NamedAmountSays wrong (loaded.Refused refused) report = Bare refused report.number
NamedAmountSays wrong (loaded.Misnamed place) report = (report.number ≡ 7) × (wrong ≡ Some place)

-- of a rename, by where the old name is wrong and where the new one: which of them is meant, the old one first
unfoldable pub RenameSays : Option ℕ → Option ℕ → RenameAnswer → ℕ → Type 0
RenameSays old new renamed.Done number = number ≡ 0
RenameSays old new (renamed.Refused refused) number = Bare refused number
RenameSays old new (renamed.OldMisnamed place) number = (number ≡ 7) × (old ≡ Some place)
RenameSays old new (renamed.NewMisnamed place) number = (number ≡ 7) × (old ≡ None) × (new ≡ Some place)

-- of a call that reads and gives no value
abbrev pub ReadSays : Option ℕ → NamedAnswer → Report → Type 0
ReadSays wrong answer report = NamedSays wrong answer report.number

-- a call that writes: what it answers, as the enum says it, and the image before and after
pub record Meets {Given : Type 0} (Says : Given → ℕ → Type 0) (outcome : Outcome) (given : Given) (before after : List ℕ) : Type 0 where
  pub said : Says given outcome.number
  pub left : after ≡ written before outcome.writes

-- a call that reads: what it answers, as the enum says it, and the buffer before and after
pub record Gives {Given : Type 0} (Says : Given → Report → Type 0) (report : Report) (given : Given) (before after : List ℕ) : Type 0 where
  pub said : Says given report
  pub left : after ≡ splice before 0 report.bytes

-- the one answer that says so
unfoldable pub answer_of : ℕ → Answer
answer_of number = cond (eqb number 0) answer.Done (answer.Refused number)

unfoldable pub amount_of : Report → Amount
amount_of report = cond (eqb report.number 0) (amount.Given report.value) (amount.Refused report.number)

-- of a call that takes a name: by 0, 7 and any other number
unfoldable pub by_number : {A : Type 0} → ℕ → A → A → A → A
by_number number done misnamed refused = cond (eqb number 0) done (cond (eqb number 7) misnamed refused)

-- the place where a name is wrong, and something else where it is not
unfoldable pub if_wrong : {A : Type 0} → Option ℕ → (ℕ → A) → A → A
if_wrong (Some place) there otherwise = there place
if_wrong None there otherwise = otherwise

unfoldable pub named_answer_of : Option ℕ → ℕ → NamedAnswer
named_answer_of wrong number = by_number number named.Done (if_wrong wrong named.Misnamed (named.Refused number)) (named.Refused number)

unfoldable pub named_amount_of : Option ℕ → Report → NamedAmount
named_amount_of wrong report =
    let number = report.number in
    by_number number (loaded.Given report.value) (if_wrong wrong loaded.Misnamed (loaded.Refused number)) (loaded.Refused number)

unfoldable pub rename_answer_of : Option ℕ → Option ℕ → ℕ → RenameAnswer
rename_answer_of old new number =
    by_number number renamed.Done (if_wrong old renamed.OldMisnamed (if_wrong new renamed.NewMisnamed (renamed.Refused number))) (renamed.Refused number)

-- what stands behind a pointer afterwards: the value, and after a refusal what stood there
unfoldable pub behind : ℕ → ℕ → ℕ → ℕ
behind number value before = cond (eqb number 0) value before

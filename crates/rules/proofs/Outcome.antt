-- What an answer says is one thing only; what a call promises where it was refused, where it was done and where it hands on what another did, with the order of its writes; and what stands behind a pointer.
use mathlib.Core.Path.{◌≡◌, refl, sym, ap, ◌∙◌}
use mathlib.Core.Bool.{Bool, true, not, ◌||◌}
use mathlib.Core.List.{List, [], ◌∷◌}
use Prim.Native.Nat.{ℕ, ◌<◌}
use native.Mathlib.Omega.{arith}
use native.Mathlib.Decide.{ℕ_discrete}
use lib.Dec.{eqb}
use lib.ListN.{length}
use borrow.Author.Tests.{eq-eqb, ne_eqb, eqb-false, not-true}
use Rattle.rules.specs.Bytes.{splice}
use Rattle.rules.specs.Sectors.{Write, sectors_in, written}
use Rattle.rules.specs.Tests.{Test, first_of, unless_met}
use Rattle.rules.specs.Outcome.{Report, gives, refuses, Outcome, done, refusal, order_of, listed, reported, AnswerSays, AmountSays, Bare, NamedSays, NamedAmountSays, RenameSays, Meets, Gives, answer_of, amount_of, by_number, if_wrong, named_answer_of, named_amount_of, rename_answer_of, behind}
use Rattle.rules.specs.Answers.Answer.{Answer}
use Rattle.rules.specs.Answers.Amount.{Amount}
use Rattle.rules.specs.Answers.Answer as answer
use Rattle.rules.specs.Answers.Amount as amount
use Rattle.std.specs.Prelude.{Option, None, Some}
use Rattle.rules.specs.Answers.NamedAnswer.{NamedAnswer}
use Rattle.rules.specs.Answers.NamedAnswer as named
use Rattle.rules.specs.Answers.NamedAmount.{NamedAmount}
use Rattle.rules.specs.Answers.NamedAmount as loaded
use Rattle.rules.specs.Answers.RenameAnswer.{RenameAnswer}
use Rattle.rules.specs.Answers.RenameAnswer as renamed
use Rattle.rules.proofs.Tests.{neither, unless_passed, unless_met_lem}
use Rattle.rules.proofs.Splice.{splice_none, splice_cons}

-- by its tests: a look that was refused, and one that was done
module _ (tests : List Test) (value : ℕ) (bytes : List ℕ) where
  pub reported_refused : (number : ℕ) → (number ≡ 0 → ⊥) → first_of tests ≡ number → reported tests value bytes ≡ refuses number
  reported_refused number some e = let met : first_of tests ≡ 0 → ⊥ = λ z. some (sym e ∙ z) in rw (unless_met_lem tests value 0 met, unless_met_lem tests bytes [] met, e)

  pub reported_given : first_of tests ≡ 0 → reported tests value bytes ≡ gives value bytes
  reported_given e = rw (unless_passed tests value 0 e, unless_passed tests bytes [] e, e)

-- what an answer says is that it is this one
pub says_answer : (given : Answer) (number : ℕ) → AnswerSays given number → given ≡ answer_of number
unfolding AnswerSays answer_of
says_answer answer.Done number said = rw (eq-eqb number 0 said)
says_answer (answer.Refused refused) number said = rw (ne_eqb number 0 said.1, said.0)

pub says_amount : (given : Amount) (report : Report) → AmountSays given report → given ≡ amount_of report
unfolding AmountSays amount_of
says_amount (amount.Given value) report said = rw (eq-eqb report.number 0 said.0, said.1)
says_amount (amount.Refused refused) report said = rw (ne_eqb report.number 0 said.1, said.0)

-- by 0, 7 and any other number
module _ {A : Type 0} (number : ℕ) (done misnamed refused : A) where
  pub by_done : number ≡ 0 → by_number number done misnamed refused ≡ done
  unfolding by_number
  by_done e = rw (eq-eqb number 0 e)

  pub by_seven : number ≡ 7 → by_number number done misnamed refused ≡ misnamed
  unfolding by_number
  by_seven e = rw (ne_eqb number 0 (λ z. omega (arith, e, z)), eq-eqb number 7 e)

  pub by_other : (number ≡ 0 → ⊥) → (number ≡ 7 → ⊥) → by_number number done misnamed refused ≡ refused
  unfolding by_number
  by_other some other = rw (ne_eqb number 0 some, ne_eqb number 7 other)

  pub by_cases : (P : A → Type 0) → (number ≡ 0 → P done) → (number ≡ 7 → P misnamed) → ((number ≡ 0 → ⊥) → (number ≡ 7 → ⊥) → P refused) → P (by_number number done misnamed refused)
  by_cases P first second other =
      elim (ℕ_discrete number 0) [
        | yes zero ↦ rw (by_done zero) (first zero)
        | no some ↦
            elim (ℕ_discrete number 7) [
              | yes seven ↦ rw (by_seven seven) (second seven)
              | no apart ↦ rw (by_other some apart) (other some apart)
            ]
      ]

-- a name that is wrong at a place, and one that is not
module _ {A : Type 0} (wrong : Option ℕ) (there : ℕ → A) (otherwise : A) where
  pub wrong-there : (place : ℕ) → wrong ≡ Some place → if_wrong wrong there otherwise ≡ there place
  unfolding if_wrong
  wrong-there place e = rw e

  pub wrong_nowhere : wrong ≡ None → if_wrong wrong there otherwise ≡ otherwise
  unfolding if_wrong
  wrong_nowhere e = rw e

pub wrong_cases : {A : Type 0} (P : A → Type 0) (wrong : Option ℕ) (there : ℕ → A) (otherwise : A) → ((place : ℕ) → wrong ≡ Some place → P (there place)) → (wrong ≡ None → P otherwise)
    → P (if_wrong wrong there otherwise)
unfolding if_wrong
wrong_cases P None there otherwise yes_there not_there = not_there refl
wrong_cases P (Some place) there otherwise yes_there not_there = yes_there place refl

pub says_named : (wrong : Option ℕ) (given : NamedAnswer) (number : ℕ) → NamedSays wrong given number → given ≡ named_answer_of wrong number
unfolding NamedSays named_answer_of
says_named wrong named.Done number said = sym (by_done number _ _ _ said)
says_named wrong (named.Refused refused) number said = ap named.Refused said.0 ∙ sym (by_other number _ _ _ said.1 said.2)
says_named wrong (named.Misnamed place) number said = sym (by_seven number _ _ _ said.0 ∙ wrong-there wrong named.Misnamed _ place said.1)

pub says_named_amount : (wrong : Option ℕ) (given : NamedAmount) (report : Report) → NamedAmountSays wrong given report → given ≡ named_amount_of wrong report
unfolding NamedAmountSays named_amount_of
says_named_amount wrong (loaded.Given value) report said = ap loaded.Given said.1 ∙ sym (by_done report.number _ _ _ said.0)
says_named_amount wrong (loaded.Refused refused) report said = ap loaded.Refused said.0 ∙ sym (by_other report.number _ _ _ said.1 said.2)
says_named_amount wrong (loaded.Misnamed place) report said = sym (by_seven report.number _ _ _ said.0 ∙ wrong-there wrong loaded.Misnamed _ place said.1)

pub says_rename : (old new : Option ℕ) (given : RenameAnswer) (number : ℕ) → RenameSays old new given number → given ≡ rename_answer_of old new number
unfolding RenameSays rename_answer_of
says_rename old new renamed.Done number said = sym (by_done number _ _ _ said)
says_rename old new (renamed.Refused refused) number said = ap renamed.Refused said.0 ∙ sym (by_other number _ _ _ said.1 said.2)
says_rename old new (renamed.OldMisnamed place) number said = sym (by_seven number _ _ _ said.0 ∙ wrong-there old renamed.OldMisnamed _ place said.1)
says_rename old new (renamed.NewMisnamed place) number said =
    sym (by_seven number _ _ _ said.0 ∙ wrong_nowhere old renamed.OldMisnamed _ said.1 ∙ wrong-there new renamed.NewMisnamed _ place said.2)

-- a number that a refusal carries alone
abbrev pub is_bare : ℕ → Bool
is_bare number = not (eqb number 0 || eqb number 7)

pub bare : (number : ℕ) → is_bare number ≡ true → Bare number number
bare number e =
    let apart = neither (eqb number 0) (eqb number 7) (not-true (eqb number 0 || eqb number 7) e) in
    (refl, eqb-false number 0 apart.0, eqb-false number 7 apart.1)

-- the order of writes, where their sectors stand behind their number
pub order_laid : (before : List ℕ) (writes : List Write) → 0 < length writes → splice (splice before 2 (sectors_in writes)) 1 (length writes ∷ []) ≡ splice before 1 (order_of writes)
unfolding order_of
order_laid before [] some = absurd (omega arith)
order_laid before (first ∷ more) some = splice_cons before 1 (length (first ∷ more)) (sectors_in (first ∷ more))

-- a call that writes, and that is lent a list for their order
abbrev pub MeetsInOrder : {Given : Type 0} → (Given → ℕ → Type 0) → Outcome → Given → List ℕ → List ℕ → List ℕ → List ℕ → Type 0
MeetsInOrder Says outcome given before after changes order = Meets Says outcome given before after × (order ≡ listed outcome changes)

module _ {Given : Type 0} (Says : Given → ℕ → Type 0) (given : Given) (image changes : List ℕ) (outcome : Outcome) where
  pub meets_refusal : (number : ℕ) → Says given number → outcome ≡ refusal number → MeetsInOrder Says outcome given image image changes changes
  unfolding written order_of
  meets_refusal number said e = rw e (record { said = said; left = refl }, sym (splice_none changes 1))

  pub meets_done : (writes : List Write) (after order : List ℕ) → Says given 0 → outcome ≡ done writes → after ≡ written image writes → order ≡ splice changes 1 (order_of writes)
      → MeetsInOrder Says outcome given image after changes order
  meets_done writes after order said e left in_order = rw e (record { said = said; left = left }, in_order)

-- behind the test of its name
module _ (image changes : List ℕ) (outcome : Outcome) where
  pub refusal_meets : (number : ℕ) → is_bare number ≡ true → outcome ≡ refusal number → MeetsInOrder (NamedSays None) outcome (named.Refused number) image image changes changes
  unfolding NamedSays
  refusal_meets number other e = meets_refusal (NamedSays None) (named.Refused number) image changes outcome number (bare number other) e

  pub done_meets : (writes : List Write) (after order : List ℕ) → outcome ≡ done writes → after ≡ written image writes → order ≡ splice changes 1 (order_of writes)
      → MeetsInOrder (NamedSays None) outcome named.Done image after changes order
  unfolding NamedSays
  done_meets writes after order e left in_order = meets_done (NamedSays None) named.Done image changes outcome writes after order refl e left in_order

-- a call that makes a whole buffer anew, or leaves it
module _ {Given : Type 0} (Says : Given → ℕ → Type 0) (given : Given) (tests : List Test) (whole before : List ℕ) where
  pub made_refused : (number : ℕ) → (number ≡ 0 → ⊥) → Says given number → first_of tests ≡ number → Says given (first_of tests) × (before ≡ unless_met tests whole before)
  made_refused number some said e = (rw e said, sym (unless_met_lem tests whole before (λ z. some (sym e ∙ z))))

  pub made_done : Says given 0 → first_of tests ≡ 0 → Says given (first_of tests) × (whole ≡ unless_met tests whole before)
  made_done said e = (rw e said, sym (unless_passed tests whole before e))

-- a call that reads
module _ {Given : Type 0} (Says : Given → Report → Type 0) (given : Given) (before : List ℕ) (report : Report) where
  pub gives_refusal : (number : ℕ) → Says given (refuses number) → report ≡ refuses number → Gives Says report given before before
  gives_refusal number said e = rw e (record { said = said; left = sym (splice_none before 0) })

  pub gives_done : (value : ℕ) (bytes : List ℕ) → Says given (gives value bytes) → report ≡ gives value bytes → Gives Says report given before (splice before 0 bytes)
  gives_done value bytes said e = rw e (record { said = said; left = refl })

module _ (before : List ℕ) (report : Report) where
  pub amount_refused : (number : ℕ) → (number ≡ 0 → ⊥) → report ≡ refuses number → Gives AmountSays report (amount.Refused number) before before
  unfolding AmountSays
  amount_refused number some e = gives_refusal AmountSays (amount.Refused number) before report number (refl, some) e

  pub amount_given : (value : ℕ) (bytes : List ℕ) → report ≡ gives value bytes → Gives AmountSays report (amount.Given value) before (splice before 0 bytes)
  unfolding AmountSays
  amount_given value bytes e = gives_done AmountSays (amount.Given value) before report value bytes (refl, refl) e

pub behind_given : (number value before : ℕ) → number ≡ 0 → behind number value before ≡ value
unfolding behind
behind_given number value before e = rw (eq-eqb number 0 e)

pub behind_kept : (number value before : ℕ) → (number ≡ 0 → ⊥) → behind number value before ≡ before
unfolding behind
behind_kept number value before some = rw (ne_eqb number 0 some)

-- Faults and refusals by their numbers: none is 0. What is said of a refusal by its number, and of a wrong name by the place, is said of each.
-- A call without a name is never answered with a wrong name; and two results of the code of which the same is answered are equal.
use mathlib.Core.Path.{◌≡◌, refl, sym, ap, ◌∙◌}
use mathlib.Core.Bool.{true, false, cond}
use mathlib.Core.List.{List}
use Prim.Native.Nat.{ℕ}
use native.Mathlib.Omega.{arith}
use lib.Dec.{eqb}
use Rattle.std.specs.Prelude.{Option, None, Some, is_some, ok_or, Result, Ok, Err, IsErrAnd}
use Rattle.rules.specs.Outcome.{Report, AnswerSays, AmountSays, RenameSays}
use Rattle.rules.specs.Calls.Summary.{SummarySays}
use Rattle.rules.specs.Calls.Entry.{EntrySays}
use Rattle.rules.specs.Refusal.{fault_number, refusal_number, refused, bare_number, judged, answered, named_answered, rename_answered, amount_answered, load_answered, summary_answered, entry_answered, looked_for, opened}
use Rattle.rules.specs.Answers.NamedAnswer.{NamedAnswer}
use Rattle.rules.specs.Answers.NamedAnswer as named
use Rattle.rules.specs.Answers.RenameAnswer.{RenameAnswer}
use Rattle.rules.specs.Answers.RenameAnswer as renamed
use Rattle.rules.specs.Answers.NamedAmount.{NamedAmount}
use Rattle.rules.specs.Answers.NamedAmount as loaded
use Rattle.rules.specs.Answers.Opened.{Opened}
use Rattle.rules.specs.Answers.Opened as opening
use Rattle.rules.specs.declared.Layout.{Layout}
use Rattle.rules.specs.declared.Row.{Row}
use Rattle.rules.specs.declared.Totals.{Totals}
use Rattle.rules.specs.declared.FileAt.{FileAt}
use Rattle.rules.specs.declared.Looked.{Looked}
use Rattle.rules.specs.declared.refusal.Fault.{Fault}
use Rattle.rules.specs.declared.refusal.Fault.TheVariants as fault
use Rattle.rules.specs.declared.refusal.Refusal.{Refusal}
use Rattle.rules.specs.declared.refusal.Refusal.TheVariants as refusal
use Rattle.rules.specs.declared.refusal.RenameRefusal.{RenameRefusal}
use Rattle.rules.specs.declared.refusal.RenameRefusal.TheVariants as rename
use Rattle.rules.proofs.Tests.{absurd_test}
use Rattle.rules.proofs.Outcome.{says_rename}

pub fault_some : (f : Fault) → fault_number f ≡ 0 → ⊥
fault_some fault.Length e = omega (arith, e)
fault_some fault.Label e = omega (arith, e)
fault_some fault.Index e = omega (arith, e)
fault_some fault.Descriptor e = omega (arith, e)
fault_some fault.Holders e = omega (arith, e)
fault_some fault.Map e = omega (arith, e)

pub refusal_some : (r : Refusal) → refusal_number r ≡ 0 → ⊥
refusal_some (refusal.Unsound f) e = fault_some f e
refusal_some (refusal.Misnamed place) e = omega (arith, e)
refusal_some refusal.Absent e = omega (arith, e)
refusal_some refusal.Present e = omega (arith, e)
refusal_some refusal.Protected e = omega (arith, e)
refusal_some refusal.DirectoryFull e = omega (arith, e)
refusal_some refusal.DiskFull e = omega (arith, e)
refusal_some refusal.ChainFull e = omega (arith, e)
refusal_some refusal.OtherKind e = omega (arith, e)
refusal_some refusal.Argument e = omega (arith, e)

-- an error that a call passes on is the one error that it says
pub err_is : {A E : Type 0} (r : Result A E) (e : E) → IsErrAnd r (λ x. x ≡ e) → r ≡ Err e
err_is (Ok a) e never = absurd never
err_is (Err x) e same = ap Err same

-- what is there, or else that error
pub ok_there : {A E : Type 0} (e : E) (o : Option A) (x : A) → Ok x ≡ ok_or o e → o ≡ Some x
ok_there {A} {E} e None x there = absurd (let z : ◌≡◌ {A = Result A E} (Ok x) (Err e) = there in cc)
ok_there e (Some y) x there = cc

pub err_absent : {A E : Type 0} (e : E) (o : Option A) (r : E) → Err r ≡ ok_or o e → (o ≡ None) × (r ≡ e)
err_absent e None r absent = (refl, cc)
err_absent {A} {E} e (Some y) r absent = absurd (let z : ◌≡◌ {A = Result A E} (Err r) (Ok y) = absent in cc)

-- whether there is a value, and the value
pub some_is : {A : Type 0} (o : Option A) → is_some o ≡ true → (x : A) × (o ≡ Some x)
some_is None there = absurd_test (sym there)
some_is (Some x) there = (x, refl)

pub none_is : {A : Type 0} (o : Option A) → is_some o ≡ false → o ≡ None
none_is None none = refl
none_is (Some x) none = absurd_test none

-- two ways to say the same refusal, seen together
pub refused_cases : {A B : Type 0} (P : A → B → Type 0) (misnamed number : ℕ → A) (misnamed' number' : ℕ → B)
    → ((place : ℕ) → P (misnamed place) (misnamed' place)) → ((n : ℕ) → P (number n) (number' n)) → (r : Refusal) → P (refused misnamed number r) (refused misnamed' number' r)
refused_cases P misnamed number misnamed' number' named numbered (refusal.Unsound f) = numbered (fault_number f)
refused_cases P misnamed number misnamed' number' named numbered (refusal.Misnamed place) = named place
refused_cases P misnamed number misnamed' number' named numbered refusal.Absent = numbered 8
refused_cases P misnamed number misnamed' number' named numbered refusal.Present = numbered 9
refused_cases P misnamed number misnamed' number' named numbered refusal.Protected = numbered 10
refused_cases P misnamed number misnamed' number' named numbered refusal.DirectoryFull = numbered 11
refused_cases P misnamed number misnamed' number' named numbered refusal.DiskFull = numbered 12
refused_cases P misnamed number misnamed' number' named numbered refusal.ChainFull = numbered 13
refused_cases P misnamed number misnamed' number' named numbered refusal.OtherKind = numbered 14
refused_cases P misnamed number misnamed' number' named numbered refusal.Argument = numbered 15

-- no answer of a call without a name, and none of a rename beside its two names, says that a name is wrong
module _ (place : ℕ) where
  pub never_answered : (number : ℕ) → AnswerSays (answered (Err (refusal.Misnamed place))) number → ⊥
  unfolding AnswerSays
  never_answered number said = said.1 (sym said.0)

  pub amount_never : (report : Report) → AmountSays (amount_answered (Err (refusal.Misnamed place))) report → ⊥
  unfolding AmountSays
  amount_never report said = said.1 (sym said.0)

  pub summary_never : (layout : Layout) (image : List ℕ) (report : Report) → SummarySays layout image (summary_answered (Err (refusal.Misnamed place))) report → ⊥
  unfolding SummarySays
  summary_never layout image report said = said.1 (sym said.0)

  pub entry_never : (row : Row) (report : Report) → EntrySays row (entry_answered (Err (refusal.Misnamed place))) report → ⊥
  entry_never row report says = never_answered report.number says.said

  pub rename_never : (old new : Option ℕ) (number : ℕ) → RenameSays old new (rename_answered (Err (rename.Other (refusal.Misnamed place)))) number → ⊥
  unfolding RenameSays
  rename_never old new number said = said.2 (sym said.0)

-- a refusal's number, with 7 for a wrong name
pub number_is : (r : Refusal) → refusal_number r ≡ refused (λ place. 7) (λ number. number) r
number_is (refusal.Unsound f) = refl
number_is (refusal.Misnamed place) = refl
number_is refusal.Absent = refl
number_is refusal.Present = refl
number_is refusal.Protected = refl
number_is refusal.DirectoryFull = refl
number_is refusal.DiskFull = refl
number_is refusal.ChainFull = refl
number_is refusal.OtherKind = refl
number_is refusal.Argument = refl

-- what is said of a refusal of a call without a name is said of its number in the table
pub bare_said : (r : Refusal) (n : ℕ) → (bare_number r ≡ n) × (n ≡ 0 → ⊥) → (refusal_number r ≡ n) × (n ≡ 0 → ⊥)
bare_said r n said =
    rw (number_is r)
    (refused_cases (λ bare number. (bare ≡ n) × (n ≡ 0 → ⊥) → (number ≡ n) × (n ≡ 0 → ⊥)) (λ place. 0) (λ number. number) (λ place. 7) (λ number. number)
    (λ place none. absurd (none.1 (sym none.0))) (λ number some. some) r said)

-- the fault and the refusal that a number says, and the refusal got back from what is said of it
fault_of : ℕ → Fault
fault_of n = cond (eqb n 1) fault.Length (cond (eqb n 2) fault.Label (cond (eqb n 3) fault.Index (cond (eqb n 4) fault.Descriptor (cond (eqb n 5) fault.Holders fault.Map))))

refusal_of : ℕ → Refusal
refusal_of n =
    cond (eqb n 8) refusal.Absent
    (cond (eqb n 9) refusal.Present
    (cond (eqb n 10) refusal.Protected
    (cond (eqb n 11) refusal.DirectoryFull
    (cond (eqb n 12) refusal.DiskFull
    (cond (eqb n 13) refusal.ChainFull (cond (eqb n 14) refusal.OtherKind (cond (eqb n 15) refusal.Argument (refusal.Unsound (fault_of n)))))))))

fault_back : (f : Fault) → fault_of (fault_number f) ≡ f
unfolding fault_of
fault_back fault.Length = refl
fault_back fault.Label = refl
fault_back fault.Index = refl
fault_back fault.Descriptor = refl
fault_back fault.Holders = refl
fault_back fault.Map = refl

told_back : (r : Refusal) → refused refusal.Misnamed refusal_of r ≡ r
unfolding refusal_of fault_of
told_back (refusal.Unsound fault.Length) = refl
told_back (refusal.Unsound fault.Label) = refl
told_back (refusal.Unsound fault.Index) = refl
told_back (refusal.Unsound fault.Descriptor) = refl
told_back (refusal.Unsound fault.Holders) = refl
told_back (refusal.Unsound fault.Map) = refl
told_back (refusal.Misnamed place) = refl
told_back refusal.Absent = refl
told_back refusal.Present = refl
told_back refusal.Protected = refl
told_back refusal.DirectoryFull = refl
told_back refusal.DiskFull = refl
told_back refusal.ChainFull = refl
told_back refusal.OtherKind = refl
told_back refusal.Argument = refl

refused_back : {A B : Type 0} (back : A → B) (whole : Refusal → B) (misnamed number : ℕ → A) → ((place : ℕ) → back (misnamed place) ≡ whole (refusal.Misnamed place))
    → ((n : ℕ) → back (number n) ≡ whole (refusal_of n)) → (r : Refusal) → back (refused misnamed number r) ≡ whole r
refused_back back whole misnamed number named numbered r =
    refused_cases (λ given s. back given ≡ whole s) misnamed number refusal.Misnamed refusal_of named numbered r ∙ ap whole (told_back r)

-- where it has one number for a wrong name, it is got back from any other number
number_back : (wrong : ℕ) (r : Refusal) → (refused (λ place. wrong) (λ number. number) r ≡ wrong → ⊥) → refusal_of (refused (λ place. wrong) (λ number. number) r) ≡ r
number_back wrong r other =
    refused_cases (λ n s. (n ≡ wrong → ⊥) → refusal_of n ≡ s) (λ place. wrong) (λ number. number) refusal.Misnamed refusal_of (λ place apart. absurd (apart refl)) (λ n apart. refl) r other ∙ told_back r

-- two results of which the same is answered are equal: of the judge, and of a call that takes a name or looks for one
fault_same : (f g : Fault) → fault_number f ≡ fault_number g → f ≡ g
fault_same f g e = sym (fault_back f) ∙ ap fault_of e ∙ fault_back g

pub judged_same : (a b : Result (Unit {0}) Fault) → judged a ≡ judged b → a ≡ b
judged_same (Ok sound) (Ok sound') e = refl
judged_same (Ok sound) (Err g) e = absurd (fault_some g (sym e))
judged_same (Err f) (Ok sound) e = absurd (fault_some f e)
judged_same (Err f) (Err g) e = ap Err (fault_same f g e)

-- each result is got back from what is answered
named_result : NamedAnswer → Result (Unit {0}) Refusal
named_result named.Done = Ok tt
named_result (named.Refused number) = Err (refusal_of number)
named_result (named.Misnamed place) = Err (refusal.Misnamed place)

named_back : (a : Result (Unit {0}) Refusal) → named_result (named_answered a) ≡ a
unfolding named_result
named_back (Ok done) = refl
named_back (Err r) = refused_back named_result Err named.Misnamed named.Refused (λ place. refl) (λ n. refl) r

pub named_same : (a b : Result (Unit {0}) Refusal) → named_answered a ≡ named_answered b → a ≡ b
named_same a b e = sym (named_back a) ∙ ap named_result e ∙ named_back b

loaded_result : NamedAmount → Result ℕ Refusal
loaded_result (loaded.Given value) = Ok value
loaded_result (loaded.Refused number) = Err (refusal_of number)
loaded_result (loaded.Misnamed place) = Err (refusal.Misnamed place)

loaded_back : (a : Result ℕ Refusal) → loaded_result (load_answered a) ≡ a
unfolding loaded_result
loaded_back (Ok value) = refl
loaded_back (Err r) = refused_back loaded_result Err loaded.Misnamed loaded.Refused (λ place. refl) (λ n. refl) r

pub loaded_same : (a b : Result ℕ Refusal) → load_answered a ≡ load_answered b → a ≡ b
loaded_same a b e = sym (loaded_back a) ∙ ap loaded_result e ∙ loaded_back b

opened_result : Opened → Result Looked Refusal
opened_result (opening.At index place sector) = Ok (record { index = index; file = Some (record { place = place; sector = sector }) })
opened_result (opening.Absent index) = Ok (record { index = index; file = None })
opened_result (opening.Refused number) = Err (refusal_of number)
opened_result (opening.Misnamed place) = Err (refusal.Misnamed place)

looked_back : (index : ℕ) (file : Option FileAt) → opened_result (looked_for index file) ≡ Ok (record { index = index; file = file })
unfolding opened_result
looked_back index None = refl
looked_back index (Some file) = refl

opened_back : (a : Result Looked Refusal) → opened_result (opened a) ≡ a
unfolding opened_result
opened_back (Ok looked) = looked_back looked.index looked.file
opened_back (Err r) = refused_back opened_result Err opening.Misnamed opening.Refused (λ place. refl) (λ n. refl) r

pub opened_same : (a b : Result Looked Refusal) → opened a ≡ opened b → a ≡ b
opened_same a b e = sym (opened_back a) ∙ ap opened_result e ∙ opened_back b

-- and of a call that takes no name, and of a rename: two results of which the same is said
bare_same : (r s : Refusal) (n : ℕ) → (bare_number r ≡ n) × (n ≡ 0 → ⊥) → (bare_number s ≡ n) × (n ≡ 0 → ⊥) → r ≡ s
bare_same r s n p q = sym (number_back 0 r (λ z. p.1 (sym p.0 ∙ z))) ∙ ap refusal_of (p.0 ∙ sym q.0) ∙ number_back 0 s (λ z. q.1 (sym q.0 ∙ z))

pub answered_same : (a b : Result (Unit {0}) Refusal) (number : ℕ) → AnswerSays (answered a) number → AnswerSays (answered b) number → a ≡ b
unfolding AnswerSays
answered_same (Ok done) (Ok done') number p q = refl
answered_same (Ok done) (Err s) number p q = absurd (q.1 p)
answered_same (Err r) (Ok done) number p q = absurd (p.1 q)
answered_same (Err r) (Err s) number p q = ap Err (bare_same r s number p q)

pub amount_same : (a b : Result ℕ Refusal) (report : Report) → AmountSays (amount_answered a) report → AmountSays (amount_answered b) report → a ≡ b
unfolding AmountSays
amount_same (Ok value) (Ok value') report p q = ap Ok (p.1 ∙ sym q.1)
amount_same (Ok value) (Err s) report p q = absurd (q.1 p.0)
amount_same (Err r) (Ok value) report p q = absurd (p.1 q.0)
amount_same (Err r) (Err s) report p q = ap Err (bare_same r s report.number p q)

totals_same : (a b : Totals) → a.sectors ≡ b.sectors → a.files ≡ b.files → a.free ≡ b.free → a ≡ b
totals_same a b p q r =
    let totals : ℕ → ℕ → ℕ → Totals = λ sectors files free. record { sectors = sectors; files = files; free = free } in
    ap (λ n. totals n a.files a.free) p ∙ ap (λ n. totals b.sectors n a.free) q ∙ ap (totals b.sectors b.files) r

pub summary_same : (layout : Layout) (image : List ℕ) (a b : Result Totals Refusal) (report : Report) → SummarySays layout image (summary_answered a) report
    → SummarySays layout image (summary_answered b) report → a ≡ b
unfolding SummarySays
summary_same layout image (Ok totals) (Ok totals') report p q = ap Ok (totals_same totals totals' (p.1 ∙ sym q.1) (p.2 ∙ sym q.2) (p.3 ∙ sym q.3))
summary_same layout image (Ok totals) (Err s) report p q = absurd (q.1 p.0)
summary_same layout image (Err r) (Ok totals) report p q = absurd (p.1 q.0)
summary_same layout image (Err r) (Err s) report p q = ap Err (bare_same r s report.number p q)

pub entry_same : (row : Row) (a b : Result Row Refusal) (report : Report) → EntrySays row (entry_answered a) report → EntrySays row (entry_answered b) report → a ≡ b
unfolding AnswerSays
entry_same row (Ok here) (Ok there) report p q = ap Ok (p.row_is ∙ sym q.row_is)
entry_same row (Ok here) (Err s) report p q = absurd (q.said.1 p.said)
entry_same row (Err r) (Ok there) report p q = absurd (p.said.1 q.said)
entry_same row (Err r) (Err s) report p q = ap Err (bare_same r s report.number p.said q.said)

rename_result : RenameAnswer → Result (Unit {0}) RenameRefusal
rename_result renamed.Done = Ok tt
rename_result (renamed.Refused number) = Err (rename.Other (refusal_of number))
rename_result (renamed.OldMisnamed place) = Err (rename.OldMisnamed place)
rename_result (renamed.NewMisnamed place) = Err (rename.NewMisnamed place)

module _ (old new : Option ℕ) (number : ℕ) where
  rename_back : (a : Result (Unit {0}) RenameRefusal) → RenameSays old new (rename_answered a) number → rename_result (rename_answered a) ≡ a
  unfolding RenameSays rename_result
  rename_back (Ok done) said = refl
  rename_back (Err (rename.OldMisnamed place)) said = refl
  rename_back (Err (rename.NewMisnamed place)) said = refl
  rename_back (Err (rename.Other r)) said =
      ap (λ s. Err (rename.Other s)) (ap refusal_of (number_is r) ∙ number_back 7 r (λ z. said.2 (sym said.0 ∙ number_is r ∙ z)))

  pub rename_same : (a b : Result (Unit {0}) RenameRefusal) → RenameSays old new (rename_answered a) number → RenameSays old new (rename_answered b) number → a ≡ b
  rename_same a b p q = sym (rename_back a p) ∙ ap rename_result (says_rename old new _ number p ∙ sym (says_rename old new _ number q)) ∙ rename_back b q

-- What a call answered, and what C is given of it: the number, the bytes and the order of its writes; and what stands behind a pointer, case by case of the answer.
use mathlib.Core.Path.{◌≡◌, refl, sym, ap, ◌∙◌}
use mathlib.Core.Bool.{Bool, true, false}
use mathlib.Core.List.{List, [], ◌∷◌}
use Prim.Native.Nat.{ℕ}
use native.Mathlib.Omega.{arith}
use lib.ListN.{length}
use borrow.Author.Tests.{ne_eqb}
use Rattle.rules.specs.Bytes.{splice}
use Rattle.rules.specs.Sectors.{Write, sectors_in}
use Rattle.rules.specs.Outcome.{Report, Outcome, order_of, Bare, NamedSays, NamedAmountSays, Gives, behind}
use Rattle.rules.specs.Refusal.{fault_number, refusal_number, refused}
use Rattle.rules.specs.Answers.NamedAnswer.{NamedAnswer}
use Rattle.rules.specs.Answers.NamedAnswer as named
use Rattle.rules.specs.Answers.NamedAmount as loaded
use Rattle.rules.specs.declared.refusal.Refusal.{Refusal}
use Rattle.rules.specs.declared.refusal.Refusal.TheVariants as refusal
use Rattle.std.specs.Prelude.{Option, Some, Result, Ok, Err}
use Rattle.rules.proofs.Splice.{splice_none, splice_covered}
use Rattle.rules.proofs.Refusals.{refusal_some, refused_cases}
use Rattle.rules.proofs.Outcome.{MeetsInOrder, wrong-there, behind_given, behind_kept}
use Rattle.std.specs.Int.{from_bool}
use Rattle.pnoelithe.specs.Crossing.{flag, behind_seven, place_behind, changes_of, Crosses, ReportCrosses, AmountCrosses}

-- the order of a call's writes, put where it was said that there are none
put_there : (writes : List Write) (changes : List ℕ) → splice (splice changes 1 (0 ∷ [])) 1 (order_of writes) ≡ splice changes 1 (length writes ∷ sectors_in writes)
unfolding order_of sectors_in
put_there [] changes = splice_none _ _
put_there (first ∷ more) changes = splice_covered changes 1 (0 ∷ []) _ (omega arith)

pub listed_crosses : (writes : List Write) (changes none order : List ℕ) → none ≡ splice changes 1 (0 ∷ []) → order ≡ splice none 1 (order_of writes) → order ≡ splice changes 1 (length writes ∷ sectors_in writes)
listed_crosses writes changes none order none_is order_is = order_is ∙ ap (λ (l : List ℕ). splice l 1 (order_of writes)) none_is ∙ put_there writes changes

-- where the answer crosses as the number that it says, the call does; and what stands behind the pointers afterwards is handed on
pub writing_crosses : {Given : Type 0} (Says : Given → ℕ → Type 0) (Behind : Type 0) (outcome : Outcome) (given : Given) (r : ℕ) (before after changes none order : List ℕ)
    → MeetsInOrder Says outcome given before after none order → none ≡ splice changes 1 (0 ∷ []) → (Says given outcome.number → (r ≡ outcome.number) × Behind)
    → Crosses outcome r before after × (Behind × (order ≡ changes_of outcome changes))
writing_crosses Says Behind outcome given r before after changes none order meets none_is crossing =
    let crossed = crossing meets.0.said in
    (record { returned = crossed.0; left = meets.0.left }, (crossed.1, listed_crosses outcome.writes changes none order none_is meets.1))

pub reading_crosses : {Given : Type 0} (Says : Given → Report → Type 0) (Behind : Type 0) (report : Report) (given : Given) (r : ℕ) (before after : List ℕ)
    → (Says given report → (r ≡ report.number) × Behind) → Gives Says report given before after → ReportCrosses report r before after × Behind
reading_crosses Says Behind report given r before after crossing gives =
    let crossed = crossing gives.said in
    (record { returned = crossed.0; left = gives.left }, crossed.1)

-- a result that is given is none that is refused, and what is refused is refused for one reason
pub given_unrefused : {A E : Type 0} (a : Result A E) (x : A) (e : E) → a ≡ Ok x → a ≡ Err e → ⊥
given_unrefused {A} {E} a x e given refused = let z : ◌≡◌ {A = Result A E} (Ok x) (Err e) = sym given ∙ refused in cc

pub one_refusal : {A E : Type 0} (a : Result A E) (d e : E) → a ≡ Err d → a ≡ Err e → d ≡ e
one_refusal {A} {E} a d e here there = let z : ◌≡◌ {A = Result A E} (Err d) (Err e) = sym here ∙ there in cc

-- an amount: its number, and its value behind the pointer
pub given_crosses : (report : Report) (value before : ℕ) → (report.number ≡ 0) × (value ≡ report.value) → AmountCrosses report 0 before value
given_crosses report value before said = record { returned = sym said.0; value = said.1 ∙ sym (behind_given 0 report.value before refl) }

-- behind a pointer stands what stood there, after a refusal
pub refused_kept : (refused number value before : ℕ) → (refused ≡ number) × (number ≡ 0 → ⊥) → before ≡ behind refused value before
refused_kept refused number value before said = sym (behind_kept refused value before (λ z. said.1 (sym said.0 ∙ z)))

pub refused_crosses : (report : Report) (refused before : ℕ) → (refused ≡ report.number) × (report.number ≡ 0 → ⊥) → AmountCrosses report refused before before
refused_crosses report refused before said = record { returned = said.0; value = refused_kept refused report.number report.value before said }

-- and what is given with number 7, unless that is the number
pub bare_kept : (refused number value before : ℕ) → Bare refused number → before ≡ behind_seven refused value before
unfolding behind_seven
bare_kept refused number value before said = rw (ne_eqb refused 7 (λ z. said.2 (sym said.0 ∙ z)))

-- with 7 the place
pub place_behind_lem : (wrong : Option ℕ) (place before : ℕ) → wrong ≡ Some place → place ≡ place_behind 7 wrong before
unfolding behind_seven
place_behind_lem wrong place before there = sym (wrong-there wrong (λ (found : ℕ). found) before place there)

-- a refusal of a call that takes a name, by what is said of it: a number, or with 7 the place
module _ (misnamed : Option ℕ) (before : ℕ) where
  abbrev Told : ℕ → NamedAnswer → ℕ → Type 0
  Told refused given after = (number : ℕ) → NamedSays misnamed given number → (refused ≡ number) × (after ≡ place_behind refused misnamed before)

  told_number : (n : ℕ) → Told n (named.Refused n) before
  unfolding NamedSays
  told_number n number said = (said.0, bare_kept n number _ before said)

  told_place : (place : ℕ) → Told 7 (named.Misnamed place) place
  unfolding NamedSays
  told_place place number said = (sym said.0, place_behind_lem misnamed place before said.1)

  pub told_named : (r : Refusal) (number : ℕ) → NamedSays misnamed (refused named.Misnamed named.Refused r) number
      → (refusal_number r ≡ number) × (refused (λ (place : ℕ). place) (λ (n : ℕ). before) r ≡ place_behind (refusal_number r) misnamed before)
  told_named (refusal.Unsound f) = told_number (fault_number f)
  told_named (refusal.Misnamed place) = told_place place
  told_named refusal.Absent = told_number 8
  told_named refusal.Present = told_number 9
  told_named refusal.Protected = told_number 10
  told_named refusal.DirectoryFull = told_number 11
  told_named refusal.DiskFull = told_number 12
  told_named refusal.ChainFull = told_number 13
  told_named refusal.OtherKind = told_number 14
  told_named refusal.Argument = told_number 15

-- and of one that gives an amount: nothing stands behind its pointer but what stood there
said_loaded : (misnamed : Option ℕ) (report : Report) (r : Refusal) → NamedAmountSays misnamed (refused loaded.Misnamed loaded.Refused r) report
    → NamedSays misnamed (refused named.Misnamed named.Refused r) report.number
unfolding NamedAmountSays NamedSays
said_loaded misnamed report =
    refused_cases (λ given given'. NamedAmountSays misnamed given report → NamedSays misnamed given' report.number) loaded.Misnamed loaded.Refused named.Misnamed named.Refused
    (λ place said. said) (λ n said. said)

pub told_loaded : (misnamed : Option ℕ) (report : Report) (r : Refusal) (before wrong : ℕ) → NamedAmountSays misnamed (refused loaded.Misnamed loaded.Refused r) report
    → AmountCrosses report (refusal_number r) before before × (refused (λ (place : ℕ). place) (λ (n : ℕ). wrong) r ≡ place_behind (refusal_number r) misnamed wrong)
told_loaded misnamed report r before wrong said =
    let told = told_named misnamed wrong r report.number (said_loaded misnamed report r said) in
    (refused_crosses report (refusal_number r) before (told.0, λ z. refusal_some r (told.0 ∙ z)), told.1)

-- a flag, as the library and as the crossing has it
pub flag_is : (yes : Bool) → from_bool yes ≡ flag yes
unfolding flag
flag_is true = refl
flag_is false = refl

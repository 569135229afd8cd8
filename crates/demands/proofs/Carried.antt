-- The number of an answer is that of what it was made of; and what an answer of ours carries: no refusal has number 0 and none a row beside it, and with 7 comes the place where the name is wrong.
use mathlib.Core.Path.{◌≡◌, refl, sym, ◌∙◌}
use mathlib.Core.Bool.{Bool, true, false, cond}
use mathlib.Core.List.{List, [], ◌∷◌, ◌++◌}
use mathlib.Core.Logic.{◌⊎◌, inl, inr}
use Prim.Native.Nat.{ℕ}
use native.Mathlib.Omega.{arith}
use lib.Dec.{eqb}
use lib.ListN.{length}
use borrow.Author.Tests.{eqb-true, eqb-false}
use Rattle.rules.specs.Sectors.{sector_of, sector_count}
use Rattle.rules.specs.Name.{wrong_place, IsName}
use Rattle.rules.specs.Map.{free_count}
use Rattle.rules.specs.Volume.{indexes, files_of}
use Rattle.rules.specs.Tests.{unless_met}
use Rattle.rules.specs.Verdict.{verdict}
use Rattle.rules.specs.Outcome.{Report, answer_of, amount_of, named_answer_of, named_amount_of, rename_answer_of}
use Rattle.rules.specs.Calls.Summary.{summary_answer}
use Rattle.rules.specs.Calls.Entry.{no_row, entry_tests, entry_of, entry_row}
use Rattle.rules.specs.Calls.Read.{read_of}
use Rattle.rules.specs.Calls.Load.{load_of}
use Rattle.rules.specs.Calls.Format.{format_number}
use Rattle.rules.specs.declared.Layout.{Layout}
use Rattle.std.specs.Prelude.{Option, None}
use Rattle.rules.specs.Answers.Answer as answer
use Rattle.rules.specs.Answers.Amount as amount
use Rattle.rules.specs.Answers.Summary as summary
use Rattle.rules.proofs.Tests.{unless_met_lem}
use Rattle.rules.proofs.Name.{name_is}
use Rattle.rules.proofs.Misnamed.{none_rule, place_wrong}
use Rattle.rules.proofs.Outcome.{by_cases, wrong_cases}
use Rattle.demands.specs.Call as call
use Rattle.demands.specs.Call.{Names, Form, Look, Change, Call, names_of, change_rule, rule_of, form_of, number_of, number_in, answer_number, amount_number, summary_number, named_number, loaded_number, NamedCarries, LoadCarries, Carries}
use Rattle.demands.specs.Ours.{answered, seen, outcome, ours}
use Rattle.demands.specs.Grounds.{Ground, First, faults, look_grounds, change_grounds, name_grounds, grounds}

pub answer_number_lem : (number : ℕ) → answer_number (answer_of number) ≡ number
unfolding answer_of answer_number
answer_number_lem number = go (eqb number 0) refl
  where
    go : (t : Bool) → eqb number 0 ≡ t → answer_number (cond t answer.Done (answer.Refused number)) ≡ number
    go true e = sym (eqb-true number 0 e)
    go false e = refl

pub amount_number_lem : (report : Report) → amount_number (amount_of report) ≡ report.number
unfolding amount_of amount_number
amount_number_lem report = go (eqb report.number 0) refl
  where
    go : (t : Bool) → eqb report.number 0 ≡ t → amount_number (cond t (amount.Given report.value) (amount.Refused report.number)) ≡ report.number
    go true e = sym (eqb-true report.number 0 e)
    go false e = refl

pub summary_number_lem : (layout : Layout) (image : List ℕ) → summary_number (summary_answer layout image) ≡ verdict layout image
unfolding summary_answer summary_number verdict unless_met
summary_number_lem layout image = go (eqb (verdict layout image) 0) refl
  where
    go : (t : Bool) → eqb (verdict layout image) 0 ≡ t
        → summary_number (cond t (summary.Given (sector_count image) (length (files_of image (indexes layout image))) (free_count (sector_of image 0))) (summary.Refused (verdict layout image))) ≡ verdict layout image
    go true e = sym (eqb-true (verdict layout image) 0 e)
    go false e = refl

-- of a call that takes names
pub named_number_lem : (names : Names) (number : ℕ) → named_number names (answered names number) ≡ number
unfolding answered named_answer_of rename_answer_of named_number
named_number_lem (call.one name) number =
    by_cases number _ _ _ (λ a. named_number (call.one name) a ≡ number) sym
    (λ seven. wrong_cases (λ a. named_number (call.one name) a ≡ number) (wrong_place name) _ _ (λ place there. sym seven) (λ none. refl)) (λ some other. refl)
named_number_lem (call.both old new) number =
    by_cases number _ _ _ (λ a. named_number (call.both old new) a ≡ number) sym
    (λ seven. wrong_cases (λ a. named_number (call.both old new) a ≡ number) (wrong_place old) _ _ (λ place there. sym seven)
    (λ kept. wrong_cases (λ a. named_number (call.both old new) a ≡ number) (wrong_place new) _ _ (λ place there. sym seven) (λ none. refl))) (λ some other. refl)

pub loaded_number_lem : (wrong : Option ℕ) (report : Report) → loaded_number (named_amount_of wrong report) ≡ report.number
unfolding named_amount_of loaded_number
loaded_number_lem wrong report =
    by_cases report.number _ _ _ (λ a. loaded_number a ≡ report.number) sym
    (λ seven. wrong_cases (λ a. loaded_number a ≡ report.number) wrong _ _ (λ place there. sym seven) (λ none. refl)) (λ some other. refl)

answer_carries : (number : ℕ) → answer_of number ≡ answer.Refused 0 → ⊥
unfolding answer_of
answer_carries number = go (eqb number 0) refl
  where
    go : (t : Bool) → eqb number 0 ≡ t → cond t answer.Done (answer.Refused number) ≡ answer.Refused 0 → ⊥
    go true e is = let z : ◌≡◌ {A = ℕ} 0 1 = cc in omega arith
    go false e is = let z : number ≡ 0 = cc in eqb-false number 0 e z

amount_carries : (report : Report) → amount_of report ≡ amount.Refused 0 → ⊥
unfolding amount_of
amount_carries report = go (eqb report.number 0) refl
  where
    go : (t : Bool) → eqb report.number 0 ≡ t → cond t (amount.Given report.value) (amount.Refused report.number) ≡ amount.Refused 0 → ⊥
    go true e is = let z : ◌≡◌ {A = ℕ} 0 1 = cc in omega arith
    go false e is = let z : report.number ≡ 0 = cc in eqb-false report.number 0 e z

summary_carries : (layout : Layout) (image : List ℕ) → summary_answer layout image ≡ summary.Refused 0 → ⊥
unfolding summary_answer unless_met verdict
summary_carries layout image = go (sector_count image) (length (files_of image (indexes layout image))) (free_count (sector_of image 0)) (eqb (verdict layout image) 0) refl
  where
    go : (n listed free : ℕ) (t : Bool) → eqb (verdict layout image) 0 ≡ t → cond t (summary.Given n listed free) (summary.Refused (verdict layout image)) ≡ summary.Refused 0 → ⊥
    go n listed free true e is = let z : ◌≡◌ {A = ℕ} 0 1 = cc in omega arith
    go n listed free false e is = let z : verdict layout image ≡ 0 = cc in eqb-false (verdict layout image) 0 e z

-- beside a refused entry stands no row
row_carries : (layout : Layout) (image : List ℕ) (directory place room : ℕ) → (answer_of (entry_of layout image directory place room).number ≡ answer.Done → ⊥) → entry_row layout image directory place room ≡ no_row
unfolding entry_of entry_row answer_of
row_carries layout image directory place room other = unless_met_lem (entry_tests layout image directory place room) _ no_row (λ none. other (rw none))

-- 7 is the number of a name that is wrong, and of no other ground: where that number is the first, a name is
unfoldable Only : Bool → Type 0 → Type 0
Only true there = there
Only false there = Unit {0}

unfoldable Sevens : Type 0 → List {1} Ground → Type 0
Sevens wrong [] = Unit {0}
Sevens wrong (g ∷ gs) = Only (eqb g.number 7) (g.there → wrong) × Sevens wrong gs

first_seven : (wrong : Type 0) (number : ℕ) (gs : List {1} Ground) → Sevens wrong gs → number ≡ 7 → First number gs → wrong
unfolding Sevens Only First
first_seven wrong number [] sevens seven first = absurd (omega (arith, seven, first))
first_seven wrong number (g ∷ gs) sevens seven (inl here) = go (eqb g.number 7) refl sevens.0
  where
    go : (t : Bool) → eqb g.number 7 ≡ t → Only t (g.there → wrong) → wrong
    go true e says = says here.0
    go false e says = absurd (eqb-false g.number 7 e (sym here.1 ∙ seven))
first_seven wrong number (g ∷ gs) sevens seven (inr later) = first_seven wrong number gs sevens.1 seven later.1

faults_seven : (layout : Layout) (wrong : Type 0) (image : List ℕ) (more : List {1} Ground) → Sevens wrong more → Sevens wrong (faults layout image ++ more)
unfolding Sevens Only faults
faults_seven layout wrong image more sevens = (tt, (tt, (tt, (tt, (tt, (tt, sevens))))))

-- that a name is wrong
abbrev Misnamed : Names → Type 0
Misnamed (call.one name) = IsName name → ⊥
Misnamed (call.both old new) = (IsName old → ⊥) ⊎ (IsName new → ⊥)

named_carries : (names : Names) (number : ℕ) → (number ≡ 7 → Misnamed names) → NamedCarries names (answered names number)
unfolding answered named_answer_of rename_answer_of NamedCarries
named_carries (call.one name) number wrong =
    by_cases number _ _ _ (NamedCarries (call.one name)) (λ zero. tt)
    (λ seven. wrong_cases (NamedCarries (call.one name)) (wrong_place name) _ _ (λ place there. assumption (place_wrong name place there)) (λ none. absurd (wrong seven (name_is name (none_rule name none)))))
    (λ some other. (some, other))
named_carries (call.both old new) number wrong =
    by_cases number _ _ _ (NamedCarries (call.both old new)) (λ zero. tt)
    (λ seven.
    wrong_cases (NamedCarries (call.both old new)) (wrong_place old) _ _ (place_wrong old)
    (λ kept.
    wrong_cases (NamedCarries (call.both old new)) (wrong_place new) _ _ (λ place there. assumption (is_old kept, place_wrong new place there)) (λ none. absurd (neither_wrong (wrong seven) kept none))))
    (λ some other. (some, other))
  where
    is_old : wrong_place old ≡ None → IsName old
    is_old kept = name_is old (none_rule old kept)

    neither_wrong : (IsName old → ⊥) ⊎ (IsName new → ⊥) → wrong_place old ≡ None → wrong_place new ≡ None → ⊥
    neither_wrong (inl wrong) kept none = wrong (is_old kept)
    neither_wrong (inr wrong) kept none = wrong (name_is new (none_rule new none))

load_carries : (name : List ℕ) (report : Report) → (report.number ≡ 7 → IsName name → ⊥) → LoadCarries name (named_amount_of (wrong_place name) report)
unfolding named_amount_of LoadCarries
load_carries name report wrong =
    by_cases report.number _ _ _ (LoadCarries name) (λ zero. tt)
    (λ seven. wrong_cases (LoadCarries name) (wrong_place name) _ _ (place_wrong name) (λ none. absurd (wrong seven (name_is name (none_rule name none)))))
    (λ some other. (some, other))

-- so with 7 a name of the call is wrong: of a change
change_sevens : (change : Change) (image : List ℕ) (i : ℕ) (name : List ℕ) (wrong : Type 0) → Sevens wrong (change_grounds change image i name)
unfolding Sevens Only change_grounds
change_sevens (call.create status record_length records_per_sector) image i name wrong = (tt, (tt, (tt, (tt, tt))))
change_sevens (call.append bytes) image i name wrong = (tt, (tt, (tt, (tt, (tt, (tt, tt))))))
change_sevens (call.overwrite offset bytes) image i name wrong = (tt, (tt, (tt, (tt, (tt, tt)))))
change_sevens call.protect image i name wrong = (tt, tt)
change_sevens call.unprotect image i name wrong = (tt, tt)
change_sevens call.clear image i name wrong = (tt, tt)
change_sevens (call.store bytes) image i name wrong = (tt, (tt, (tt, (tt, (tt, tt)))))
change_sevens call.delete image i name wrong = (tt, (tt, tt))
change_sevens (call.rename new) image i name wrong = (tt, (tt, (tt, tt)))

name_sevens : (names : Names) (more : List {1} Ground) → Sevens (Misnamed names) more → Sevens (Misnamed names) (name_grounds names more)
unfolding Sevens Only
name_sevens (call.one name) more sevens = ((λ wrong. wrong), sevens)
name_sevens (call.both old new) more sevens = (inl, (inr, sevens))

-- of a look that takes a name
look_carries : (layout : Layout) {form : Form} (look : Look form) (buffer image : List ℕ) → First (number_in form (seen layout look buffer image).answer) (faults layout image ++ look_grounds layout look buffer image)
    → Carries form (seen layout look buffer image).answer
unfolding seen look_grounds Sevens Only
look_carries layout call.judge buffer image first = tt
look_carries layout call.free_count buffer image first = amount_carries _
look_carries layout call.summarize buffer image first = summary_carries layout image
look_carries layout (call.entry directory place) buffer image first = (answer_carries _, row_carries layout image directory place (length buffer))
look_carries layout (call.read directory name offset) buffer image first =
    let number = (read_of layout image directory name offset (length buffer)).number in
    named_carries (call.one name) number
    (λ seven. first_seven (IsName name → ⊥) _ _ (faults_seven layout _ image _ ((λ wrong. wrong), (tt, (tt, (tt, (tt, tt)))))) (named_number_lem (call.one name) number ∙ seven) first)
look_carries layout (call.load directory name) buffer image first =
    let report = load_of layout image directory name (length buffer) in
    load_carries name report
    (λ seven. first_seven (IsName name → ⊥) _ _ (faults_seven layout _ image _ ((λ wrong. wrong), (tt, (tt, (tt, (tt, tt)))))) (loaded_number_lem (wrong_place name) report ∙ seven) first)
look_carries layout (call.list directory) buffer image first = amount_carries _
look_carries layout call.pack buffer image first = answer_carries _

-- each call
pub carried : (layout : Layout) (c : Call) (image : List ℕ) → First (number_of (ours layout) c image) (grounds (rule_of layout c) c image) → Carries (form_of c) (ours layout c image).answer
unfolding ours grounds Sevens Only
carried layout (call.look look buffer) image first = look_carries layout look buffer image first
carried layout (call.change directory name change) image first =
    let names = names_of name change in
    let number = (outcome layout change image directory name).number in
    named_carries names number
    (λ seven. first_seven (Misnamed names) _ _ (faults_seven (change_rule layout change) _ image _ (name_sevens names _ (tt, change_sevens change image _ name _))) (named_number_lem names number ∙ seven) first)
carried layout call.repair image first = answer_carries _
carried layout (call.format n name geometry) image first =
    let number = format_number image n name in
    named_carries (call.one name) number
    (λ seven. first_seven (IsName name → ⊥) _ _ (tt, (tt, ((λ wrong. wrong), tt))) (named_number_lem (call.one name) number ∙ seven) first)

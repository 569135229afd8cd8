-- What an answer says is said by one answer only; so a call that keeps its promise does what our version does, and two that keep it are equal.
use mathlib.Core.Path.{◌≡◌, sym, ◌∙◌}
use mathlib.Core.List.{List, []}
use Prim.Native.Nat.{ℕ}
use Rattle.rules.specs.Name.{wrong_place}
use Rattle.rules.specs.Verdict.{volume_tests, verdict}
use Rattle.rules.specs.Outcome.{Report, answer_of}
use Rattle.rules.specs.Calls.Summary.{free_count_of, summary_of, SummarySays, summary_answer}
use Rattle.rules.specs.Calls.Entry.{EntrySays}
use Rattle.rules.specs.declared.Layout.{Layout}
use Rattle.rules.specs.Answers.Answer.{Answer}
use Rattle.rules.specs.Answers.Entry.{Entry}
use Rattle.rules.specs.declared.Row.{Row}
use Rattle.rules.specs.Answers.Summary.{Summary}
use Rattle.rules.specs.Answers.Summary as summary
use Rattle.rules.proofs.Tests.{unless_passed, unless_met_lem}
use Rattle.rules.proofs.Splice.{splice_none}
use Rattle.rules.proofs.Outcome.{says_answer, says_amount, says_named, says_named_amount, says_rename}
use Rattle.demands.specs.Call as call
use Rattle.demands.specs.Call.{Names, Form, AnsweredTo, Answered, Look, Result, names_of, form_of}
use Rattle.demands.specs.Ours.{answered, seen, ours}
use Rattle.demands.specs.Unique.{LookPromised, Says, Promised, IsOurs, Unique}

says_summary : (layout : Layout) (image : List ℕ) (given : Summary) → SummarySays layout image given (summary_of layout image) → given ≡ summary_answer layout image
unfolding SummarySays summary_of summary_answer verdict
says_summary layout image (summary.Given sectors listed free) said = rw (said.1, said.2, said.3) (sym (unless_passed (volume_tests layout image) _ _ said.0))
says_summary layout image (summary.Refused refused) said = rw said.0 (sym (unless_met_lem (volume_tests layout image) _ _ said.1))

same_entry : (entry : Entry) (row : Row) (report : Report) → EntrySays row entry report → entry ≡ record { answer = answer_of report.number; row = row }
same_entry entry row report said = go entry.answer entry.row (says_answer entry.answer report.number said.said) said.row_is
  where
    go : (answer : Answer) (is : Row) → answer ≡ answer_of report.number → is ≡ row → ◌≡◌ {A = Entry} (record { answer = answer; row = is }) (record { answer = answer_of report.number; row = row })
    go answer is e f = rw (e, f)

says_names : (names : Names) (given : AnsweredTo names) (number : ℕ) → Says names given number → given ≡ answered names number
unfolding Says answered
says_names (call.one name) given number said = says_named (wrong_place name) given number said
says_names (call.both old new) given number said = says_rename (wrong_place old) (wrong_place new) given number said

pub same_result : (form : Form) (answer answer' : Answered form) (buffer buffer' image image' order order' : List ℕ) → answer ≡ answer' → buffer ≡ buffer' → image ≡ image' → order ≡ order'
    → ◌≡◌ {A = Result form} (record { answer = answer; buffer = buffer; image = image; order = order }) (record { answer = answer'; buffer = buffer'; image = image'; order = order' })
same_result form answer answer' buffer buffer' image image' order order' a b i o = rw (a, b, i, o)

look_ours : (layout : Layout) {form : Form} (look : Look form) (buffer image : List ℕ) (given : Answered form) (after : List ℕ) → LookPromised layout look buffer image given after
    → (given ≡ (seen layout look buffer image).answer) × (after ≡ (seen layout look buffer image).buffer)
unfolding LookPromised seen Says
look_ours layout call.judge buffer image given after p = (p.0, p.1 ∙ sym (splice_none buffer 0))
look_ours layout call.free_count buffer image given after p = (says_amount given (free_count_of layout image) p.0, p.1 ∙ sym (splice_none buffer 0))
look_ours layout call.summarize buffer image given after p = (says_summary layout image given p.said, p.left)
look_ours layout (call.entry directory place) buffer image given after p = (same_entry given _ _ p.said, p.left)
look_ours layout (call.read directory name offset) buffer image given after p = (says_names (call.one name) given _ p.said, p.left)
look_ours layout (call.load directory name) buffer image given after p = (says_named_amount (wrong_place name) given _ p.said, p.left)
look_ours layout (call.list directory) buffer image given after p = (says_amount given _ p.said, p.left)
look_ours layout call.pack buffer image given after p = (says_answer given _ p.0, p.1)

pub is_ours : (layout : Layout) → IsOurs layout
unfolding IsOurs Promised ours
is_ours layout (call.look {form} look buffer) image r p =
    let seen-so = look_ours layout look buffer image r.answer r.buffer p.0 in
    same_result form r.answer _ r.buffer _ r.image image r.order [] seen-so.0 seen-so.1 p.1 p.2
is_ours layout (call.change directory name change) image r p =
    same_result (form_of (call.change directory name change)) r.answer _ r.buffer [] r.image _ r.order _ (says_names (names_of name change) r.answer _ p.0.said) p.1 p.0.left p.2
is_ours layout call.repair image r p = same_result (form_of call.repair) r.answer _ r.buffer [] r.image _ r.order _ (says_answer r.answer _ p.0.said) p.1 p.0.left p.2
is_ours layout (call.format n name geometry) image r p =
    same_result (form_of (call.format n name geometry)) r.answer _ r.buffer [] r.image _ r.order [] (says_names (call.one name) r.answer _ p.0) p.2 p.1 p.3

pub unique : (layout : Layout) → Unique layout
unfolding Unique IsOurs
unique layout c image r r' p p' = is_ours layout c image r p ∙ sym (is_ours layout c image r' p')

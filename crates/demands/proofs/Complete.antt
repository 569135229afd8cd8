-- Two versions that meet demand 2 do the same at every call: the number is that of the first ground; a refusal leaves everything and carries what is asked of it; and what a call that was done
-- gives and leaves is fixed by its meaning.
use mathlib.Core.Path.{◌≡◌, refl, sym, ap, ◌∙◌}
use mathlib.Core.Logic.{inl, inr}
use mathlib.Core.List.{List, [], ◌∷◌, ◌++◌}
use Prim.Native.Nat.{ℕ}
use native.Mathlib.Omega.{arith}
use native.Mathlib.Decide.{ℕ_discrete}
use lib.ListN.{length}
use Rattle.rules.specs.Sectors.{sector_count}
use Rattle.rules.specs.Volume.{index_at, catalogues}
use Rattle.rules.specs.Calls.Pack.{together}
use Rattle.rules.specs.Sound.{Sound}
use Rattle.rules.specs.Verdict.{verdict}
use Rattle.rules.specs.declared.Layout.{Layout}
use Rattle.rules.specs.Answers.Answer.{Answer}
use Rattle.rules.specs.Answers.Answer as answers
use Rattle.rules.specs.Answers.Amount.{Amount}
use Rattle.rules.specs.Answers.Amount as amounts
use Rattle.rules.specs.Answers.Summary.{Summary}
use Rattle.rules.specs.Answers.Summary as summaries
use Rattle.rules.specs.Answers.NamedAnswer as answered
use Rattle.rules.specs.Answers.NamedAmount.{NamedAmount}
use Rattle.rules.specs.Answers.NamedAmount as loads
use Rattle.rules.specs.Answers.RenameAnswer as renames
use Rattle.rules.specs.Answers.Entry.{Entry}
use Rattle.rules.specs.declared.Row.{Row}
use Rattle.rules.proofs.Misnamed.{wrong_one, wrong_unnamed}
use Rattle.rules.proofs.Verdict.{sound}
use Rattle.demands.specs.Call as call
use Rattle.demands.specs.Call.{Names, Form, AnsweredTo, Answered, answer_number, amount_number, summary_number, named_number, loaded_number, number_in, NamedCarries, LoadCarries, Carries, Look, Call, change_rule, rule_of, names_of, form_of, Result, Version, number_of}
use Rattle.demands.specs.Ours.{seen, ours}
use Rattle.demands.specs.Grounds.{Ground, First, faults, look_grounds, grounds}
use Rattle.demands.specs.Demand2.{FreeIs, Shows, Means, Unlisted, Frame, Demand2}
use Rattle.demands.specs.Unique.{OneVersion, OnlyOurs}
use Rattle.demands.proofs.Demand2.{demand2}
use Rattle.demands.proofs.Formatting.{formats_one}
use Rattle.demands.proofs.Lines.{lists_one}
use Rattle.demands.proofs.PackedOne.{packs_one}
use Rattle.demands.proofs.Touched.{directory_there, touches_one, orders_one}
use Rattle.demands.proofs.Mending.{mends_one}
use Rattle.demands.proofs.Unique.{same_result}

-- the first ground fixes the number
pub first_one : (n m : ℕ) (gs : List {1} Ground) → First n gs → First m gs → n ≡ m
unfolding First
first_one n m [] one two = one ∙ sym two
first_one n m (g ∷ gs) (inl one) (inl two) = one.1 ∙ sym two.1
first_one n m (g ∷ gs) (inl one) (inr two) = absurd (two.0 one.0)
first_one n m (g ∷ gs) (inr one) (inl two) = absurd (one.0 two.0)
first_one n m (g ∷ gs) (inr one) (inr two) = first_one n m gs one.1 two.1

-- and one that is met stays the first, whatever grounds are behind
first_more : (n : ℕ) (gs more : List {1} Ground) → (n ≡ 0 → ⊥) → First n (gs ++ []) → First n (gs ++ more)
unfolding First
first_more n [] more some first = absurd (some first)
first_more n (g ∷ gs) more some (inl here) = inl here
first_more n (g ∷ gs) more some (inr past) = inr (past.0, first_more n gs more some past.1)

-- so a call that tests the image and was done was made on a sound one
pub done_sound : (layout : Layout) (image : List ℕ) (n : ℕ) (more : List {1} Ground) → n ≡ 0 → First n (faults layout image ++ more) → Sound layout image
unfolding ours seen grounds look_grounds
done_sound layout image n more zero first =
    elim (ℕ_discrete (verdict layout image) 0) [
      | yes none ↦ sound layout image none
      | no some ↦
          let judged = first_more (verdict layout image) (faults layout image) more some ((demand2 layout).progress (call.look call.judge []) image) in
          absurd (some (first_one (verdict layout image) n (faults layout image ++ more) judged first ∙ zero))
    ]

-- an answer that is no refusal with 0, by its number
answer_one : (a b : Answer) → answer_number a ≡ answer_number b → (a ≡ answers.Refused 0 → ⊥) → (b ≡ answers.Refused 0 → ⊥) → a ≡ b
unfolding answer_number
answer_one answers.Done answers.Done e p q = refl
answer_one answers.Done (answers.Refused n) e p q = absurd (q (ap answers.Refused (sym e)))
answer_one (answers.Refused n) answers.Done e p q = absurd (p (ap answers.Refused e))
answer_one (answers.Refused n) (answers.Refused m) e p q = ap answers.Refused e

not_done : (a : Answer) → (answer_number a ≡ 0 → ⊥) → a ≡ answers.Done → ⊥
unfolding answer_number
not_done a some e = some (rw e)

entry_one : (a b : Entry) → a.answer ≡ b.answer → a.row ≡ b.row → a ≡ b
entry_one a b e f = go a.answer b.answer a.row b.row e f
  where
    go : (a b : Answer) (x y : Row) → a ≡ b → x ≡ y → ◌≡◌ {A = Entry} (record { answer = a; row = x }) (record { answer = b; row = y })
    go a b x y e f = rw (e, f)

amount_one : (a b : Amount) → amount_number a ≡ amount_number b → (amount_number a ≡ 0 → ⊥) → a ≡ b
unfolding amount_number
amount_one (amounts.Given v) b e some = absurd (some refl)
amount_one (amounts.Refused n) (amounts.Given v) e some = absurd (some e)
amount_one (amounts.Refused n) (amounts.Refused m) e some = ap amounts.Refused e

summary_one : (a b : Summary) → summary_number a ≡ summary_number b → (summary_number a ≡ 0 → ⊥) → a ≡ b
unfolding summary_number
summary_one (summaries.Given x y z) b e some = absurd (some refl)
summary_one (summaries.Refused n) (summaries.Given x y z) e some = absurd (some e)
summary_one (summaries.Refused n) (summaries.Refused m) e some = ap summaries.Refused e

-- of a call that takes names: with 7 the place is the one where the name is wrong
named_one : (names : Names) (a b : AnsweredTo names) → named_number names a ≡ named_number names b → NamedCarries names a → NamedCarries names b → a ≡ b
unfolding named_number NamedCarries
named_one (call.one name) answered.Done answered.Done e p q = refl
named_one (call.one name) answered.Done (answered.Refused n) e p q = absurd (q.0 (sym e))
named_one (call.one name) answered.Done (answered.Misnamed there) e p q = absurd (omega (arith, e))
named_one (call.one name) (answered.Refused n) answered.Done e p q = absurd (p.0 e)
named_one (call.one name) (answered.Refused n) (answered.Refused m) e p q = ap answered.Refused e
named_one (call.one name) (answered.Refused n) (answered.Misnamed there) e p q = absurd (p.1 e)
named_one (call.one name) (answered.Misnamed here) answered.Done e p q = absurd (omega (arith, e))
named_one (call.one name) (answered.Misnamed here) (answered.Refused m) e p q = absurd (q.1 (sym e))
named_one (call.one name) (answered.Misnamed here) (answered.Misnamed there) e p q = ap answered.Misnamed (wrong_one name here there p q)
named_one (call.both old new) renames.Done renames.Done e p q = refl
named_one (call.both old new) renames.Done (renames.Refused n) e p q = absurd (q.0 (sym e))
named_one (call.both old new) renames.Done (renames.OldMisnamed there) e p q = absurd (omega (arith, e))
named_one (call.both old new) renames.Done (renames.NewMisnamed there) e p q = absurd (omega (arith, e))
named_one (call.both old new) (renames.Refused n) renames.Done e p q = absurd (p.0 e)
named_one (call.both old new) (renames.Refused n) (renames.Refused m) e p q = ap renames.Refused e
named_one (call.both old new) (renames.Refused n) (renames.OldMisnamed there) e p q = absurd (p.1 e)
named_one (call.both old new) (renames.Refused n) (renames.NewMisnamed there) e p q = absurd (p.1 e)
named_one (call.both old new) (renames.OldMisnamed here) renames.Done e p q = absurd (omega (arith, e))
named_one (call.both old new) (renames.OldMisnamed here) (renames.Refused m) e p q = absurd (q.1 (sym e))
named_one (call.both old new) (renames.OldMisnamed here) (renames.OldMisnamed there) e p q = ap renames.OldMisnamed (wrong_one old here there p q)
named_one (call.both old new) (renames.OldMisnamed here) (renames.NewMisnamed there) e p q = absurd (wrong_unnamed old here p q.0)
named_one (call.both old new) (renames.NewMisnamed here) renames.Done e p q = absurd (omega (arith, e))
named_one (call.both old new) (renames.NewMisnamed here) (renames.Refused m) e p q = absurd (q.1 (sym e))
named_one (call.both old new) (renames.NewMisnamed here) (renames.OldMisnamed there) e p q = absurd (wrong_unnamed old there q p.0)
named_one (call.both old new) (renames.NewMisnamed here) (renames.NewMisnamed there) e p q = ap renames.NewMisnamed (wrong_one new here there p.1 q.1)

loaded_one : (name : List ℕ) (a b : NamedAmount) → loaded_number a ≡ loaded_number b → (loaded_number a ≡ 0 → ⊥) → LoadCarries name a → LoadCarries name b → a ≡ b
unfolding loaded_number LoadCarries
loaded_one name (loads.Given v) b e some p q = absurd (some refl)
loaded_one name (loads.Refused n) (loads.Given v) e some p q = absurd (some e)
loaded_one name (loads.Refused n) (loads.Refused m) e some p q = ap loads.Refused e
loaded_one name (loads.Refused n) (loads.Misnamed there) e some p q = absurd (p.1 e)
loaded_one name (loads.Misnamed here) (loads.Given v) e some p q = absurd (some e)
loaded_one name (loads.Misnamed here) (loads.Refused m) e some p q = absurd (q.1 (sym e))
loaded_one name (loads.Misnamed here) (loads.Misnamed there) e some p q = ap loads.Misnamed (wrong_one name here there p q)

-- a refusal, by the form of the answer
refused_one : (form : Form) (a b : Answered form) → number_in form a ≡ number_in form b → (number_in form a ≡ 0 → ⊥) → Carries form a → Carries form b → a ≡ b
refused_one call.number a b e some p q = e
refused_one call.answer a b e some p q = answer_one a b e p q
refused_one call.amount a b e some p q = amount_one a b e some
refused_one call.summary a b e some p q = summary_one a b e some
refused_one call.row a b e some p q =
    entry_one a b (answer_one a.answer b.answer e p.0 q.0) (p.1 (not_done a.answer some) ∙ sym (q.1 (not_done b.answer (λ z. some (e ∙ z)))))
refused_one (call.named names) a b e some p q = named_one names a b e p q
refused_one (call.loaded name) a b e some p q = loaded_one name a b e some p q

-- a look that was done, by what it shows
free_one : (layout : Layout) (image : List ℕ) (a b : ℕ) → FreeIs layout image a → FreeIs layout image b → a ≡ b
free_one layout image a b one two = omega (arith, one.is, two.is)

shown_one : (layout : Layout) {form : Form} (look : Look form) (buffer image : List ℕ) → Sound layout image → (r r' : Result form) → number_in form r.answer ≡ number_in form r'.answer
    → Carries form r.answer → Carries form r'.answer → Shows layout look buffer image r → Shows layout look buffer image r' → (r.answer ≡ r'.answer) × (r.buffer ≡ r'.buffer)
unfolding Shows
shown_one layout call.judge buffer image is r r' e p q s t = (e, s ∙ sym t)
shown_one layout call.free_count buffer image is r r' e p q s t =
    (s.0.is ∙ ap amounts.Given (free_one layout image s.0.free t.0.free s.0.count t.0.count) ∙ sym t.0.is, s.1 ∙ sym t.1)
shown_one layout call.summarize buffer image is r r' e p q s t = (
  s.0.is ∙ ap (summaries.Given (sector_count image) (length (together (catalogues layout image)))) (free_one layout image s.0.free t.0.free s.0.count t.0.count) ∙ sym t.0.is,
  s.1 ∙ sym t.1,
)
shown_one layout (call.entry directory place) buffer image is r r' e p q s t = (s.0 ∙ sym t.0, s.1 ∙ sym t.1)
shown_one layout (call.read directory name offset) buffer image is r r' e p q s t = (named_one (call.one name) r.answer r'.answer e p q, s ∙ sym t)
shown_one layout (call.load directory name) buffer image is r r' e p q s t = (s.0 ∙ sym t.0, s.1 ∙ sym t.1)
shown_one layout (call.list directory) buffer image is r r' e p q s t =
    let same = lists_one layout image (index_at layout image directory) s.text t.text s.lists t.lists in
    (s.is ∙ rw same (sym t.is), s.put ∙ rw same (sym t.put))
shown_one layout call.pack buffer image is r r' e p q s t = (answer_one r.answer r'.answer e p q, packs_one layout image r.buffer r'.buffer is s.1 t.1)

-- nothing is lent where nothing is put
nothing_one : (a b : List ℕ) → length a ≡ 0 → length b ≡ 0 → a ≡ b
nothing_one [] [] e f = refl
nothing_one [] (x ∷ b) e f = absurd (omega (arith, f))
nothing_one (x ∷ a) b e f = absurd (omega (arith, e))

module _ (layout : Layout) (v w : Version) (meets : Demand2 layout v) (meets' : Demand2 layout w) (image : List ℕ) where
  number_one : (c : Call) → number_of v c image ≡ number_of w c image
  number_one c = first_one (number_of v c image) (number_of w c image) (grounds (rule_of layout c) c image) (meets.progress c image) (meets'.progress c image)

  result_one : (c : Call) → (v c image).answer ≡ (w c image).answer → (v c image).buffer ≡ (w c image).buffer → (v c image).image ≡ (w c image).image → (v c image).order ≡ (w c image).order → v c image ≡ w c image
  result_one c = same_result (form_of c) (v c image).answer (w c image).answer (v c image).buffer (w c image).buffer (v c image).image (w c image).image (v c image).order (w c image).order

  refused : (c : Call) → (number_of v c image ≡ 0 → ⊥) → v c image ≡ w c image
  refused c some =
      let first = meets.refuses c image some in
      let second = meets'.refuses c image (λ zero. some (number_one c ∙ zero)) in
      result_one c (refused_one (form_of c) (v c image).answer (w c image).answer (number_one c) some (meets.carries c image) (meets'.carries c image))
      (first.1 ∙ sym second.1) (first.0 ∙ sym second.0) (first.2 ∙ sym second.2)

  done : (c : Call) → number_of v c image ≡ 0 → v c image ≡ w c image
  unfolding grounds Means Frame Unlisted
  done (call.look {form} look buffer) zero =
      let c = call.look look buffer in
      let is = done_sound layout image (number_of v c image) (look_grounds layout look buffer image) zero (meets.progress c image) in
      let shown =
      shown_one layout look buffer image is (v c image) (w c image) (number_one c) (meets.carries c image) (meets'.carries c image)
      (meets.means c image is zero) (meets'.means c image is (sym (number_one c) ∙ zero))
      in
      result_one c shown.0 shown.1 (meets.frame c image is ∙ sym (meets'.frame c image is)) (meets.unlisted c image ∙ sym (meets'.unlisted c image))
  done (call.change directory name change) zero =
      let c = call.change directory name change in
      let rule = change_rule layout change in
      let i = index_at rule image directory in
      let is = done_sound rule image (number_of v c image) _ zero (meets.progress c image) in
      let there = directory_there rule directory name change image (number_of v c image) zero (meets.progress c image) in
      let first = meets.means c image is zero in
      let second = meets'.means c image is (sym (number_one c) ∙ zero) in
      result_one c (named_one (names_of name change) (v c image).answer (w c image).answer (number_one c) (meets.carries c image) (meets'.carries c image))
      (nothing_one (v c image).buffer (w c image).buffer (meets.lengths c image).1 (meets'.lengths c image).1)
      (touches_one rule image (v c image).image (w c image).image i name _ first.0 second.0 is there change (v c image).order (w c image).order first.1 second.1)
      (orders_one rule image (v c image).image (w c image).image i name is there change (v c image).order (w c image).order first.1 second.1)
  done call.repair zero =
      let c = call.repair in
      let first = meets.mends image zero in
      let second = meets'.mends image (sym (number_one c) ∙ zero) in
      result_one c (answer_one (v c image).answer (w c image).answer (number_one c) (meets.carries c image) (meets'.carries c image))
      (nothing_one (v c image).buffer (w c image).buffer (meets.lengths c image).1 (meets'.lengths c image).1)
      (mends_one layout image (v c image).image (w c image).image (v c image).order (w c image).order first second) (first.writes ∙ sym second.writes)
  done (call.format n name geometry) zero =
      let c = call.format n name geometry in
      let first = meets.formats n name geometry image zero in
      let second = meets'.formats n name geometry image (sym (number_one c) ∙ zero) in
      result_one c (named_one (call.one name) (v c image).answer (w c image).answer (number_one c) (meets.carries c image) (meets'.carries c image))
      (nothing_one (v c image).buffer (w c image).buffer (meets.lengths c image).1 (meets'.lengths c image).1)
      (formats_one n name geometry (v c image).image (w c image).image ((meets.lengths c image).0 ∙ sym (meets'.lengths c image).0) first.1 second.1) (meets.unlisted c image ∙ sym (meets'.unlisted c image))

pub one_version : (layout : Layout) → OneVersion layout
unfolding OneVersion
one_version layout v w meets meets' c image =
    elim (ℕ_discrete (number_of v c image) 0) [
      | yes zero ↦ done layout v w meets meets' image c zero
      | no some ↦ refused layout v w meets meets' image c some
    ]

pub only_ours : (layout : Layout) → OnlyOurs layout
unfolding OneVersion OnlyOurs
only_ours layout v meets = one_version layout v (ours layout) meets (demand2 layout)

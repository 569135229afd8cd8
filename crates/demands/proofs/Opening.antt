-- Numbers 7, 8 and 9, after the faults of the image: the name is none, there is no such directory, no file of it has the name, or one has. On a sound volume the names differ, so what a ground says of the file of
-- that name is said of the one that the search found.
use mathlib.Core.Path.{◌≡◌, refl, sym, ap, subst, ◌∙◌}
use mathlib.Core.Bool.{Bool, true}
use mathlib.Core.List.{List, ◌∷◌, ◌++◌}
use mathlib.Core.Logic.{inl, inr}
use Prim.Native.Nat.{ℕ, ◌≤◌}
use native.Mathlib.Decide.{ℕ_discrete}
use Rattle.rules.specs.Name.{wrong_place, IsName}
use Rattle.rules.specs.Map.{count}
use Rattle.rules.specs.Volume.{index_at, files_in}
use Rattle.rules.specs.Verdict.{volume_tests, verdict}
use Rattle.rules.specs.Sound.{IsIndexed, Sound}
use Rattle.rules.specs.Opening.{find_in, in_directory, on_sound, under_name}
use Rattle.rules.specs.declared.Layout.{Layout}
use Rattle.std.specs.Prelude.{None}
use Rattle.rules.specs.Answers.Opened.{Opened}
use Rattle.rules.specs.Answers.Opened.{At, Absent, Refused, Misnamed}
use Rattle.rules.proofs.Tests.{absurd_test}
use Rattle.rules.proofs.Name.{name_is}
use Rattle.rules.proofs.Misnamed.{none_rule, place_wrong, wrong_unnamed}
use Rattle.rules.proofs.Verdict.{sound}
use Rattle.rules.proofs.Indexes.{directory_indexed}
use Rattle.rules.proofs.Outcome.{wrong_cases}
use Rattle.rules.proofs.Opening.{IsOpened, on_sound_lem, on_unsound, was_looked, find_looks, found_is, unfound, absent_index, in_none, in_there}
use Rattle.rules.proofs.Listed.{listed_name, opened_listed}
use Rattle.demands.specs.Grounds.{Ground, ground, First, faults, nowhere, Has, Present}
use Rattle.demands.proofs.Deciding.{Decides, first_after}
use Rattle.demands.proofs.Faults.{faults_decided}

-- what holds of the file that was found
module _ (layout : Layout) (image name : List ℕ) (i p k : ℕ) (o : IsOpened layout image name i p k) (holds : ℕ → Type 0) where
  abbrev listed : 1 ≤ count k (files_in image i)
  listed = opened_listed layout image name i p k o

  found_has : holds k → Has image i name holds
  found_has so = record { sector = k; listed = listed; named = sym o.named; so = so }

  has_found : Has image i name holds → holds k
  has_found has =
      let e = listed_name layout image o.whole i o.indexed has.sector k has.listed listed (has.named ∙ o.named) in
      rw e at has.so

  -- so a test of that file decides it
  pub of_file : {met : Bool} → Decides met (holds k) → Decides met (Has image i name holds)
  of_file decides = record { yes_there = λ e. found_has (decides.yes_there e); not_there = λ e has. decides.not_there e (has_found has) }

-- 7: of a name that a call takes
abbrev pub unnamed : List ℕ → Ground
unnamed name = ground 7 (IsName name → ⊥)

-- in the order in which a call tests; `result` is the number that it makes of what was opened
pub name_first : (result : Opened → ℕ) (name : List ℕ) (looked : Opened) (more : List {1} Ground) → ((place : ℕ) → result (Misnamed place) ≡ 7) → (wrong_place name ≡ None → First (result looked) more)
    → First (result (under_name name looked)) (unnamed name ∷ more)
unfolding First under_name
name_first result name looked more seven passed =
    wrong_cases (λ o. First (result o) (unnamed name ∷ more)) (wrong_place name) Misnamed looked
    (λ place there. inl (wrong_unnamed name place (place_wrong name place there), seven place))
    (λ none. inr ((λ other. other (name_is name (none_rule name none))), passed none))

module _ (layout : Layout) (result : Opened → ℕ) where
  pub sound_first : (image : List ℕ) (looked : Opened) (more : List {1} Ground) → ((number : ℕ) → result (Refused number) ≡ number) → (Sound layout image → First (result looked) more)
      → First (result (on_sound layout image looked)) (faults layout image ++ more)
  unfolding verdict
  sound_first image looked more refused passed =
      first_after (volume_tests layout image) (faults layout image) more (result (on_sound layout image looked)) (faults_decided layout image)
      (λ some. rw (on_unsound layout image looked some) (refused (verdict layout image))) (λ zero. rw (on_sound_lem layout image looked zero) (passed (sound layout image zero)))

  -- 8: there is no such directory
  pub directory_first : (image : List ℕ) (directory : ℕ) (name : List ℕ) (more : List {1} Ground) → result (Refused 8) ≡ 8
      → (IsIndexed layout image (index_at layout image directory) → First (result (find_in image (index_at layout image directory) name)) more)
      → First (result (in_directory layout image directory name)) (nowhere layout image directory ∷ more)
  unfolding First
  directory_first image directory name more eight passed =
      elim (ℕ_discrete (index_at layout image directory) 0) [
        | yes none ↦ inl (none, ap result (in_none layout image directory name none) ∙ eight)
        | no some ↦ inr (some, subst (λ (o : Opened). First (result o) more) (sym (in_there layout image directory name some)) (passed (directory_indexed layout image directory some)))
      ]

  -- what a search in index i finds, or not
  module _ (image : List ℕ) (i : ℕ) (name : List ℕ) (is : Sound layout image) (indexed : IsIndexed layout image i) (kept : wrong_place name ≡ None) (more : List {1} Ground) where
    unseen : (o : Opened) → find_in image i name ≡ o → was_looked o ≡ true
    unseen o e = rw (← e) (find_looks image i name)

    -- 8: the name is not found
    pub absent_first : ((h : ℕ) → result (Absent h) ≡ 8) → ((p k : ℕ) → IsOpened layout image name i p k → First (result (At i p k)) more)
        → First (result (find_in image i name)) (ground 8 (Present image i name → ⊥) ∷ more)
    unfolding First was_looked
    absent_first eight found = go (find_in image i name) refl
      where
        go : (o : Opened) → find_in image i name ≡ o → First (result o) (ground 8 (Present image i name → ⊥) ∷ more)
        go (At h p k) e =
            let f = found_is layout image name i h p k is indexed kept e in
            inr ((λ absent. absent (found_has layout image name i p k f.1 (λ j. Unit {0}) tt)), subst (λ (j : ℕ). First (result (At j p k)) more) f.0 (found p k f.1))
        go (Absent h) e = inl ((λ there. unfound image i name (rw (← absent_index image i name h e) at e) there.sector there.listed there.named), eight h)
        go (Refused number) e = absurd_test (sym (unseen (Refused number) e))
        go (Misnamed place) e = absurd_test (sym (unseen (Misnamed place) e))

    -- 9: the name is found
    pub present_first : ((h p k : ℕ) → result (At h p k) ≡ 9) → (find_in image i name ≡ Absent i → First (result (Absent i)) more)
        → First (result (find_in image i name)) (ground 9 (Present image i name) ∷ more)
    unfolding First was_looked
    present_first nine absent = go (find_in image i name) refl
      where
        go : (o : Opened) → find_in image i name ≡ o → First (result o) (ground 9 (Present image i name) ∷ more)
        go (At h p k) e = let f = found_is layout image name i h p k is indexed kept e in inl (found_has layout image name i p k f.1 (λ j. Unit {0}) tt, nine h p k)
        go (Absent h) e =
            let same = absent_index image i name h e in
            let e' = rw (← same) at e in
            inr ((λ there. unfound image i name e' there.sector there.listed there.named), subst (λ (j : ℕ). First (result (Absent j)) more) same (absent e'))
        go (Refused number) e = absurd_test (sym (unseen (Refused number) e))
        go (Misnamed place) e = absurd_test (sym (unseen (Misnamed place) e))

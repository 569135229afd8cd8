-- The file that a call names: at a place of an index, absent from it, or not looked for, with the number of the refusal or the place where the name is wrong; and what a call makes of that.
use Rattle.std.specs.Prelude.{cond, List, [], ◌∷◌, ℕ, ◌+◌, eqb}
use Rattle.rules.specs.Bytes.{same}
use Rattle.rules.specs.Name.{wrong_place}
use Rattle.rules.specs.Volume.{index_at, files_in, name_in}
use Rattle.rules.specs.Tests.{unless_met}
use Rattle.rules.specs.Verdict.{volume_tests, verdict}
use Rattle.rules.specs.Outcome.{Report, refuses, Outcome, refusal, if_wrong}
use Rattle.rules.specs.declared.Layout.{Layout}
use Rattle.rules.specs.Answers.Opened.{Opened}
use Rattle.rules.specs.Answers.Opened.{At, Absent, Refused, Misnamed}

-- the file of that name among the files ks of index i, the first of which is at place p of the catalogue
unfoldable pub find_from : List ℕ → ℕ → List ℕ → ℕ → List ℕ → Opened
find_from image i name p [] = Absent i
find_from image i name p (k ∷ ks) = cond (same name (name_in image k)) (At i p k) (find_from image i name (p + 1) ks)

unfoldable pub find_in : List ℕ → ℕ → List ℕ → Opened
find_in image i name = find_from image i name 0 (files_in image i)

-- it is looked for in the index of a directory: 8 where there is none of that number
unfoldable pub in_directory : Layout → List ℕ → ℕ → List ℕ → Opened
in_directory layout image directory name =
    let i = index_at layout image directory in
    cond (eqb i 0) (Refused 8) (find_in image i name)

-- on a sound volume
unfoldable pub on_sound : Layout → List ℕ → Opened → Opened
on_sound layout image looked = unless_met (volume_tests layout image) looked (Refused (verdict layout image))

-- and under a name that keeps the rule
unfoldable pub under_name : List ℕ → Opened → Opened
under_name name looked = if_wrong (wrong_place name) Misnamed looked

unfoldable pub open_of : Layout → List ℕ → ℕ → List ℕ → Opened
open_of layout image directory name = on_sound layout image (under_name name (in_directory layout image directory name))

-- a reading call on that file, by its descriptor's sector; 8 where there is none
unfoldable pub on_file : Opened → (ℕ → Report) → Report
on_file (At i p k) reading = reading k
on_file (Absent i) reading = refuses 8
on_file (Refused number) reading = refuses number
on_file (Misnamed place) reading = refuses 7

-- a change of that file, by the sectors of its index and its descriptor
unfoldable pub changing : Opened → (ℕ → ℕ → Outcome) → Outcome
changing (At i p k) change = change i k
changing (Absent i) change = refusal 8
changing (Refused number) change = refusal number
changing (Misnamed place) change = refusal 7

-- a call that takes a new name, by the sector of the index: 9 where it is present
unfoldable pub adding : Opened → (ℕ → Outcome) → Outcome
adding (At i p k) addition = refusal 9
adding (Absent i) addition = addition i
adding (Refused number) addition = refusal number
adding (Misnamed place) addition = refusal 7

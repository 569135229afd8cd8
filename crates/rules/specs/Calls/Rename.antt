-- Renaming changes the ten name bytes and the order in its index. Both names are tested for 7 first; 9 also where the new name is the old one. By the rule with marks the file is marked.
use Rattle.std.specs.Prelude.{List, [], ◌∷◌, ℕ}
use Rattle.rules.specs.Bytes.{splice}
use Rattle.rules.specs.Sectors.{sector_of}
use Rattle.rules.specs.Kind.{is_protected}
use Rattle.rules.specs.Descriptor.{status_of, marked_by}
use Rattle.rules.specs.Index.{index_of, without}
use Rattle.rules.specs.Volume.{files_in, placed}
use Rattle.rules.specs.Tests.{Test, refuse}
use Rattle.rules.specs.Outcome.{Outcome, write, tested}
use Rattle.rules.specs.Opening.{find_in, in_directory, on_sound, under_name, changing, adding}
use Rattle.rules.specs.declared.Layout.{Layout}
use Rattle.rules.specs.Answers.Opened.{Opened}

-- of the file at k
unfoldable pub rename_tests : List ℕ → ℕ → List Test
rename_tests image k = refuse 10 (is_protected (status_of (sector_of image k))) ∷ []

-- where no file of its index i has the new name
unfoldable pub renaming_in : Layout → List ℕ → List ℕ → ℕ → ℕ → Outcome
renaming_in layout image new k i =
    tested (rename_tests image k)
    (write k (splice (marked_by layout (sector_of image k)) 0 new) ∷ (write i (index_of (placed image new k (without k (files_in image i)))) ∷ []))

unfoldable pub renaming : Layout → List ℕ → List ℕ → ℕ → ℕ → Outcome
renaming layout image new i k = adding (find_in image i new) (renaming_in layout image new k)

-- the old name is tested wholly before the new one, and both before the file is looked for
unfoldable pub open_both : Layout → List ℕ → ℕ → List ℕ → List ℕ → Opened
open_both layout image directory old new = on_sound layout image (under_name old (under_name new (in_directory layout image directory old)))

unfoldable pub rename_of : Layout → List ℕ → ℕ → List ℕ → List ℕ → Outcome
rename_of layout image directory old new = changing (open_both layout image directory old new) (renaming layout image new)

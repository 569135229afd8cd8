-- A catalogue entry gives the 28 header bytes, and a row: name, kind, sectors, protection. Places count from 0 in name order, in each directory.
use Rattle.std.specs.Prelude.{◌≡◌, false, List, [], ◌∷◌, ◌++◌, ℕ, eqb, leb, ltb, length, replicate}
use Rattle.rules.specs.Sectors.{sector_of}
use Rattle.rules.specs.Kind.{is_protected}
use Rattle.rules.specs.Descriptor.{name_of, status_of, sectors_of, file_kind}
use Rattle.rules.specs.Volume.{index_at, files_in, header_in}
use Rattle.rules.specs.Sound.{file_at}
use Rattle.rules.specs.Tests.{Test, refuse, unless_met}
use Rattle.rules.specs.Verdict.{volume_tests}
use Rattle.rules.specs.Outcome.{Report, reported, AnswerSays}
use Rattle.rules.specs.declared.Layout.{Layout}
use Rattle.rules.specs.declared.Kind.TheVariants.{Program}
use Rattle.rules.specs.declared.Row.{Row}
use Rattle.rules.specs.Answers.Entry.{Entry}

unfoldable pub row_of : List ℕ → Row
row_of descriptor =
    record {
      name = name_of descriptor;
      kind = file_kind descriptor;
      sectors = sectors_of descriptor;
      protected = is_protected (status_of descriptor);
    }

-- beside a refusal
unfoldable pub no_row : Row
no_row = record { name = replicate 10 0; kind = Program 0; sectors = 0; protected = false }

-- of the file at a place of a directory, for a buffer of `room` bytes
unfoldable pub entry_tests : Layout → List ℕ → ℕ → ℕ → ℕ → List Test
entry_tests layout image directory place room =
    let i = index_at layout image directory in
    volume_tests layout image ++ (refuse 8 (eqb i 0) ∷ (refuse 8 (leb (length (files_in image i)) place) ∷ (refuse 15 (ltb room 28) ∷ [])))

abbrev pub entry_at : Layout → List ℕ → ℕ → ℕ → ℕ
entry_at layout image directory place = file_at image (index_at layout image directory) place

unfoldable pub entry_of : Layout → List ℕ → ℕ → ℕ → ℕ → Report
entry_of layout image directory place room = reported (entry_tests layout image directory place room) 0 (header_in image (entry_at layout image directory place))

unfoldable pub entry_row : Layout → List ℕ → ℕ → ℕ → ℕ → Row
entry_row layout image directory place room = unless_met (entry_tests layout image directory place room) (row_of (sector_of image (entry_at layout image directory place))) no_row

-- what the answer says, and the row beside it
pub record EntrySays (row : Row) (entry : Entry) (report : Report) : Type 0 where
  pub said : AnswerSays entry.answer report.number
  pub row_is : entry.row ≡ row

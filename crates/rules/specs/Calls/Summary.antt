-- The free count, and a volume's summary: disk name, n, file count, of all indexes together, and free count.
use Rattle.std.specs.Prelude.{◌≡◌, List, [], ℕ, length}
use Rattle.rules.specs.Bytes.{part}
use Rattle.rules.specs.Sectors.{sector_of, sector_count}
use Rattle.rules.specs.Map.{free_count}
use Rattle.rules.specs.Volume.{indexes, files_of}
use Rattle.rules.specs.Tests.{unless_met}
use Rattle.rules.specs.Verdict.{volume_tests, verdict}
use Rattle.rules.specs.Outcome.{Report, reported}
use Rattle.rules.specs.declared.Layout.{Layout}
use Rattle.rules.specs.Answers.Summary.{Summary}
use Rattle.rules.specs.Answers.Summary.{Given, Refused}

unfoldable pub free_count_of : Layout → List ℕ → Report
free_count_of layout image = reported (volume_tests layout image) (free_count (sector_of image 0)) []

-- the disk name goes into the lent array; the numbers stand in the answer
unfoldable pub summary_of : Layout → List ℕ → Report
summary_of layout image = reported (volume_tests layout image) 0 (part (sector_of image 0) 0 10)

unfoldable pub SummarySays : Layout → List ℕ → Summary → Report → Type 0
SummarySays layout image (Given sectors listed free) report =
    (report.number ≡ 0) × (sectors ≡ sector_count image) × (listed ≡ length (files_of image (indexes layout image))) × (free ≡ free_count (sector_of image 0))
SummarySays layout image (Refused refused) report = (refused ≡ report.number) × (report.number ≡ 0 → ⊥)

-- the one answer that says so
unfoldable pub summary_answer : Layout → List ℕ → Summary
summary_answer layout image =
    unless_met (volume_tests layout image) (Given (sector_count image) (length (files_of image (indexes layout image))) (free_count (sector_of image 0))) (Refused (verdict layout image))

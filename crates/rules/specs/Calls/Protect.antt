-- Protecting and unprotecting change only the 08 bit of the status, clearing a mark only the 10 bit; they may repeat. There is no clearing by the rule without marks: it goes by the rule with marks, whichever was chosen.
use Rattle.std.specs.Prelude.{List, [], ◌∷◌, ℕ, set}
use Rattle.rules.specs.Bytes.{with_bit}
use Rattle.rules.specs.Sectors.{sector_of}
use Rattle.rules.specs.Kind.{with_marks}
use Rattle.rules.specs.Descriptor.{status_of}
use Rattle.rules.specs.Outcome.{Outcome, write, done}
use Rattle.rules.specs.Opening.{open_of, changing}
use Rattle.rules.specs.declared.Layout.{Layout}

-- of the file at k, bit j of its status made `bit`
unfoldable pub setting_bit : ℕ → ℕ → List ℕ → ℕ → Outcome
setting_bit j bit image k =
    let descriptor = sector_of image k in
    done (write k (set descriptor 12 (with_bit (status_of descriptor) j bit)) ∷ [])

unfoldable pub set_bit_of : Layout → ℕ → ℕ → List ℕ → ℕ → List ℕ → Outcome
set_bit_of layout j bit image directory name = changing (open_of layout image directory name) (λ i k. setting_bit j bit image k)

abbrev pub protect_of : Layout → List ℕ → ℕ → List ℕ → Outcome
protect_of layout image directory name = set_bit_of layout 3 1 image directory name

abbrev pub unprotect_of : Layout → List ℕ → ℕ → List ℕ → Outcome
unprotect_of layout image directory name = set_bit_of layout 3 0 image directory name

abbrev pub clear_of : Layout → List ℕ → ℕ → List ℕ → Outcome
clear_of layout image directory name = set_bit_of (with_marks layout) 4 0 image directory name

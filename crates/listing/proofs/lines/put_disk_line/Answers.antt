-- `listing::lines::put_disk_line` meets its contract: three fields laid one behind the other, each with what ends it. Assumes nothing.
use mathlib.Core.Path.{◌≡◌}
use mathlib.Core.List.{List, [], ◌∷◌, ◌++◌, append_assoc}
use Prim.Native.Nat.{ℕ}
use Rattle.rules.specs.Bytes.{part}
use Rattle.rules.specs.Sectors.{sector_of, sector_count}
use Rattle.rules.specs.Map.{free_count}
use Rattle.rules.specs.Calls.Listing.{unpadded, decimal, disk_line}
use Rattle.line.proofs.LaidLaws.{laid_as, laid_then}
use Rattle.listing.proofs.lines.put_disk_line.Goals as goal

-- the three fields
line_is : (image sector0 name : List ℕ) (free : ℕ) → sector0 ≡ sector_of image 0 → name ≡ part sector0 0 10 → free ≡ free_count sector0
    → (unpadded name ++ (32 ∷ [])) ++ ((decimal (sector_count image) ++ (32 ∷ [])) ++ (decimal free ++ (10 ∷ []))) ≡ disk_line image
unfolding disk_line
line_is image sector0 name free s n f = rw (n, f, s) (simp append_assoc)

pub returns : goal.returns
returns c =
    let sector0 = c.sector_of-sector0.ensures in
    let line = laid_then c.put_name-named.ensures (laid_then c.put_number-counted.ensures c.put_number.ensures) in
    laid_as (line_is _ _ _ _ sector0 c.part.ensures c.free_count_of.ensures.0) line.short line

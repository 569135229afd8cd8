-- The lines of the files that are still to come are left, and go to `next`: at the start, a line further, and where no file is left.
use mathlib.Core.Path.{◌≡◌, ap}
use mathlib.Core.List.{List, [], ◌∷◌}
use Prim.Native.Nat.{ℕ, ◌+◌, ◌*◌, ◌≤◌}
use native.Mathlib.Omega.{arith}
use lib.ListN.{length}
use Rattle.rules.specs.Sectors.{sector_of}
use Rattle.rules.specs.Volume.{files_in}
use Rattle.rules.specs.Calls.Listing.{file_line, file_lines}
use Rattle.rules.specs.declared.Layout.{Layout}
use Rattle.rules.proofs.Index.{numbers_inside}
use Rattle.rules.proofs.Pieces.{Pieces, pieces_first, pieces_next, pieces_last}
use Rattle.rules.proofs.Sectors.{sector_short}
use Rattle.line.specs.Laid.{Laid}

pub record Ahead (layout : Layout) (image : List ℕ) (i : ℕ) (left before after : List ℕ) (at next : ℕ) : Type 0 where
  pub near : next + 65 * length left ≤ at + 8320
  pub pieces : Pieces (file_lines layout image (files_in image i)) before at (file_lines layout image left) after next

pub ahead_start : (layout : Layout) (image : List ℕ) (i : ℕ) (left text : List ℕ) (at : ℕ) → left ≡ files_in image i → Ahead layout image i left text text at at
unfolding files_in
ahead_start layout image i left text at e =
    rw e (record { near = omega (arith, numbers_inside (sector_of image i), sector_short image i); pieces = pieces_first _ text at })

pub ahead_step : {layout : Layout} {image left more before after later descriptor : List ℕ} {i at next further k : ℕ} → Ahead layout image i left before after at next → left ≡ k ∷ more
    → descriptor ≡ sector_of image k → Laid 65 after later next further (file_line layout descriptor) → Ahead layout image i more before later at further
unfolding file_lines
ahead_step {layout} {descriptor = descriptor} ahead here ed laid =
    record {
      near = omega (arith, ap length here, ahead.near, laid.ends, laid.short);
      pieces = pieces_next ahead.pieces (file_line layout descriptor) (rw (here, ed)) laid.left laid.ends;
    }

pub ahead_end : {layout : Layout} {image left before after : List ℕ} {i at next : ℕ} → Ahead layout image i left before after at next → left ≡ []
    → Laid 16640 before after at next (file_lines layout image (files_in image i))
unfolding file_lines
ahead_end ahead none =
    let all = pieces_last ahead.pieces (rw none) in
    record { left = all.0; ends = all.1; short = omega (arith, all.1, ahead.near) }

-- The bench table holds, and case M's listing is what the paper prints: both are computed with all else that is computed of case M.
use mathlib.Core.Path.{◌≡◌, refl}
use mathlib.Core.Bool.{true}
use mathlib.Core.List.{List, [], ◌∷◌}
use Prim.Native.Nat.{ℕ, zero, suc, ◌<◌}
use native.Mathlib.Omega.{arith}
use lib.ListN.{length, get_or}
use Rattle.rules.specs.Bytes.{same}
use Rattle.rules.specs.Calls.Listing.{listing_text}
use Rattle.rules.specs.declared.Layout.{Layout}
use Rattle.rules.proofs.Tests.{both}
use Rattle.rules.proofs.Bytes.{same_is}
use Rattle.rules.proofs.Formatted.{formatted_sector0}
use Rattle.demands.specs.CaseM.{case_m, printed, CaseListed}
use Rattle.demands.specs.Bench.{Case, disk_x, geometry, table_of, table, Bench}
use Rattle.demands.proofs.Computed.{holds, computed}

holds_at : (rows : List Case) (none : Case) → holds rows ≡ true → (p : ℕ) → p < length rows → (get_or rows p none).computed ≡ (get_or rows p none).printed
unfolding holds
holds_at [] none e p h = absurd (omega arith)
holds_at (row ∷ rows) none e zero h = same_is row.computed row.printed (both (same row.computed row.printed) (holds rows) e).0
holds_at (row ∷ rows) none e (suc p) h = holds_at rows none (both (same row.computed row.printed) (holds rows) e).1 p (omega arith)

pub case_listed : (layout : Layout) → CaseListed layout
unfolding CaseListed
case_listed layout = same_is (listing_text layout (case_m layout) 1) (printed layout) (computed layout).listed

-- of equal sectors
moved : (layout : Layout) (a a' b b' m : List ℕ) → a ≡ a' → b ≡ b' → holds (table_of layout a' b' m) ≡ true → holds (table_of layout a b m) ≡ true
moved layout a a' b b' m e f h = rw (e, f) h

table_holds : (layout : Layout) → holds (table layout) ≡ true
unfolding table
table_holds layout = moved layout _ _ _ _ (case_m layout) (formatted_sector0 35 disk_x geometry refl) (formatted_sector0 360 disk_x geometry refl) (computed layout).tabled

pub bench : (layout : Layout) → Bench layout
unfolding Bench
bench layout = holds_at (table layout) _ (table_holds layout)

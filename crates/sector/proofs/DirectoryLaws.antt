-- The indexes that are there, from a directory's number on: at the root, a directory further, and behind the last.
use mathlib.Core.Path.{◌≡◌, refl, sym, ap, ◌∙◌}
use mathlib.Core.Bool.{Bool, true, false}
use mathlib.Core.List.{List, [], ◌∷◌}
use Prim.Native.Nat.{ℕ, zero, suc, ◌+◌, ◌≤◌}
use native.Mathlib.Omega.{arith}
use native.Mathlib.Numerals.{add-one}
use lib.ListN.{length, drop, get_or, drop_of_length-le}
use Rattle.rules.specs.Directory.{entries}
use Rattle.rules.specs.Volume.{directories, index_at, present, indexes}
use Rattle.rules.specs.declared.Layout.{Layout}
use Rattle.rules.proofs.Indexes.{present_absent, present_there, root_first}
use Rattle.sector.specs.Directories.{indexes_from}

-- how many directories a layout has: the root, or the root and three
pub directories_two : (layout : Layout) (image : List ℕ) → layout.directories ≡ true → length (directories layout image) ≡ 4
unfolding directories entries
directories_two layout image second = rw second

pub directories_one : (layout : Layout) (image : List ℕ) → layout.directories ≡ false → length (directories layout image) ≡ 1
unfolding directories entries
directories_one layout image first = rw first

pub directories_few : (layout : Layout) (image : List ℕ) → length (directories layout image) ≤ 4
directories_few layout image = go layout.directories refl
  where
    go : (t : Bool) → layout.directories ≡ t → length (directories layout image) ≤ 4
    go true e = omega (arith, directories_two layout image e)
    go false e = omega (arith, directories_one layout image e)

pub from_root : (layout : Layout) (image : List ℕ) → indexes_from layout image 0 ≡ indexes layout image
unfolding indexes_from indexes
from_root layout image = refl

pub behind_root : (layout : Layout) (image : List ℕ) → indexes layout image ≡ 1 ∷ indexes_from layout image 1
unfolding indexes_from directories
behind_root layout image = root_first layout image

pub from_past : (layout : Layout) (image : List ℕ) (directory : ℕ) → length (directories layout image) ≤ directory → indexes_from layout image directory ≡ []
unfolding indexes_from present
from_past layout image directory past = ap present (drop_of_length-le (directories layout image) {i = directory} past)

present_step : (is : List ℕ) (d i : ℕ) → i ≡ get_or is d 0
    → (i ≡ 0 → present (drop d is) ≡ present (drop (suc d) is)) × ((i ≡ 0 → ⊥) → present (drop d is) ≡ i ∷ present (drop (suc d) is))
present_step [] zero i e = (λ none. refl, λ some. absurd (some e))
present_step [] (suc d) i e = (λ none. refl, λ some. absurd (some e))
present_step (j ∷ js) zero i e = (λ none. present_absent j js (sym e ∙ none), λ some. rw e (present_there j js (λ none. some (e ∙ none))))
present_step (j ∷ js) (suc d) i e = present_step js d i e

module _ (layout : Layout) (image : List ℕ) (directory i : ℕ) (is : i ≡ index_at layout image directory) where
  pub from_absent : i ≡ 0 → indexes_from layout image directory ≡ indexes_from layout image (directory + 1)
  unfolding indexes_from index_at
  from_absent = rw add-one (present_step (directories layout image) directory i is).0

  pub from_there : (i ≡ 0 → ⊥) → indexes_from layout image directory ≡ i ∷ indexes_from layout image (directory + 1)
  unfolding indexes_from index_at
  from_there = rw add-one (present_step (directories layout image) directory i is).1

-- What is left of the directories, from one on: a directory's index and those behind it, or nothing.
use mathlib.Core.Path.{◌≡◌, refl, ap, ◌∙◌}
use mathlib.Core.Logic.{◌⊎◌, inl, inr}
use mathlib.Core.List.{List, [], ◌∷◌}
use Prim.Native.Nat.{ℕ, ◌+◌, ◌≤◌, ◌<◌}
use native.Mathlib.Omega.{arith}
use native.Mathlib.Numerals.{add-one}
use native.Mathlib.Decide.{dec_lt}
use lib.ListN.{length, drop, drop_of_length-le, get_or-eq_default}
use lib.Seq.{drop-cons}
use Rattle.rules.specs.Volume.{directories, index_at}
use Rattle.rules.specs.declared.Layout.{Layout}
use Rattle.std.specs.Prelude.{Option, None, Some}
use Rattle.sector.specs.Directories.{some_index, indexes_from}
use Rattle.sector.proofs.DirectoryLaws.{directories_few, from_absent, from_there}
use Rattle.sector.proofs.IndexLaws.{there_none, there_some}

module _ (layout : Layout) (image : List ℕ) where
  abbrev pub left : ℕ → List ℕ
  left directory = drop directory (directories layout image)

  -- a directory's index and those behind it, or nothing from there on
  abbrev pub Here : ℕ → Type 0
  Here directory =
      ((left directory ≡ index_at layout image directory ∷ left (directory + 1)) × (directory < length (directories layout image)))
      ⊎ ((left directory ≡ []) × (left (directory + 1) ≡ []) × (index_at layout image directory ≡ 0))

  pub left_here : (directory : ℕ) → Here directory
  unfolding index_at
  left_here directory =
      let all = directories layout image in
      elim (dec_lt directory (length all)) [
        | yes inside ↦ inl (rw (add-one directory) (drop-cons all directory 0 inside), inside)
        | no past ↦ inr (drop_of_length-le all {i = directory} (omega arith), drop_of_length-le all {i = directory + 1} (omega arith), get_or-eq_default all 0 {n = directory} (omega arith))
      ]

  pub left_end : (directory : ℕ) → 4 ≤ directory → left directory ≡ []
  left_end directory past = drop_of_length-le (directories layout image) {i = directory} (omega (arith, directories_few layout image))

  -- what was found at a directory, by a number that is its own
  module _ (directory : ℕ) {number : ℕ} (same : number ≡ directory) {found : Option ℕ} (is : found ≡ some_index (index_at layout image number)) where
    own : found ≡ some_index (index_at layout image directory)
    own = is ∙ ap (λ (d : ℕ). some_index (index_at layout image d)) same

    pub found_here : {i : ℕ} → found ≡ Some i → indexes_from layout image directory ≡ i ∷ indexes_from layout image (directory + 1)
    found_here some = let there = there_some _ _ _ own some in from_there _ _ _ _ there.0 there.1

    pub found_none : found ≡ None → indexes_from layout image directory ≡ indexes_from layout image (directory + 1)
    found_none none = from_absent _ _ _ _ refl (there_none _ _ own none)

-- A directory in which a file is looked for refuses with 8 alone: there is no directory of that number.
use mathlib.Core.Path.{◌≡◌, sym, ◌∙◌}
use mathlib.Core.List.{List}
use Prim.Native.Nat.{ℕ}
use Rattle.rules.specs.Opening.{in_directory}
use Rattle.rules.specs.Refusal.{refused, refusal_number}
use Rattle.rules.specs.declared.Layout.{Layout}
use Rattle.rules.specs.declared.refusal.Refusal.{Refusal}
use Rattle.rules.specs.Answers.Opened.{Refused, Misnamed}
use Rattle.rules.proofs.Opening.{InDirectory, in_index, nowhere, directory_looked, directory_misnamed, find_refused}
use Rattle.rules.proofs.Refusals.{refused_cases, number_is}

module _ (layout : Layout) (image : List ℕ) (directory : ℕ) (name : List ℕ) where
  numbered : (number : ℕ) → Refused number ≡ in_directory layout image directory name → (number ≡ 8) × (in_directory layout image directory name ≡ Refused 8)
  numbered number e = go (directory_looked layout image directory name (Refused number) (sym e))
    where
      go : InDirectory layout image directory name (Refused number) → (number ≡ 8) × (in_directory layout image directory name ≡ Refused 8)
      go (in_index i is indexed looked) = absurd (find_refused image i name number looked)
      go (nowhere none eight) = (cc, sym e ∙ eight)

  pub lost_eight : (r : Refusal) → refused Misnamed Refused r ≡ in_directory layout image directory name → (refusal_number r ≡ 8) × (in_directory layout image directory name ≡ Refused 8)
  lost_eight r e =
      rw (number_is r)
      (refused_cases (λ opened number. opened ≡ in_directory layout image directory name → (number ≡ 8) × (in_directory layout image directory name ≡ Refused 8)) Misnamed Refused (λ place. 7) (λ number. number)
      (λ place e. absurd (directory_misnamed layout image directory name place (sym e))) numbered r e)

-- The sector of an index, of which 0 is none.
use mathlib.Core.Path.{◌≡◌, refl, sym, ◌∙◌}
use Prim.Native.Nat.{ℕ, zero, suc}
use native.Mathlib.Omega.{arith}
use Rattle.std.specs.Prelude.{Option, None, Some}
use Rattle.sector.specs.Directories.{some_index}

pub some_none : (i : ℕ) → i ≡ 0 → None ≡ some_index i
some_none i none = rw none

pub some_there : (i : ℕ) → (i ≡ 0 → ⊥) → Some i ≡ some_index i
some_there zero some = absurd (some refl)
some_there (suc less) some = refl

pub there_none : (i : ℕ) (found : Option ℕ) → found ≡ some_index i → found ≡ None → i ≡ 0
there_none zero found e none = refl
there_none (suc less) found e none = absurd (let z : ◌≡◌ {A = Option ℕ} (Some (suc less)) None = sym e ∙ none in cc)

pub there_some : (i k : ℕ) (found : Option ℕ) → found ≡ some_index i → found ≡ Some k → (k ≡ i) × (k ≡ 0 → ⊥)
there_some zero k found e some = absurd (let z : ◌≡◌ {A = Option ℕ} None (Some k) = sym e ∙ some in cc)
there_some (suc less) k found e some = let same : k ≡ suc less = cc in (same, λ z. omega (arith, same, z))

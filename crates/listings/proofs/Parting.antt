-- What parts a page from the one before it: nothing in front of the first, and one piece in front of any other. Assumes nothing.
use mathlib.Core.Path.{◌≡◌, sym, refl}
use mathlib.Core.Bool.{true, false}
use mathlib.Core.List.{List, [], ◌∷◌}
use Prim.Native.Nat.{ℕ}
use lib.ListN.{length}
use Rattle.rules.specs.Bytes.{splice}
use Rattle.rules.proofs.Splice.{splice_none}
use Rattle.listings.specs.Page.{parting_of}

pub none_laid : (page : List ℕ) → page ≡ splice page 0 (parting_of true)
unfolding parting_of
none_laid page = sym (splice_none _ _)

pub none_long : length (parting_of true) ≡ 0
unfolding parting_of
none_long = refl

pub one_laid : parting_of false ≡ 10 ∷ []
unfolding parting_of
one_laid = refl

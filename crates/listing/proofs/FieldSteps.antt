-- A name up to its first space, and one that has none.
use mathlib.Core.Path.{◌≡◌, refl, sym, ap, ◌∙◌}
use mathlib.Core.Bool.{Bool, true, false, cond, not}
use mathlib.Core.List.{List, [], ◌∷◌}
use Prim.Native.Nat.{ℕ, suc, ◌+◌}
use native.Mathlib.Omega.{arith}
use lib.Dec.{eqb, ltb}
use lib.ListN.{length, take}
use lib.Seq.{take_all}
use borrow.Author.Tests.{ltb-false}
use Rattle.std.specs.Prelude.{Option, None, Some, position}
use Rattle.std.specs.List.{position_or_len}
use Rattle.rules.specs.Calls.Listing.{unpadded}

abbrev end_of : List ℕ → ℕ
end_of name = position_or_len (λ (b : ℕ). eqb b 32) name

end_is : (name : List ℕ) → take (end_of name) name ≡ unpadded name
unfolding unpadded
end_is [] = refl
end_is (b ∷ name) = go (eqb b 32) (end_is name)
  where
    go : (t : Bool) → take (end_of name) name ≡ unpadded name → take (cond (not t) (1 + end_of name) 0) (b ∷ name) ≡ cond t [] (b ∷ unpadded name)
    go true more = refl
    go false more = let e : 1 + end_of name ≡ suc (end_of name) = omega arith in rw e (ap (λ (l : List ℕ). b ∷ l) more)

module _ (name : List ℕ) where
  pub name_end : (end : ℕ) → position (λ (b : ℕ). eqb b 32) name ≡ Some end → take end name ≡ unpadded name
  name_end end e = go (ltb (end_of name) (length name)) e
    where
      go : (t : Bool) → ◌≡◌ {A = Option ℕ} (cond t (Some (end_of name)) None) (Some end) → take end name ≡ unpadded name
      go true e = let same : end_of name ≡ end = cc in rw (← same) (end_is name)
      go false e = absurd (let z : ◌≡◌ {A = Option ℕ} None (Some end) = e in cc)

  pub name_whole : position (λ (b : ℕ). eqb b 32) name ≡ None → name ≡ unpadded name
  name_whole e = go (ltb (end_of name) (length name)) refl e
    where
      go : (t : Bool) → ltb (end_of name) (length name) ≡ t → ◌≡◌ {A = Option ℕ} (cond t (Some (end_of name)) None) None → name ≡ unpadded name
      go true is e = absurd (let z : ◌≡◌ {A = Option ℕ} (Some (end_of name)) None = e in cc)
      go false is e = sym (take_all (end_of name) name (ltb-false (end_of name) (length name) is)) ∙ end_is name

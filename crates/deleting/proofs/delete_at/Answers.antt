-- `deleting::delete_at` meets its contract: the sectors made are those of the definition, and they are written in its order. Assumes nothing.
use mathlib.Core.Path.{◌≡◌, refl, sym, ap, ◌∙◌}
use mathlib.Core.List.{List, [], ◌∷◌}
use Prim.Native.Nat.{ℕ, ◌*◌}
use Rattle.rules.specs.Bytes.{splice}
use Rattle.rules.specs.Kind.{is_protected}
use Rattle.rules.specs.Sectors.{Write, sectors_in, written, sector_of}
use Rattle.rules.specs.Map.{marked_all}
use Rattle.rules.specs.Descriptor.{status_of}
use Rattle.rules.specs.Index.{numbers, index_of, without}
use Rattle.rules.specs.Volume.{files_in, places_in}
use Rattle.rules.specs.Tests.{first_of, unless_met}
use Rattle.rules.specs.Outcome.{write}
use Rattle.rules.specs.Calls.Delete.{delete_tests, deleting}
use Rattle.rules.proofs.Outcome.{order_laid, refusal_meets, done_meets}
use Rattle.std.proofs.Common.{rules}
use Rattle.deleting.proofs.delete_at.Goals as goal
use Rattle.deleting.proofs.delete_at.Goals.{After-is_protected}

-- what is written, first the index and then sector 0
abbrev writes : List ℕ → ℕ → ℕ → List Write
writes image i k = write i (index_of (without k (files_in image i))) ∷ (write 0 (marked_all 0 (sector_of image 0) (k ∷ places_in image k)) ∷ [])

both : (image one two old new sector0 : List ℕ) (i k k' : ℕ) → k' ≡ k → old ≡ sector_of image i → new ≡ index_of (without k' (numbers old)) → sector0 ≡ marked_all 0 (sector_of image 0) (k ∷ places_in image k)
    → one ≡ splice image (256 * i) new → two ≡ splice one (256 * 0) sector0 → two ≡ written image (writes image i k)
unfolding written files_in
both image one two old new sector0 i k k' same there without-it marks first second = rw (second, first, marks, without-it, same, there)

protected_is : (c : After-is_protected) → c.is_protected.result ≡ is_protected (status_of (sector_of c.args.image.now c.args.k))
protected_is c = c.is_protected.ensures ∙ ap (λ (s : List ℕ). is_protected (status_of s)) c.descriptor_of.ensures

pub returns-then-is_protected : goal.returns-then-is_protected
unfolding deleting delete_tests first_of unless_met
returns-then-is_protected c =
    let test = sym (protected_is (goal.at.returns-then-is_protected c).After-is_protected) ∙ c.if-is_protected.true in
    let both = refusal_meets c.args.image.now c.args.changes.now _ 10 refl refl in
    record { meets = rw test both.0; order = rw test both.1 }

pub returns : goal.returns
unfolding deleting delete_tests first_of unless_met sectors_in
returns c =
    let a = c.args in
    let test = sym (protected_is (goal.at.returns c).After-is_protected) ∙ c.if-is_protected.false in
    let changed = writes a.image.now a.i a.k in
    let both = done_meets a.image.now _ _ changed _ _ refl
    (both _ _ _ _ _ _ _ _ _ c.from.ensures c.sector_of.ensures c.index_without.ensures c.map_without.ensures c.write_sector.ensures c.write_sector-2.ensures)
    (rw c.from-2.ensures at c.list.ensures ∙ order_laid _ changed (search rules)) in
    record { meets = rw test both.0; order = rw test both.1 }

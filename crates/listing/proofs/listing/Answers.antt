-- `listing::listing` meets its contract: 8 where the directory has no index; where there is no room the text still gives its length, and where it fits it is laid over the lent buffer. Assumes nothing.
use mathlib.Core.Path.{◌≡◌, sym, ap, ◌∙◌}
use mathlib.Core.List.{List}
use Prim.Native.Nat.{ℕ}
use native.Mathlib.Omega.{arith}
use lib.ListN.{length}
use Rattle.rules.specs.Bytes.{splice}
use Rattle.rules.specs.Volume.{index_at}
use Rattle.rules.specs.Verdict.{verdict}
use Rattle.rules.specs.Calls.Listing.{listing_text}
use Rattle.rules.proofs.Outcome.{amount_refused, amount_given}
use Rattle.rules.proofs.Listing.{listing_unsound, listing_nowhere, listing_narrow, listing_fits}
use Rattle.rules.proofs.Refusals.{fault_some, err_is, ok_there, err_absent}
use Rattle.sector.proofs.IndexLaws.{there_none, there_some}
use Rattle.listing.proofs.listing.Goals as goal
use Rattle.listing.proofs.listing.Goals.{After-put_listing-size, In_ok-i, In_ok-judge}

-- the image is sound; the directory's index, and that it is one; the length of its text
whole : (c : In_ok-judge) → verdict c.args.layout c.args.image.now ≡ 0
whole c = sym c.in_ok-judge.ensures

index_is : (c : In_ok-i) → let a = c.args in (c.in_ok-i.i ≡ index_at a.layout a.image.now a.directory) × (c.in_ok-i.i ≡ 0 → ⊥)
index_is c = there_some _ _ _ c.index_at.ensures (ok_there _ c.index_at.result c.in_ok-i.i c.in_ok-i.ensures.value)

there : (c : In_ok-i) → let a = c.args in index_at a.layout a.image.now a.directory ≡ 0 → ⊥
there c none = (index_is c).1 ((index_is c).0 ∙ none)

abbrev text : In_ok-i → List ℕ
text c = let a = c.args in listing_text a.layout a.image.now (index_at a.layout a.image.now a.directory)

text_is : (c : In_ok-i) → listing_text c.args.layout c.args.image.now c.in_ok-i.i ≡ text c
text_is c = ap (listing_text c.args.layout c.args.image.now) (index_is c).0

size_is : (c : After-put_listing-size) → c.put_listing-size.result ≡ length (text (goal.at.After-put_listing-size c).In_ok-i)
size_is c = omega (arith, c.put_listing-size.ensures.ends, ap length (text_is (goal.at.After-put_listing-size c).In_ok-i))

pub returns-in_err-judge : goal.returns-in_err-judge
returns-in_err-judge c =
    let a = c.args in
    let fault = c.in_err-judge.ensures in
    let some : verdict a.layout a.image.now ≡ 0 → ⊥ = λ z. fault_some c.in_err-judge.field-0.0 (fault ∙ z) in
    rw (err_is c.from_residual.result _ c.from_residual.ensures.1, fault) (amount_refused a.out.now _ (verdict a.layout a.image.now) some (listing_unsound a.layout a.image.now a.directory (length a.out.now) some))

pub returns-in_err-i : goal.returns-in_err-i
returns-in_err-i c =
    let a = c.args in
    let absent = err_absent _ c.index_at.result _ c.in_err-i.ensures.value in
    rw (err_is c.from_residual-in_err-i.result _ c.from_residual-in_err-i.ensures.1, absent.1)
    (amount_refused a.out.now _ 8 (λ z. omega arith) (listing_nowhere a.layout a.image.now a.directory (length a.out.now) (whole (goal.at.returns-in_err-i c).In_ok-judge) (there_none _ _ c.index_at.ensures absent.0)))

pub returns-then-size-out : goal.returns-then-size-out
returns-then-size-out c =
    let a = c.args in
    amount_refused a.out.now _ 15 (λ z. omega arith)
    (listing_narrow a.layout a.image.now a.directory (length a.out.now) (whole (goal.at.returns-then-size-out c).In_ok-judge) (there (goal.at.returns-then-size-out c).In_ok-i) (omega (arith, size_is (goal.at.returns-then-size-out c).After-put_listing-size, c.if-size-out.true)))

pub returns : goal.returns
returns c =
    let a = c.args in
    let fit = listing_fits a.layout a.image.now a.directory (length a.out.now) (whole (goal.at.returns c).In_ok-judge) (there (goal.at.returns c).In_ok-i) (omega (arith, size_is (goal.at.returns c).After-put_listing-size, c.if-size-out.false)) in
    let given = amount_given a.out.now _ _ _ fit in
    record { said = rw (size_is (goal.at.returns c).After-put_listing-size) given.said; left = c.put_listing.ensures.left ∙ ap (splice a.out.now 0) (text_is (goal.at.returns c).In_ok-i) ∙ given.left }

-- `repairing::examine` meets its contract: each way out gives the fault of the first test that failed, the tests before it having passed. What the marks say of the holders, and that where
-- none is held twice they are their map, are laws of the claims. Assumes nothing.
use mathlib.Core.Path.{◌≡◌, sym, ap, ◌∙◌}
use mathlib.Core.Bool.{true, ◌&&◌}
use mathlib.Core.List.{List, []}
use Prim.Native.Nat.{ℕ}
use native.Mathlib.Omega.{arith}
use borrow.Author.Tests.{eq-eqb, ne_eqb, le-leb, lt-leb}
use Rattle.rules.specs.Sectors.{sector_of, sector_count}
use Rattle.rules.specs.Label.{label_rule}
use Rattle.rules.specs.Directory.{entries, entries_rule}
use Rattle.rules.specs.Volume.{indexes, files_in, holders}
use Rattle.rules.specs.Verdict.{size_rule, held_twice}
use Rattle.rules.specs.Calls.Repair.{each_rule, distinct_rule}
use Rattle.rules.specs.declared.Layout.{Layout}
use Rattle.rules.proofs.Tests.{both}
use Rattle.rules.proofs.Indexes.{every_is}
use Rattle.rules.proofs.Verdict.{size_is}
use Rattle.rules.proofs.Repair.{each_is}
use Rattle.judge.specs.Claim.{Below, claims}
use Rattle.judge.proofs.VerdictSteps.{Entered, Indexed}
use Rattle.judge.proofs.ClaimLaws.{indexes_below, claims_ruled, claimed_twice, claimed_map}
use Rattle.repairing.proofs.RepairSteps.{Catalogued, Examined, other_size, other_label, other_entry, other_index, other_catalogue, two_holders, can_mend}
use Rattle.std.proofs.Common.{rules}
use Rattle.repairing.proofs.examine.Goals as goal
use Rattle.repairing.proofs.examine.Goals.{After-catalogues_rule, After-claim_holders, After-entries_rule, After-indexes_rule, After-label_rule, Else-n-gt1600, Else-not-catalogues_rule, Else-not-entries_rule, Else-not-indexes_rule, Else-not-label_rule}

-- the tests that have passed
sized : (c : Else-n-gt1600) → size_rule c.args.image.now ≡ true
unfolding size_rule
sized c = rw (eq-eqb _ _ c.if-image-ne0.false, le-leb _ _ c.if-n-lt3.false, le-leb _ _ c.if-n-gt1600.false)

label_is : (c : After-label_rule) → label_rule (sector_count c.args.image.now) (sector_of c.args.image.now 0) ≡ c.label_rule.result
label_is c = rw (← c.sector_in-sector0.ensures) (sym c.label_rule.ensures)

labelled : (c : Else-not-label_rule) → label_rule (sector_count c.args.image.now) (sector_of c.args.image.now 0) ≡ true
labelled c = label_is (goal.at.Else-not-label_rule c).After-label_rule ∙ c.if-not-label_rule.false

entries_is : (c : After-entries_rule) → Entered c.args.layout c.args.image.now c.entries_rule.result
entries_is c =
    sym (c.entries_rule.ensures ∙ ap (λ (sector0 : List ℕ). entries_rule (sector_count c.args.image.now) (entries c.args.layout sector0)) c.sector_in-sector0.ensures)

entered : (c : Else-not-entries_rule) → Entered c.args.layout c.args.image.now true
entered c = entries_is (goal.at.Else-not-entries_rule c).After-entries_rule ∙ c.if-not-entries_rule.false

indexes_is : (c : After-indexes_rule) → Indexed c.args.layout c.args.image.now c.indexes_rule.result
indexes_is c = sym c.indexes_rule.ensures

indexed : (c : Else-not-indexes_rule) → Indexed c.args.layout c.args.image.now true
indexed c = indexes_is (goal.at.Else-not-indexes_rule c).After-indexes_rule ∙ c.if-not-indexes_rule.false

catalogues_is : (c : After-catalogues_rule) → Catalogued c.args.layout c.args.image.now c.catalogues_rule.result
catalogues_is c = sym c.catalogues_rule.ensures

passed : (c : Else-not-catalogues_rule) → Examined c.args.layout c.args.image.now
passed c =
    record {
      sized = sized (goal.at.Else-not-catalogues_rule c).Else-n-gt1600;
      labelled = labelled (goal.at.Else-not-catalogues_rule c).Else-not-label_rule;
      entered = entered (goal.at.Else-not-catalogues_rule c).Else-not-entries_rule;
      indexed = indexed (goal.at.Else-not-catalogues_rule c).Else-not-indexes_rule;
      catalogued = catalogues_is (goal.at.Else-not-catalogues_rule c).After-catalogues_rule ∙ c.if-not-catalogues_rule.false;
    }

-- so all that is claimed lies below the end
below : (layout : Layout) (image : List ℕ) → Examined layout image → Below (sector_count image) (claims image (indexes layout image))
below layout image is =
    let n = sector_count image in
    claims_ruled layout image is.sized is.entered is.indexed
    (λ i among.
    let files = files_in image i in
    each_is layout n image files
    (both (each_rule layout n image files) (distinct_rule image [] files)
    (every_is (λ j. each_rule layout n image (files_in image j) && distinct_rule image [] (files_in image j)) (indexes layout image) is.catalogued i among)
    ).0)

-- what the claims gave, said of the holders
twice_is : (c : After-claim_holders) → held_twice (holders c.args.layout c.args.image.now) ≡ c.claim_holders.result
twice_is c =
    let is = passed (goal.at.After-claim_holders c).Else-not-catalogues_rule in
    claimed_twice _ _ _ c.lay_map.ensures is.sized (below _ _ is) _ c.claim_holders.ensures.value

pub returns-then-image-ne0 : goal.returns-then-image-ne0
unfolding size_rule
returns-then-image-ne0 c = record { value = sym (other_size _ _ (rw (ne_eqb _ _ c.if-image-ne0.true))); map_after = λ e. absurd (omega (arith, e)) }

pub returns-then-n-lt3 : goal.returns-then-n-lt3
unfolding size_rule
returns-then-n-lt3 c = record { value = sym (other_size _ _ (rw (eq-eqb _ _ c.if-image-ne0.false, lt-leb _ _ c.if-n-lt3.true))); map_after = λ e. absurd (omega (arith, e)) }

pub returns-then-n-gt1600 : goal.returns-then-n-gt1600
unfolding size_rule
returns-then-n-gt1600 c =
    record { value = sym (other_size _ _ (rw (eq-eqb _ _ c.if-image-ne0.false, le-leb _ _ c.if-n-lt3.false, lt-leb _ _ c.if-n-gt1600.true))); map_after = λ e. absurd (omega (arith, e)) }

pub returns-then-not-label_rule : goal.returns-then-not-label_rule
returns-then-not-label_rule c =
    record { value = sym (other_label _ _ (sized (goal.at.returns-then-not-label_rule c).Else-n-gt1600) (label_is (goal.at.returns-then-not-label_rule c).After-label_rule ∙ c.if-not-label_rule.true)); map_after = λ e. absurd (omega (arith, e)) }

pub returns-then-not-entries_rule : goal.returns-then-not-entries_rule
returns-then-not-entries_rule c =
    record { value = sym (other_entry _ _ (sized (goal.at.returns-then-not-entries_rule c).Else-n-gt1600) (labelled (goal.at.returns-then-not-entries_rule c).Else-not-label_rule) (entries_is (goal.at.returns-then-not-entries_rule c).After-entries_rule ∙ c.if-not-entries_rule.true)); map_after = λ e. absurd (omega (arith, e)) }

pub returns-then-not-indexes_rule : goal.returns-then-not-indexes_rule
returns-then-not-indexes_rule c =
    record { value = sym (other_index _ _ (sized (goal.at.returns-then-not-indexes_rule c).Else-n-gt1600) (labelled (goal.at.returns-then-not-indexes_rule c).Else-not-label_rule) (entered (goal.at.returns-then-not-indexes_rule c).Else-not-entries_rule) (indexes_is (goal.at.returns-then-not-indexes_rule c).After-indexes_rule ∙ c.if-not-indexes_rule.true)); map_after = λ e. absurd (omega (arith, e)) }

pub returns-then-not-catalogues_rule : goal.returns-then-not-catalogues_rule
returns-then-not-catalogues_rule c =
    record { value = sym (other_catalogue _ _ (sized (goal.at.returns-then-not-catalogues_rule c).Else-n-gt1600) (labelled (goal.at.returns-then-not-catalogues_rule c).Else-not-label_rule) (entered (goal.at.returns-then-not-catalogues_rule c).Else-not-entries_rule) (indexed (goal.at.returns-then-not-catalogues_rule c).Else-not-indexes_rule) (catalogues_is (goal.at.returns-then-not-catalogues_rule c).After-catalogues_rule ∙ c.if-not-catalogues_rule.true)); map_after = λ e. absurd (omega (arith, e)) }

pub sector_in-sector0-requires : goal.sector_in-sector0-requires
sector_in-sector0-requires c = let size = size_is c.args.image.now (sized (goal.at.sector_in-sector0-requires c).Else-n-gt1600) in omega (arith, size.0, size.1)

pub indexes_rule-requires : goal.indexes_rule-requires
indexes_rule-requires c =
    let s = sized (goal.at.indexes_rule-requires c).Else-n-gt1600 in
    ((size_is c.args.image.now s).0, indexes_below _ _ s (entered (goal.at.indexes_rule-requires c).Else-not-entries_rule))

pub catalogues_rule-requires : goal.catalogues_rule-requires
catalogues_rule-requires c =
    let s = sized (goal.at.catalogues_rule-requires c).Else-n-gt1600 in
    ((size_is c.args.image.now s).0, indexes_below _ _ s (entered (goal.at.catalogues_rule-requires c).Else-not-entries_rule), indexed (goal.at.catalogues_rule-requires c).Else-not-indexes_rule)

pub lay_map-requires : goal.lay_map-requires
lay_map-requires c = let size = size_is _ (passed (goal.at.lay_map-requires c).Else-not-catalogues_rule).sized in (search rules, omega (arith, size.1), size.2)

pub claim_holders-requires : goal.claim_holders-requires
claim_holders-requires c =
    let is = passed (goal.at.claim_holders-requires c).Else-not-catalogues_rule in
    ((size_is _ is.sized).2, below _ _ is)

pub returns-then-claim_holders : goal.returns-then-claim_holders
returns-then-claim_holders c = record { value = sym (two_holders _ _ (passed (goal.at.returns-then-claim_holders c).Else-not-catalogues_rule) (twice_is (goal.at.returns-then-claim_holders c).After-claim_holders ∙ c.if-claim_holders.true)); map_after = λ e. absurd (omega (arith, e)) }

pub returns : goal.returns
returns c =
    let is = passed (goal.at.returns c).Else-not-catalogues_rule in record { value = sym (can_mend _ _ is (twice_is (goal.at.returns c).After-claim_holders ∙ c.if-claim_holders.false)); map_after = λ e. claimed_map _ _ _ c.lay_map.ensures is.sized (below _ _ is) _ c.claim_holders.ensures.value c.if-claim_holders.false _ (c.claim_holders.ensures.marks_after c.if-claim_holders.false) (omega arith) }

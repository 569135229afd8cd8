-- `judge::judge` meets its contract: each way out gives the number of the first test that failed, the tests before it having passed. What the marks say of holders and map
-- are laws of the claims. Assumes nothing.
use mathlib.Core.Path.{◌≡◌, refl, sym, ap, ◌∙◌}
use mathlib.Core.Bool.{Bool, true}
use mathlib.Core.List.{List}
use Prim.Native.Nat.{ℕ, ◌%◌, ◌/◌, ◌≤◌}
use native.Mathlib.Omega.{arith}
use lib.ListN.{length, take}
use lib.Seq.{take_all}
use borrow.Author.Tests.{eq-eqb, ne_eqb, le-leb, lt-leb}
use Rattle.rules.specs.Bytes.{same}
use Rattle.rules.specs.Sectors.{sector_of, sector_count}
use Rattle.rules.specs.Label.{label_rule}
use Rattle.rules.specs.Map.{map_rule}
use Rattle.rules.specs.Directory.{entries, entries_rule}
use Rattle.rules.specs.Volume.{holders}
use Rattle.rules.specs.Verdict.{size_rule, held_twice}
use Rattle.rules.proofs.Verdict.{size_is}
use Rattle.judge.proofs.ClaimLaws.{indexes_below, claims_below, judged_twice, judged_map}
use Rattle.judge.proofs.VerdictSteps.{Entered, Indexed, Described, FourPassed, wrong_size, wrong_label, wrong_entry, wrong_index, wrong_descriptor, wrong_holders, wrong_map_lem, nothing_wrong}
use Rattle.judge.proofs.judge.Goals as goal
use Rattle.judge.proofs.judge.Goals.{After-catalogues_rule, After-claim_holders, After-entries_rule, After-indexes_rule, After-label_rule, After-same, Else-not-catalogues_rule, Else-not-entries_rule, Else-not-indexes_rule, Else-not-label_rule}

-- the tests that have passed
sized : (image : List ℕ) → length image % 256 ≡ 0 → 3 ≤ length image / 256 → length image / 256 ≤ 1600 → size_rule image ≡ true
unfolding size_rule
sized image whole least most = rw (eq-eqb (length image % 256) 0 whole, le-leb 3 (length image / 256) least, le-leb (length image / 256) 1600 most)

label_is : (c : After-label_rule) → label_rule (sector_count c.args.image.now) (sector_of c.args.image.now 0) ≡ c.label_rule.result
label_is c = rw (← c.sector_in-sector0.ensures) (sym c.label_rule.ensures)

labelled : (c : Else-not-label_rule) → label_rule (sector_count c.args.image.now) (sector_of c.args.image.now 0) ≡ true
labelled c = label_is (goal.at.Else-not-label_rule c).After-label_rule ∙ c.if-not-label_rule.false

entries_is : (c : After-entries_rule) → Entered c.args.layout c.args.image.now c.entries_rule.result
entries_is c =
    sym (c.entries_rule.ensures ∙ ap (λ (sector0 : List ℕ). entries_rule (sector_count c.args.image.now) (entries c.args.layout sector0)) c.sector_in-sector0.ensures)

entered : (c : Else-not-entries_rule) → Entered c.args.layout c.args.image.now true
entered c = entries_is (goal.at.Else-not-entries_rule c).After-entries_rule ∙ c.if-not-entries_rule.false

indexes_is : (c : After-indexes_rule) → Indexed c.args.layout c.args.image.now c.indexes_rule.result
indexes_is c = sym c.indexes_rule.ensures

indexed : (c : Else-not-indexes_rule) → Indexed c.args.layout c.args.image.now true
indexed c = indexes_is (goal.at.Else-not-indexes_rule c).After-indexes_rule ∙ c.if-not-indexes_rule.false

catalogues_is : (c : After-catalogues_rule) → Described c.args.layout c.args.image.now c.catalogues_rule.result
catalogues_is c = sym c.catalogues_rule.ensures

passed : (c : Else-not-catalogues_rule) → FourPassed c.args.layout c.args.image.now
passed c =
    record {
      sized = sized c.args.image.now (omega arith) (omega arith) (omega arith);
      labelled = labelled (goal.at.Else-not-catalogues_rule c).Else-not-label_rule;
      entered = entered (goal.at.Else-not-catalogues_rule c).Else-not-entries_rule;
      indexed = indexed (goal.at.Else-not-catalogues_rule c).Else-not-indexes_rule;
      described = catalogues_is (goal.at.Else-not-catalogues_rule c).After-catalogues_rule ∙ c.if-not-catalogues_rule.false;
    }

-- what the claims gave, said of the holders
twice_is : (c : After-claim_holders) → held_twice (holders c.args.layout c.args.image.now) ≡ c.claim_holders.result
twice_is c = judged_twice _ _ _ c.lay_map.ensures (passed (goal.at.After-claim_holders c).Else-not-catalogues_rule) _ c.claim_holders.ensures.value

long : (c : After-claim_holders) → length c.claim_holders.new.marks ≡ 200
long c = omega arith

-- by marks that are these
compared : (first : List ℕ) {said : Bool} {second marks : List ℕ} → said ≡ same first second → second ≡ marks → said ≡ same first marks
compared first is whole = is ∙ ap (same first) whole

map_is : (c : After-same) →
    map_rule (sector_count c.args.image.now) (holders c.args.layout c.args.image.now) (sector_of c.args.image.now 0) ≡ c.same.result
map_is c =
    let marks = long (goal.at.After-same c).After-claim_holders in
    let all : take 200 c.claim_holders.new.marks ≡ c.claim_holders.new.marks = take_all 200 _ (omega (arith, marks)) in
    sym (compared _ {marks = c.claim_holders.new.marks} c.same.ensures (cc)
    ∙ judged_map _ _ _ c.lay_map.ensures (passed (goal.at.After-same c).Else-not-catalogues_rule) _ c.claim_holders.ensures.value c.if-claim_holders.false _ (c.claim_holders.ensures.marks_after c.if-claim_holders.false) marks _ _
    c.part.ensures c.sector_in-sector0.ensures (λ i. omega (arith, c.type_inv.image i)))

pub returns-then-image-ne0 : goal.returns-then-image-ne0
unfolding size_rule
returns-then-image-ne0 c = sym (wrong_size _ _ (rw (ne_eqb _ _ c.if-image-ne0.true)))

pub returns-then-n-lt3 : goal.returns-then-n-lt3
unfolding size_rule
returns-then-n-lt3 c = sym (wrong_size _ _ (rw (eq-eqb _ _ c.if-image-ne0.false, lt-leb _ _ c.if-n-lt3.true)))

pub returns-then-n-gt1600 : goal.returns-then-n-gt1600
unfolding size_rule
returns-then-n-gt1600 c = sym (wrong_size _ _ (rw (eq-eqb _ _ c.if-image-ne0.false, le-leb _ _ c.if-n-lt3.false, lt-leb _ _ c.if-n-gt1600.true)))

pub returns-then-not-label_rule : goal.returns-then-not-label_rule
returns-then-not-label_rule c =
    sym (wrong_label _ _ (sized c.args.image.now (omega arith) (omega arith) (omega arith)) (label_is (goal.at.returns-then-not-label_rule c).After-label_rule ∙ c.if-not-label_rule.true))

pub returns-then-not-entries_rule : goal.returns-then-not-entries_rule
returns-then-not-entries_rule c =
    sym (wrong_entry _ _ (sized c.args.image.now (omega arith) (omega arith) (omega arith)) (labelled (goal.at.returns-then-not-entries_rule c).Else-not-label_rule) (entries_is (goal.at.returns-then-not-entries_rule c).After-entries_rule ∙ c.if-not-entries_rule.true))

pub returns-then-not-indexes_rule : goal.returns-then-not-indexes_rule
returns-then-not-indexes_rule c =
    sym (wrong_index _ _ (sized c.args.image.now (omega arith) (omega arith) (omega arith)) (labelled (goal.at.returns-then-not-indexes_rule c).Else-not-label_rule) (entered (goal.at.returns-then-not-indexes_rule c).Else-not-entries_rule) (indexes_is (goal.at.returns-then-not-indexes_rule c).After-indexes_rule ∙ c.if-not-indexes_rule.true))

pub returns-then-not-catalogues_rule : goal.returns-then-not-catalogues_rule
returns-then-not-catalogues_rule c =
    sym (wrong_descriptor _ _ (sized c.args.image.now (omega arith) (omega arith) (omega arith)) (labelled (goal.at.returns-then-not-catalogues_rule c).Else-not-label_rule) (entered (goal.at.returns-then-not-catalogues_rule c).Else-not-entries_rule) (indexed (goal.at.returns-then-not-catalogues_rule c).Else-not-indexes_rule) (catalogues_is (goal.at.returns-then-not-catalogues_rule c).After-catalogues_rule ∙ c.if-not-catalogues_rule.true))

pub sector_in-sector0-requires : goal.sector_in-sector0-requires
sector_in-sector0-requires c = let size = size_is c.args.image.now (sized c.args.image.now (omega arith) (omega arith) (omega arith)) in omega (arith, size.0, size.1)

pub indexes_rule-requires : goal.indexes_rule-requires
indexes_rule-requires c =
    let s = sized c.args.image.now (omega arith) (omega arith) (omega arith) in
    ((size_is c.args.image.now s).0, indexes_below _ _ s (entered (goal.at.indexes_rule-requires c).Else-not-entries_rule))

pub catalogues_rule-requires : goal.catalogues_rule-requires
catalogues_rule-requires c =
    let s = sized c.args.image.now (omega arith) (omega arith) (omega arith) in
    ((size_is c.args.image.now s).0, indexes_below _ _ s (entered (goal.at.catalogues_rule-requires c).Else-not-entries_rule), indexed (goal.at.catalogues_rule-requires c).Else-not-indexes_rule)

pub lay_map-requires : goal.lay_map-requires
lay_map-requires c = let size = size_is _ (passed (goal.at.lay_map-requires c).Else-not-catalogues_rule).sized in (refl, omega (arith, size.1), size.2)

pub claim_holders-requires : goal.claim_holders-requires
claim_holders-requires c =
    let four = passed (goal.at.claim_holders-requires c).Else-not-catalogues_rule in
    ((size_is _ four.sized).2, claims_below _ _ four)

pub returns-then-claim_holders : goal.returns-then-claim_holders
returns-then-claim_holders c = sym (wrong_holders _ _ (passed (goal.at.returns-then-claim_holders c).Else-not-catalogues_rule) (twice_is (goal.at.returns-then-claim_holders c).After-claim_holders ∙ c.if-claim_holders.true))

pub returns-then-not-same : goal.returns-then-not-same
returns-then-not-same c =
    sym (wrong_map_lem _ _ (passed (goal.at.returns-then-not-same c).Else-not-catalogues_rule) (twice_is (goal.at.returns-then-not-same c).After-claim_holders ∙ c.if-claim_holders.false) (map_is (goal.at.returns-then-not-same c).After-same ∙ c.if-not-same.true))

pub returns : goal.returns
returns c =
    sym (nothing_wrong _ _ (passed (goal.at.returns c).Else-not-catalogues_rule) (twice_is (goal.at.returns c).After-claim_holders ∙ c.if-claim_holders.false) (map_is (goal.at.returns c).After-same ∙ c.if-not-same.false))

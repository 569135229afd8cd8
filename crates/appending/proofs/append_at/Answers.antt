-- `appending::append_at` meets its contract: each refusal gives the number of the first test that was met; what is chosen and the blocks with it are those of the definition. Assumes nothing.
use mathlib.Core.Path.{◌≡◌, refl, sym, ap, subst, ◌∙◌}
use mathlib.Core.Bool.{false}
use mathlib.Core.List.{List}
use Prim.Native.Nat.{ℕ, ◌≤◌}
use native.Mathlib.Omega.{arith}
use lib.ListN.{length}
use borrow.Author.Tests.{eq-eqb, ne_eqb, lt-ltb, le-ltb}
use Rattle.rules.specs.Sectors.{sector_of, sector_count, sectors_in}
use Rattle.rules.specs.Map.{free_count}
use Rattle.rules.specs.Chain.{blocks, extended}
use Rattle.rules.specs.Kind.{is_program, is_protected}
use Rattle.rules.specs.Descriptor.{status_of, sectors_of, chain_of}
use Rattle.rules.specs.Choice.{data_choice}
use Rattle.rules.specs.Tests.{first_of, unless_met}
use Rattle.rules.specs.Calls.Append.{longer_blocks, append_tests, append_writes, appending}
use Rattle.rules.proofs.Bytes.{part_length, part_short}
use Rattle.rules.proofs.Choice.{data_choice_range}
use Rattle.rules.proofs.Extended.{sectors_few}
use Rattle.rules.proofs.Outcome.{order_laid, refusal_meets, done_meets}
use Rattle.rules.proofs.Opening.{is_sector, has_rules}
use Rattle.extension.specs.Tip.{IsTip}
use Rattle.extension.specs.Built.{Extendable}
use Rattle.extension.proofs.Building.{built_chain, longer_used}
use Rattle.std.proofs.Common.{rules}
use Rattle.appending.proofs.append_at.Goals as goal
use Rattle.appending.proofs.append_at.Goals.{After-free_count_of, After-next-new, After-of-tip, After-with, Else-free_count_of-eq0, Else-is_protected, Else-is_program, Start}

-- what the tests so far say of the file
open_file : (c : Else-is_protected) → is_protected (status_of (sector_of c.args.image.now c.args.k)) ≡ false
open_file c = ap (λ (d : List ℕ). is_protected (status_of d)) (sym c.descriptor_of-file.ensures) ∙ sym c.is_protected.ensures ∙ c.if-is_protected.false

is_data : (c : Else-is_program) → is_program (status_of (sector_of c.args.image.now c.args.k)) ≡ false
is_data c = ap (λ (d : List ℕ). is_program (status_of d)) (sym c.descriptor_of-file.ensures) ∙ sym c.is_program.ensures ∙ c.if-is_program.false

free_is : (c : After-free_count_of) → c.free_count_of.result ≡ free_count (sector_of c.args.image.now 0)
free_is c = c.free_count_of.ensures.0 ∙ ap free_count c.sector_of.ensures

some : (c : Else-free_count_of-eq0) → 1 ≤ free_count (sector_of c.args.image.now 0)
some c = omega (arith, free_is (goal.at.Else-free_count_of-eq0 c).After-free_count_of, c.if-free_count_of-eq0.false)

-- the sector that is chosen
new_is : (c : After-next-new) → c.next-new.result.sector ≡ data_choice (sector_of c.args.image.now 0)
new_is c = c.next-new.ensures.0 ∙ ap data_choice c.sector_of-2.ensures

new_range : (c : After-next-new) → (2 ≤ c.next-new.result.sector) × (c.next-new.result.sector ≤ 1600)
new_range c = rw (new_is c) (data_choice_range (sector_of c.args.image.now 0))

-- the chain, and the blocks with that sector
tip_is : (c : After-of-tip) → IsTip (chain_of (sector_of c.args.image.now c.args.k)) c.of-tip.result
unfolding chain_of
tip_is c = subst (λ (s : List ℕ). IsTip s c.of-tip.result) (c.chain.ensures ∙ ap chain_of c.descriptor_of-file.ensures) c.of-tip.ensures

used_is : (c : After-with) → c.with.result.used ≡ length (longer_blocks c.args.image.now c.args.k)
unfolding longer_blocks
used_is c =
    let d = sector_of c.args.image.now c.args.k in
    longer_used (chain_of d) c.of-tip.result c.next-new.result.sector (tip_is (goal.at.After-with c).After-of-tip) c.with.result (rw c.from.ensures at c.with.ensures)
    ∙ ap (λ (m : ℕ). length (extended 0 (blocks (chain_of d)) m)) (new_is (goal.at.After-with c).After-next-new)

extendable : (c : After-with) → c.with.result.used ≤ 76 →
    let d = sector_of c.args.image.now c.args.k in
    Extendable (chain_of d) c.of-tip.result c.next-new.result.sector × (sectors_of d ≡ c.of-tip.result.next)
unfolding chain_of
extendable c few =
    let file = c.requires.1 in
    let image = c.args.image.now in
    let d = sector_of image c.args.k in
    let built = built_chain (sector_count image) (sectors_of d) (chain_of d) c.of-tip.result (omega (arith, file.sound.size)) (part_length d 28 228 (omega (arith, is_sector _ _ _ _ file))) (has_rules _ _ _ _ file).chain (tip_is (goal.at.After-with c).After-of-tip) in
    let range = new_range (goal.at.After-with c).After-next-new in
    let few-sectors = rw file.is at (sectors_few _ image _ file.place file.sound file.indexed file.inside) in (
      record {
        built = built.0;
        low = range.0;
        high = omega (arith, range.1);
        next = omega (arith, built.1, few-sectors);
        room = rw (c.with.ensures, c.from.ensures) at few;
      },
      sym built.1,
    )

pub returns-then-is_protected : goal.returns-then-is_protected
unfolding appending append_tests first_of unless_met
returns-then-is_protected c =
    let both = refusal_meets c.args.image.now c.args.changes.now _ 10 refl refl in
    let is = ap (λ (d : List ℕ). is_protected (status_of d)) (sym c.descriptor_of-file.ensures) ∙ sym c.is_protected.ensures ∙ c.if-is_protected.true in
    rw is (record { meets = both.0; order = both.1 })

pub returns-then-is_program : goal.returns-then-is_program
unfolding appending append_tests first_of unless_met
returns-then-is_program c =
    let both = refusal_meets c.args.image.now c.args.changes.now _ 14 refl refl in
    let is = ap (λ (d : List ℕ). is_program (status_of d)) (sym c.descriptor_of-file.ensures) ∙ sym c.is_program.ensures ∙ c.if-is_program.true in
    rw (open_file (goal.at.returns-then-is_program c).Else-is_protected, is) (record { meets = both.0; order = both.1 })

pub returns-then-bytes-ne256 : goal.returns-then-bytes-ne256
unfolding appending append_tests first_of unless_met
returns-then-bytes-ne256 c =
    let both = refusal_meets c.args.image.now c.args.changes.now _ 15 refl refl in
    rw (open_file (goal.at.returns-then-bytes-ne256 c).Else-is_protected, is_data (goal.at.returns-then-bytes-ne256 c).Else-is_program, ne_eqb _ _ c.if-bytes-ne256.true) (record { meets = both.0; order = both.1 })

pub returns-then-free_count_of-eq0 : goal.returns-then-free_count_of-eq0
unfolding appending append_tests first_of unless_met
returns-then-free_count_of-eq0 c =
    let both = refusal_meets c.args.image.now c.args.changes.now _ 12 refl refl in
    rw (open_file (goal.at.returns-then-free_count_of-eq0 c).Else-is_protected, is_data (goal.at.returns-then-free_count_of-eq0 c).Else-is_program, eq-eqb _ _ c.if-bytes-ne256.false, lt-ltb (free_count (sector_of c.args.image.now 0)) 1 (omega (arith, free_is (goal.at.returns-then-free_count_of-eq0 c).After-free_count_of, c.if-free_count_of-eq0.true))) (record { meets = both.0; order = both.1 })

pub with-requires : goal.with-requires
unfolding chain_of
with-requires c =
    let tip = c.of-tip.ensures in
    let short = part_short c.descriptor_of-file.result.bytes.now 28 228 in
    (omega (arith, tip.used, ap length c.chain.ensures, short), omega (arith, tip.next))

-- the tests before the last one, passed
passed : (c : After-of-tip) →
    let a = c.args in
    (is_protected (status_of (sector_of a.image.now a.k)) ≡ false) × (is_program (status_of (sector_of a.image.now a.k)) ≡ false)
    × (length a.bytes.now ≡ 256) × (1 ≤ free_count (sector_of a.image.now 0))
passed c =
    (open_file (goal.at.After-of-tip c).Else-is_protected, is_data (goal.at.After-of-tip c).Else-is_program, c.if-bytes-ne256.false, some (goal.at.After-of-tip c).Else-free_count_of-eq0)

pub returns-then-with-gt76 : goal.returns-then-with-gt76
unfolding appending append_tests first_of unless_met
returns-then-with-gt76 c =
    let p = passed (goal.at.returns-then-with-gt76 c).After-of-tip in
    let a = c.args in
    let both = refusal_meets a.image.now c.args.changes.now _ 13 refl refl in
    rw (p.0, p.1, eq-eqb _ _ p.2, le-ltb (free_count _) 1 p.3, lt-ltb 76 (length (longer_blocks a.image.now a.k)) (omega (arith, used_is (goal.at.returns-then-with-gt76 c).After-with))) (record { meets = both.0; order = both.1 })

pub write_longer-requires : goal.write_longer-requires
write_longer-requires c =
    let b = extendable (goal.at.write_longer-requires c).After-with (omega arith) in
    (c.requires, new_is (goal.at.write_longer-requires c).After-next-new, b.0, b.1)

pub returns : goal.returns
unfolding appending append_tests first_of unless_met append_writes sectors_in
returns c =
    let p = passed (goal.at.returns c).After-of-tip in
    let a = c.args in
    let writes = append_writes a.layout a.image.now a.bytes.now a.k in
    let order = rw (c.from-2.ensures, c.from-3.ensures, new_is (goal.at.returns c).After-next-new) at c.list.ensures in
    let both = done_meets a.image.now _ _ writes _ _ refl c.write_longer.ensures (order ∙ order_laid _ writes (search rules)) in
    rw (p.0, p.1, eq-eqb _ _ p.2, le-ltb (free_count _) 1 p.3, le-ltb 76 (length (longer_blocks a.image.now a.k)) (omega (arith, used_is (goal.at.returns c).After-with))) (record { meets = both.0; order = both.1 })

-- `storing::write_program` meets its contract: where the blocks do not suffice nothing is written, and otherwise the sectors made are those of the definition, written in its order.
-- Assumes nothing.
use mathlib.Core.Path.{◌≡◌, refl, sym, ap, subst, ◌∙◌}
use mathlib.Core.Bool.{Bool, true, false}
use mathlib.Core.List.{List}
use Prim.Native.Nat.{ℕ, ◌%◌, ◌≤◌}
use native.Mathlib.Omega.{arith}
use lib.ListN.{length}
use borrow.Rule.Slice.PartMut.{put_mid}
use Rattle.rules.specs.Bytes.{splice}
use Rattle.rules.specs.Sectors.{sector_of, written}
use Rattle.rules.specs.Map.{marked}
use Rattle.rules.specs.Chain.{blocks, places}
use Rattle.rules.specs.Kind.{marking}
use Rattle.rules.specs.Descriptor.{new_descriptor, chain_of, with_chain}
use Rattle.rules.specs.Calls.Store.{data_writes}
use Rattle.rules.proofs.Splice.{splice_none}
use Rattle.rules.proofs.Choice.{choices_length}
use Rattle.storing.specs.Spread.{Taken, Spread}
use Rattle.storing.proofs.Programming.{header_empty, chain_long, chain_in, chain_out, enough_is, places_new, program_written}
use Rattle.storing.proofs.write_program.Goals as goal
use Rattle.storing.proofs.write_program.Goals.{After-mark, After-spread, Else-not-spread}

-- sector 0 with the descriptor's sector taken
marked_is : (c : After-mark) → let a = c.args in c.mark.new.sector0 ≡ marked 1 (sector_of a.image.now 0) a.k
unfolding sector_of
marked_is c = rw c.from.ensures at c.mark.ensures ∙ ap (λ (s : List ℕ). marked 1 s c.args.k) c.copy_from_slice.ensures.after

pub spread-requires : goal.spread-requires
unfolding chain_of
spread-requires c =
    let pre = c.requires in
    (header_empty _ _ _ _ pre.1 c.program_header.ensures, omega (arith, pre.2, pre.3))

-- what was spread, in that map
abbrev SpreadAt : (c : After-spread) → Bool → Type 0
SpreadAt c enough = let a = c.args in Spread a.many (marked 1 (sector_of a.image.now 0) a.k) enough c.spread.new.sector0 c.spread.new.chain

spread_is : (c : After-spread) (enough : Bool) → c.spread.result ≡ enough → SpreadAt c enough
spread_is c enough e =
    subst (SpreadAt c) e
    (subst (λ (sector0 : List ℕ). Spread c.args.many sector0 c.spread.result c.spread.new.sector0 c.spread.new.chain) (marked_is (goal.at.After-spread c).After-mark) c.spread.ensures)

pub returns-then-not-spread : goal.returns-then-not-spread
unfolding written
returns-then-not-spread c =
    let a = c.args in
    record { value = (enough_is a.image.now a.name.now a.bytes.now a.k a.many c.requires.4 c.requires.3 _ _ false (spread_is (goal.at.returns-then-not-spread c).After-spread false (c.if-not-spread.true)), refl); order = sym (splice_none _ _) }

-- all of it is in the chain, and the chain in the descriptor
taken : (c : Else-not-spread) → let a = c.args in Taken a.many (marked 1 (sector_of a.image.now 0) a.k) c.spread.new.sector0 c.spread.new.chain
taken c = (spread_is (goal.at.Else-not-spread c).After-spread true (c.if-not-spread.false)).taken refl

abbrev Descriptor : (c : Else-not-spread) → List ℕ
Descriptor c = put_mid 28 228 c.program_header.new.descriptor c.spread.new.chain

descriptor_is : (c : Else-not-spread) →
    let a = c.args in
    Descriptor c ≡ with_chain (new_descriptor a.name.now (marking a.layout 0x01) 0 (length a.bytes.now % 256) 0) a.many (blocks c.spread.new.chain)
descriptor_is c = chain_in _ _ _ _ c.requires.1 c.program_header.ensures (taken c).spread

descriptor_long : (c : Else-not-spread) → length (Descriptor c) ≡ 256
descriptor_long c = chain_long _ _ _ _ c.requires.1 c.program_header.ensures (taken c).spread

chain_is : (c : Else-not-spread) → chain_of (Descriptor c) ≡ c.spread.new.chain
chain_is c = chain_out _ _ _ _ c.requires.1 c.program_header.ensures (taken c).spread

few : (c : Else-not-spread) → length (places c.spread.new.chain) ≤ 128
few c =
    omega (arith, ap length (taken c).places_are, choices_length c.args.many (marked 1 (sector_of c.args.image.now 0) c.args.k), c.requires.2, c.requires.3)

pub slice_bounds-write_data-end : goal.slice_bounds-write_data-end
slice_bounds-write_data-end c = omega (arith, descriptor_long (goal.at.slice_bounds-write_data-end c).Else-not-spread)

pub write_data-requires : goal.write_data-requires
unfolding chain_of
write_data-requires c = rw (chain_is (goal.at.write_data-requires c).Else-not-spread) (few (goal.at.write_data-requires c).Else-not-spread)

pub slice_bounds-write_sector-end : goal.slice_bounds-write_sector-end
slice_bounds-write_sector-end c = sym (descriptor_long (goal.at.slice_bounds-write_sector-end c).Else-not-spread)

pub returns : goal.returns
unfolding chain_of
returns c =
    let a = c.args in
    let chain = c.spread.new.chain in
    let data-there = c.write_data.ensures.image_after ∙ ap (λ (l : List ℕ). written a.image.now (data_writes a.bytes.now (places l))) (chain_is (goal.at.returns c).Else-not-spread) in record {
      value = (
        enough_is a.image.now a.name.now a.bytes.now a.k a.many c.requires.4 c.requires.3 _ _ true (spread_is (goal.at.returns c).After-spread true (c.if-not-spread.false)),
        c.write_sector-2.ensures
            ∙ program_written a.image.now a.name.now a.bytes.now a.k a.many c.requires.4 c.requires.3 _ chain (taken (goal.at.returns c).Else-not-spread) a.layout _ _ _ data-there c.write_sector.ensures (descriptor_is (goal.at.returns c).Else-not-spread),
      );
      order = c.write_data.ensures.order
          ∙ ap (λ (l : List ℕ). splice a.changes.now 2 (places l)) (chain_is (goal.at.returns c).Else-not-spread)
          ∙ ap (splice a.changes.now 2) (places_new a.image.now a.name.now a.bytes.now a.k a.many c.requires.4 c.requires.3 _ chain (taken (goal.at.returns c).Else-not-spread));
    }

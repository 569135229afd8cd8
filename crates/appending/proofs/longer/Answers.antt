-- `appending::longer` meets its contract: the copy is marked, the count is laid over it, and then the chain in its part is extended. Assumes nothing.
use mathlib.Core.Path.{◌≡◌, sym, ap, subst, ◌∙◌}
use mathlib.Core.List.{List}
use Prim.Native.Nat.{ℕ, ◌+◌}
use native.Mathlib.Omega.{arith}
use lib.ListN.{length, set}
use borrow.Rule.Slice.PartMut.{put_mid}
use Rattle.rules.specs.Bytes.{word_bytes, splice}
use Rattle.rules.specs.Chain.{blocks, extended, blocks_bytes}
use Rattle.rules.specs.Kind.{marking}
use Rattle.rules.specs.Descriptor.{status_of, sectors_of, chain_of, marked_by}
use Rattle.rules.proofs.Splice.{splice-length, put_back}
use Rattle.rules.proofs.Descriptor.{numbered_chain}
use Rattle.rules.proofs.Marks.{mark_length, mark_chain}
use Rattle.rules.proofs.Extended.{with_chain_laid}
use Rattle.extension.specs.Built.{Extendable}
use Rattle.appending.proofs.longer.Goals as goal
use Rattle.appending.proofs.longer.Goals.{After-extend, After-lay_number, After-marking}

-- the copy marked, and with the new count
mark_is : (c : After-marking) →
    let a = c.args in
    set c.copy_from_slice.new.self 12 c.marking.result ≡ marked_by a.layout a.descriptor.now
unfolding marked_by
mark_is c =
    let copied = c.copy_from_slice in
    ap (set copied.new.self 12) c.marking.ensures
    ∙ ap (λ (l : List ℕ). set l 12 (marking c.args.layout (status_of l))) copied.ensures.after

counted : (c : After-lay_number) → c.lay_number.new.buffer ≡ splice (marked_by c.args.layout c.args.descriptor.now) 14 (word_bytes (sectors_of c.args.descriptor.now + 1))
counted c =
    c.lay_number.ensures
    ∙ ap (λ (l : List ℕ). splice l 14 (word_bytes (c.args.tip.next + 1))) (mark_is (goal.at.After-lay_number c).After-marking)
    ∙ ap (λ (m : ℕ). splice (marked_by c.args.layout c.args.descriptor.now) 14 (word_bytes (m + 1))) (sym c.requires.2)

whole : (c : After-lay_number) → length (marked_by c.args.layout c.args.descriptor.now) ≡ 256
whole c = mark_length c.args.layout c.args.descriptor.now ∙ c.requires.0

long : (c : After-lay_number) → length c.lay_number.new.buffer ≡ 256
long c = ap length (counted c) ∙ splice-length (marked_by c.args.layout c.args.descriptor.now) 14 _ ∙ whole c

chain_is : (c : After-lay_number) → chain_of (marked_by c.args.layout c.args.descriptor.now) ≡ chain_of c.args.descriptor.now
chain_is c = mark_chain c.args.layout c.args.descriptor.now

apart : (c : After-lay_number) → chain_of c.lay_number.new.buffer ≡ chain_of c.args.descriptor.now
apart c = ap chain_of (counted c) ∙ numbered_chain (marked_by c.args.layout c.args.descriptor.now) _ ∙ chain_is c

pub extend-requires : goal.extend-requires
unfolding chain_of
extend-requires c =
    rw c.from.ensures (subst (λ (l : List ℕ). Extendable l c.args.tip c.args.new) (sym (apart (goal.at.extend-requires c).After-lay_number)) c.requires.1)

-- the chain is laid back where it was lent from
put : (c : After-extend) →
    put_mid 28 228 c.lay_number.new.buffer c.extend.new.chain ≡ splice c.lay_number.new.buffer 28 c.extend.new.chain
put c =
    put_back c.lay_number.new.buffer c.extend.new.chain 28 228 c.extend.ensures.built.size (omega (arith, long (goal.at.After-extend c).After-lay_number))

pub returns : goal.returns
unfolding chain_of
returns c =
    let d = c.args.descriptor.now in
    let new = c.args.new in
    let x = c.extend in
    let bs = extended 0 (blocks (chain_of d)) new in
    let laid =
    rw c.from.ensures at x.ensures.laid ∙ ap (λ (s : List ℕ). splice s 0 (blocks_bytes (extended 0 (blocks s) new))) (apart (goal.at.returns c).After-lay_number)
    ∙ ap (λ (s : List ℕ). splice s 0 (blocks_bytes bs)) (sym (chain_is (goal.at.returns c).After-lay_number))
    in
    put (goal.at.returns c).After-extend ∙ ap (λ (s : List ℕ). splice s 28 x.new.chain) (counted (goal.at.returns c).After-lay_number)
    ∙ with_chain_laid (marked_by c.args.layout c.args.descriptor.now) (sectors_of d + 1) bs (whole (goal.at.returns c).After-lay_number) x.new.chain laid

-- `packing::files::packed_descriptor` meets its contract: header and block laid one behind the other over zeros. Assumes nothing.
use mathlib.Core.Path.{◌≡◌, sym, ap, ◌∙◌}
use mathlib.Core.List.{List, ◌++◌, append_assoc}
use Prim.Native.Nat.{ℕ, suc, ◌-◌}
use native.Mathlib.Omega.{arith}
use lib.ListN.{length, drop, replicate, length-append}
use Rattle.rules.specs.Bytes.{over, splice}
use Rattle.rules.specs.Chain.{block_bytes, blocks_bytes}
use Rattle.rules.specs.Calls.Pack.{one_block}
use Rattle.rules.proofs.Formatted.{laid_front, laid_next}
use Rattle.packing.proofs.files.packed_descriptor.Goals as goal
use Rattle.packing.proofs.files.packed_descriptor.Goals.{After-lay}

-- without a block, and with one
empty : (header : List ℕ) (start : ℕ) → length header ≡ 28 → splice (replicate 256 0) 0 header ≡ header ++ over (replicate 228 0) (blocks_bytes (one_block start 0))
unfolding blocks_bytes one_block over
empty header start long = laid_front (replicate 256 0) header (omega arith) ∙ rw long

one : (header : List ℕ) (start sectors : ℕ) → length header ≡ 28 → (sectors ≡ 0 → ⊥)
    → splice (splice (replicate 256 0) 0 header) 28 (block_bytes (record { start = start; last = sectors - 1 })) ≡ header ++ over (replicate 228 0) (blocks_bytes (one_block start sectors))
unfolding blocks_bytes one_block over block_bytes
one header start sectors long some =
    let block = block_bytes (record { start = start; last = sectors - 1 }) in
    let all : length (header ++ block) ≡ 31 = length-append header block ∙ omega arith in
    let e : sectors ≡ suc (sectors - 1) = omega (arith, some) in
    laid_next (replicate 256 0) header block 28 long
    ∙ laid_front (replicate 256 0) (header ++ block) (omega arith)
    ∙ ap (λ (m : ℕ). (header ++ block) ++ drop m (replicate 256 0)) all
    ∙ append_assoc header block (replicate 225 0)
    ∙ ap (λ (m : ℕ). header ++ over (replicate 228 0) (blocks_bytes (one_block start m))) (sym e)

headed : (c : After-lay) → c.lay.new.buffer ≡ splice (replicate 256 0) 0 c.args.header.now
headed c = c.lay.ensures ∙ ap (λ (d : List ℕ). splice d 0 c.args.header.now) c.requires.0

pub returns-then-sectors-eq0 : goal.returns-then-sectors-eq0
returns-then-sectors-eq0 c =
    let a = c.args in
    rw c.if-sectors-eq0.true (headed (goal.at.returns-then-sectors-eq0 c).After-lay ∙ empty a.header.now a.start c.requires.1)

pub returns : goal.returns
returns c =
    let a = c.args in
    c.lay-2.ensures
    ∙ ap (splice c.lay.new.buffer 28) (rw (c.from.ensures, c.from-2.ensures) at c.block_bytes-block.ensures)
    ∙ ap (λ (d : List ℕ). splice d 28 (block_bytes (record { start = a.start; last = a.sectors - 1 }))) (headed (goal.at.returns c).After-lay)
    ∙ one a.header.now a.start a.sectors c.requires.1 c.if-sectors-eq0.false

-- `descriptor::header::new_descriptor` meets its contract: the name stands in front, and the fields are set among the zeros behind it. Assumes nothing.
use mathlib.Core.Path.{◌≡◌, ap, ◌∙◌}
use mathlib.Core.List.{List, [], ◌∷◌, ◌++◌}
use Prim.Native.Nat.{ℕ, zero, suc, ◌+◌}
use native.Mathlib.Omega.{arith}
use lib.ListN.{length, set, drop, replicate}
use Rattle.rules.specs.Bytes.{splice}
use Rattle.rules.specs.Descriptor.{new_descriptor}
use Rattle.rules.proofs.Formatted.{laid_front}
use Rattle.descriptor.proofs.header.new_descriptor.Goals as goal

set_behind : (front back : List ℕ) (at i v : ℕ) → length front + i ≡ at → set (front ++ back) at v ≡ front ++ set back i v
set_behind [] back at i v e = let z : at ≡ i = omega arith in rw z
set_behind (b ∷ front) back zero i v e = absurd (omega arith)
set_behind (b ∷ front) back (suc at) i v e = ap (λ (l : List ℕ). b ∷ l) (set_behind front back at i v (omega arith))

fields : (name : List ℕ) (status records_per_sector end_offset record_length : ℕ) → length name ≡ 10 → (laid : List ℕ) → laid ≡ splice (replicate 256 0) 0 name
    → set (set (set (set laid 12 status) 13 records_per_sector) 16 end_offset) 17 record_length ≡ new_descriptor name status records_per_sector end_offset record_length
unfolding new_descriptor
fields name status records_per_sector end_offset record_length ten laid e =
    let front : laid ≡ name ++ drop 10 (replicate 256 0) = e ∙ laid_front (replicate 256 0) name (omega arith) ∙ ap (λ (m : ℕ). name ++ drop m (replicate 256 0)) ten in
    rw (front, set_behind name (drop 10 (replicate 256 0)) 12 2 status (omega arith), set_behind name _ 13 3 records_per_sector (omega arith), set_behind name _ 16 6 end_offset (omega arith), set_behind name _ 17 7 record_length (omega arith))

pub returns : goal.returns
returns c =
    let a = c.args in
    fields a.name.now a.status _ _ _ c.requires.1 _ (c.lay.ensures ∙ ap (λ (d : List ℕ). splice d 0 a.name.now) c.requires.0)

-- `listing::lines::put_file_line` meets its contract: six fields laid one behind the other, with what ends them, are the line of what was read of the descriptor.
-- Assumes nothing.
use mathlib.Core.Path.{◌≡◌, ◌∙◌}
use mathlib.Core.Bool.{cond}
use mathlib.Core.List.{List, [], ◌∷◌, ◌++◌, append_assoc}
use Prim.Native.Nat.{ℕ}
use native.Mathlib.Omega.{arith}
use lib.ListN.{length-take}
use Rattle.rules.specs.Kind.{is_protected}
use Rattle.rules.specs.Descriptor.{name_of, status_of, sectors_of, file_kind}
use Rattle.rules.specs.Calls.Listing.{unpadded, decimal, kind_word, kind_length, mark_field, file_line}
use Rattle.rules.specs.declared.Layout.{Layout}
use Rattle.rules.specs.declared.Kind.{Kind}
use Rattle.line.proofs.LaidLaws.{laid_as, laid_then}
use Rattle.std.proofs.Common.{rules}
use Rattle.listing.proofs.lines.put_file_line.Goals as goal

-- the six fields
line_is : (layout : Layout) (descriptor name : List ℕ) (kind : Kind) (long sectors : ℕ) → name ≡ name_of descriptor → kind ≡ file_kind descriptor → long ≡ kind_length kind → sectors ≡ sectors_of descriptor
    → (unpadded name ++ (32 ∷ [])) ++ ((kind_word kind ++ (32 ∷ [])) ++ ((decimal long ++ (32 ∷ [])) ++ ((decimal sectors ++ (32 ∷ [])) ++ ((cond (is_protected (status_of descriptor)) 0x50 0x55 ∷ []) ++ (mark_field layout (status_of descriptor) ++ (10 ∷ []))))))
    ≡ file_line layout descriptor
unfolding file_line
line_is layout descriptor name kind long sectors n k l c = rw (l, n, k, c) (simp append_assoc)

pub put_name-named-requires : goal.put_name-named-requires
unfolding name_of
put_name-named-requires c = (search rules, rw (c.name.ensures, length-take) (omega arith))

pub returns : goal.returns
returns c =
    let line = laid_then c.put_name-named.ensures (laid_then c.put_kind-sorted.ensures (laid_then c.put_number-measured.ensures (laid_then c.put_number-counted.ensures (laid_then c.put_protection-kept.ensures c.put_mark.ensures)))) in
    laid_as (line_is c.args.layout c.args.descriptor.now.bytes.now _ _ _ _ c.name.ensures c.kind-kind.ensures c.kind_length.ensures (c.from.ensures ∙ c.sectors.ensures)) line.short line

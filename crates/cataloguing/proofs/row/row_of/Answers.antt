-- `cataloguing::row::row_of` meets its contract: field by field, by what each reading gives. Assumes nothing.
use mathlib.Core.Path.{◌≡◌, sym, ap, ◌∙◌}
use mathlib.Core.Bool.{Bool}
use mathlib.Core.List.{List}
use Prim.Native.Nat.{ℕ}
use native.Mathlib.Omega.{arith}
use lib.ListN.{length}
use Rattle.std.proofs.Common.{rules}
use Rattle.rules.specs.Descriptor.{name_of}
use Rattle.rules.specs.Calls.Entry.{row_of}
use Rattle.rules.specs.declared.Kind.{Kind}
use Rattle.rules.specs.declared.Row.{Row}
use Rattle.rules.proofs.Bytes.{part_length}
use Rattle.cataloguing.proofs.row.row_of.Goals as goal

same_row : {name name' : List ℕ} {kind kind' : Kind} {sectors sectors' : ℕ} {protected protected' : Bool} → name ≡ name' → kind ≡ kind' → sectors ≡ sectors' → protected ≡ protected'
    → ◌≡◌ {A = Row} (record { name = name; kind = kind; sectors = sectors; protected = protected }) (record { name = name'; kind = kind'; sectors = sectors'; protected = protected' })
same_row a b c d = rw (a, b, c, d)

pub copy_from_slice-requires : goal.copy_from_slice-requires
unfolding name_of
copy_from_slice-requires c = sym (ap length c.name.ensures ∙ part_length c.args.descriptor.now.bytes.now 0 10 (omega (arith, c.requires)))

pub returns : goal.returns
unfolding row_of
returns c = same_row (c.copy_from_slice.ensures.after ∙ c.name.ensures) (search rules) (search rules) (search rules)

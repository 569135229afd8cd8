-- `storing::program_header` meets its contract: the number of sectors laid into a new descriptor, marked by the rule. Assumes nothing.
use mathlib.Core.Path.{ap, ◌∙◌}
use mathlib.Core.List.{List}
use Prim.Native.Nat.{ℕ, ◌%◌}
use Rattle.rules.specs.Bytes.{word_bytes, splice}
use Rattle.rules.specs.Descriptor.{new_descriptor}
use Rattle.storing.proofs.program_header.Goals as goal

pub returns : goal.returns
returns c =
    let a = c.args in
    c.lay_number.ensures
    ∙ ap (λ (new : List ℕ). splice new 14 (word_bytes a.many)) (c.new_descriptor.ensures ∙ ap (λ (status : ℕ). new_descriptor a.name.now status 0 (a.size % 256) 0) c.marking.ensures)

-- `index::enter` meets its contract: the index is made of the numbers that stand in it, and then written. Assumes nothing.
use mathlib.Core.Path.{ap, ◌∙◌}
use mathlib.Core.List.{List}
use Prim.Native.Nat.{ℕ, ◌*◌}
use Rattle.rules.specs.Bytes.{splice}
use Rattle.rules.specs.Sectors.{written}
use Rattle.rules.specs.Index.{numbers, index_of}
use Rattle.rules.specs.Volume.{files_in, placed}
use Rattle.index.proofs.enter.Goals as goal

pub returns : goal.returns
unfolding written files_in
returns c =
    let a = c.args in
    c.write_sector.ensures
    ∙ ap (splice a.image.now (256 * a.i)) (c.index_with.ensures ∙ ap (λ (s : List ℕ). index_of (placed a.image.now a.name.now a.k (numbers s))) c.sector_of.ensures)

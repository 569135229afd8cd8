-- `summarizing::file_count` meets its contract. The loop's invariant: the files counted, with those of the indexes that are still to come, are those of all. Assumes nothing.
use mathlib.Core.Path.{◌≡◌, ap, ◌∙◌}
use mathlib.Core.List.{List}
use Prim.Native.Nat.{ℕ, ◌+◌}
use native.Mathlib.Omega.{arith}
use lib.ListN.{length}
use Rattle.rules.specs.Index.{numbers}
use Rattle.rules.specs.Volume.{files_in, files_of}
use Rattle.sector.specs.Directories.{indexes_left}
use Rattle.summarizing.proofs.Counting.{all_few, files_first}
use Rattle.summarizing.proofs.file_count.Goals as goal
use Rattle.summarizing.proofs.file_count.Goals.{After-number_count-files}

pub loop-i-init : goal.loop-i-init
loop-i-init c = rw (c.into_iter-i-iterator.ensures.into_iter_gives, c.indexes_of-i-items.ensures) (omega arith)

-- those of one index more
counted : (c : After-number_count-files) →
    let image = c.args.image.now in
    length (files_of image (indexes_left c.loop-i.i-iterator)) ≡ c.number_count-files.result + length (files_of image (indexes_left c.next.new.self))
unfolding files_in
counted c = files_first c.args.image.now _ _ _ _ c.in-Some.ensures.steps (c.number_count-files.ensures ∙ ap (λ (index : List ℕ). length (numbers index)) c.sector_of.ensures)

pub overflow_add-files : goal.overflow_add-files
overflow_add-files c = omega (arith, c.loop-i.invariant, counted (goal.at.overflow_add-files c).After-number_count-files, all_few c.args.layout c.args.image.now)

pub loop-i-preserved : goal.loop-i-preserved
loop-i-preserved c = omega (arith, c.loop-i.invariant, counted (goal.at.loop-i-preserved c).After-number_count-files)

pub returns : goal.returns
unfolding files_of
returns c = omega (arith, c.loop-i.invariant, ap (λ (is : List ℕ). length (files_of c.args.image.now is)) c.in-None.ensures.steps.0)

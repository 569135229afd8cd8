-- `bench::create_files` is safe and ends. The loop's invariant: the image keeps its length. The measure is what is left of the 127. Assumes nothing.
use mathlib.Core.Path.{◌≡◌, refl, ◌∙◌}
use lib.ListN.{length}
use Rattle.bench.proofs.create_files.Goals as goal
use Rattle.bench.proofs.create_files.Goals.{After-create}

kept : (c : After-create) → length c.create.new.image ≡ length c.args.image.now
kept c = c.create.auto.image ∙ c.loop-i.invariant

pub loop-i-init : goal.loop-i-init
loop-i-init c = refl

pub loop-i-preserved : goal.loop-i-preserved
loop-i-preserved c = kept (goal.at.loop-i-preserved c).After-create

pub shape_of-image : goal.shape_of-image
shape_of-image c = c.loop-i.invariant

-- The images counted and the places still to come are the places of the command line.
use Rattle.std.proofs.Common.{◌≡◌, ◌-◌, ◌+◌, ◌<◌, length}
use Rattle.console.specs.Tally.{images_in}
use Rattle.console.proofs.images.each_image.Given as goal

abbrev pub invariant-loop-position : goal.invariant-loop-position
invariant-loop-position g l =
    let left = l.position-iterator in
    (images_in l.tally.counts + (left.end - left.start) ≡ l.fn.places.end - l.fn.places.start) × (length l.tally.counts ≡ 8) × (l.fn.places.end < 18446744073709551616)

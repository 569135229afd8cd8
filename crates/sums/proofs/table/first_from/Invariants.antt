-- From the place reached on there are the same places with the sum as from the start, and links lead down.
use Rattle.std.proofs.Common.{◌≡◌, ◌<◌, ◌≤◌, unwrap_or}
use Rattle.std.specs.Option.{ForSome}
use Rattle.sums.specs.Table.{chain}
use Rattle.sums.proofs.table.first_from.Given as goal

abbrev pub invariant-loop-next : goal.invariant-loop-next
invariant-loop-next l =
    let at = unwrap_or l.next 0 in
    let from = unwrap_or l.fn.start 0 in
    (chain l.sum l.earlier l.sums at at ≡ chain l.sum l.earlier l.sums from from) × ForSome l.next (λ place. 0 < place) × (at ≤ from)

abbrev pub decreases-loop-next : goal.decreases-loop-next
decreases-loop-next l = unwrap_or l.next 0

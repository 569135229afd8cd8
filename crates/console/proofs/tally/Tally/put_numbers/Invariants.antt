-- So many counts are laid one behind the other, and the words have the digit of the last.
use mathlib.Core.Path.{◌≡◌}
use Prim.Native.Nat.{◌+◌, ◌*◌}
use Rattle.line.specs.Laid.{Laid}
use Rattle.console.proofs.Numbers.{called, told}
use Rattle.console.proofs.tally.Tally.put_numbers.Given as goal

abbrev pub invariant-loop-count : goal.invariant-loop-count
invariant-loop-count l = record {
  words : l.words ≡ called (48 + l.count-index);
  laid : Laid (34 * l.count-index) l.initial.text l.text l.at l.next (told l.self.counts l.count-index);
}

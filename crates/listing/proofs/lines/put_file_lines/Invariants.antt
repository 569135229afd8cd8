use Rattle.sector.specs.Numbers.{numbers_left}
use Rattle.listing.proofs.LineSteps.{Ahead}
use Rattle.listing.proofs.lines.put_file_lines.Given as goal

abbrev pub invariant-loop-k : goal.invariant-loop-k
invariant-loop-k l = Ahead l.layout l.image l.fn.i (numbers_left l.k-iterator) l.initial.text l.text l.fn.at l.next

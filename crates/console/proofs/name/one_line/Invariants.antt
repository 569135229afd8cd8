-- The bytes passed, and what the rest becomes, are what the name becomes.
use mathlib.Core.Path.{◌≡◌}
use mathlib.Core.List.{◌++◌}
use lib.ListN.{take, drop}
use Rattle.console.specs.Name.{one_line}
use Rattle.console.proofs.name.one_line.Given as goal

abbrev pub invariant-loop-byte : goal.invariant-loop-byte
invariant-loop-byte l = take l.byte-index l.name ++ one_line (drop l.byte-index l.name) ≡ one_line l.initial.name

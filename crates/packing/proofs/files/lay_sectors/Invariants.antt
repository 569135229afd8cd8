use mathlib.Core.List.{List, map}
use Prim.Native.Nat.{ℕ}
use Rattle.rules.specs.Sectors.{sector_of, joined}
use Rattle.rules.specs.Chain.{places}
use Rattle.rules.proofs.Pieces.{Pieces}
use Rattle.descriptor.specs.Ahead.{places_left}
use Rattle.packing.proofs.files.lay_sectors.Given as goal

-- the bytes of the sectors at these places
abbrev pub sectors : List ℕ → List ℕ → List ℕ
sectors source ps = joined (map (sector_of source) ps)

abbrev pub invariant-loop-place : goal.invariant-loop-place
invariant-loop-place l = Pieces (sectors l.source (places l.chain)) l.initial.target l.at (sectors l.source (places_left l.place-iterator)) l.target l.to

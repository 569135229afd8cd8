-- The geometry that `format` is handed, as the rules have it.
use Rattle.rules.specs.Calls.Format.{Geometry}
use Rattle.formatting.specs.declared.format.Geometry as handed

abbrev pub geometry_of : handed.Geometry → Geometry
geometry_of g = record { sectors_per_track = g.sectors_per_track; tracks = g.tracks; sides = g.sides; density = g.density }

-- The loops of write_plates: writes the planes, each by the rack of its number.
use Rattle.std.proofs.Common.{map}
use Rattle.sheet_files.specs.Racks.{WritesFirst}
use Rattle.sheet_files.proofs.writing.write_plates.Given as goal

abbrev pub invariant-loop-place : goal.invariant-loop-place
invariant-loop-place g l = WritesFirst (map g.S.AsStr.text l.names) l.planes l.place (map g.R.Rack.state l.fn.racks) (map g.R.Rack.state l.racks)

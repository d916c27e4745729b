-- The loops of write_next: writes the next tints of so many plates, turned into samples, each by
-- the rack of its number.
use Rattle.std.proofs.Common.{map}
use Rattle.plate_rows.specs.Images.{WritesAt, part_at}
use Rattle.plate_rows.specs.Racks.{EachRack}
use Rattle.plate_rows.proofs.images.write_next.Given as goal

abbrev pub invariant-loop-place : goal.invariant-loop-place
invariant-loop-place g l = EachRack l.place (WritesAt l.header (part_at l.each l.tints)) (map g.R.Rack.state l.fn.racks) (map g.R.Rack.state l.racks)

-- The loops of begin_images: creates the files of these names, each by the rack of its number, and
-- writes that header on each of them.
use Rattle.std.proofs.Common.{map}
use Rattle.plate_rows.specs.Images.{CreatesAt}
use Rattle.plate_rows.specs.Racks.{EachRack}
use Rattle.plate_rows.proofs.images.begin_images.Given as goal

abbrev pub invariant-loop-place : goal.invariant-loop-place
invariant-loop-place g l = EachRack l.place (CreatesAt (map g.S.AsStr.text l.outputs) l.header) (map g.R.Rack.state l.fn.racks) (map g.R.Rack.state l.racks)

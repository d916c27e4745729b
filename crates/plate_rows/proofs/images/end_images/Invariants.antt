-- The loops of end_images: finishes the files of so many plates, each by the rack of its number.
use Rattle.std.proofs.Common.{map}
use Rattle.plate_rows.specs.Images.{FinishesAt}
use Rattle.plate_rows.specs.Racks.{EachRack}
use Rattle.plate_rows.proofs.images.end_images.Given as goal

abbrev pub invariant-loop-place : goal.invariant-loop-place
invariant-loop-place g l = EachRack l.place FinishesAt (map g.R.Rack.state l.fn.racks) (map g.R.Rack.state l.racks)

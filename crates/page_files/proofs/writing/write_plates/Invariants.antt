-- The loops of write_plates: writes each plane as a plate into the file of its name, in order, as
-- far as `write_page` goes before the report.
use Rattle.std.proofs.Common.{◌≡◌, ◌++◌, IsTrue, length, map}
use Rattle.std.specs.Vec.Iter.{into_iter_items}
use Rattle.outside.specs.Rack.{KeepsRack}
use Rattle.page_files.specs.Files.{plate_files}
use Rattle.page_files.specs.Writing.{WritesAll}
use Rattle.page_files.proofs.writing.write_plates.Given as goal

abbrev pub invariant-loop-plane : goal.invariant-loop-plane
invariant-loop-plane g l = record {
  place : l.place ≡ length l.yielded;
  left : l.fn.planes ≡ l.yielded ++ into_iter_items l.plane-iterator;
  keeps : KeepsRack (g.R.Rack.state l.fn.rack) (g.R.Rack.state l.rack);
  reported : IsTrue (g.R.Rack.state l.fn.rack).tells → (g.R.Rack.state l.rack).reported ≡ (g.R.Rack.state l.fn.rack).reported;
  wrote : WritesAll (plate_files (map g.S.AsStr.text l.names) l.yielded) (g.R.Rack.state l.fn.rack) (g.R.Rack.state l.rack);
}

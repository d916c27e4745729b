-- The loops of write_on: writes a piece at the end of the open file.
use Rattle.std.proofs.Common.{◌≡◌, IsTrue, ◌≤◌, ◌-◌, length, take}
use Rattle.outside.specs.Rack.{KeepsRack}
use Rattle.outside.specs.Writing.{Grows}
use Rattle.outside.proofs.writing.write_on.Given as goal

abbrev pub invariant-loop-done : goal.invariant-loop-done
invariant-loop-done g l = record {
  keeps : KeepsRack (g.R.Rack.state l.fn.rack) (g.R.Rack.state l.rack);
  asked : (g.R.Rack.state l.rack).asked ≡ (g.R.Rack.state l.fn.rack).asked;
  finished : (g.R.Rack.state l.rack).finished ≡ (g.R.Rack.state l.fn.rack).finished;
  reported : IsTrue (g.R.Rack.state l.fn.rack).tells → (g.R.Rack.state l.rack).reported ≡ (g.R.Rack.state l.fn.rack).reported;
  is_open : (g.R.Rack.state l.rack).is_open ≡ (g.R.Rack.state l.fn.rack).is_open;
  current : IsTrue (g.R.Rack.state l.fn.rack).tells → (g.R.Rack.state l.rack).current ≡ (g.R.Rack.state l.fn.rack).current;
  files : IsTrue (g.R.Rack.state l.fn.rack).tells → Grows (take l.done l.piece) (g.R.Rack.state l.fn.rack) (g.R.Rack.state l.rack);
  well : (g.R.Rack.state l.rack).faults ≡ (g.R.Rack.state l.fn.rack).faults;
  within : l.done ≤ length l.piece;
}

abbrev pub decreases-loop-done : goal.decreases-loop-done
decreases-loop-done g l = length l.piece - l.done

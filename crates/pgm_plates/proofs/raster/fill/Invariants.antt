-- The loops of fill: reads until the buffer is full, the file ends or a read fails, and says how
-- many bytes are there.
use Rattle.std.proofs.Common.{◌≡◌, ◌≤◌, ◌-◌, take, length}
use Rattle.outside.specs.Reading.{Takes}
use Rattle.pgm_plates.proofs.raster.fill.Given as goal

abbrev pub invariant-loop-done : goal.invariant-loop-done
invariant-loop-done g l = record {
  takes : Takes (take l.done l.buf) (g.T.Tray.state l.fn.tray) (g.T.Tray.state l.tray);
  count : (g.T.Tray.state l.tray).faults ≡ (g.T.Tray.state l.fn.tray).faults;
  within : l.done ≤ length l.buf;
}

abbrev pub decreases-loop-done : goal.decreases-loop-done
decreases-loop-done g l = length l.initial.buf - l.done

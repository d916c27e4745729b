-- The loops of read_pieces: reads samples after the ones that are there, until there are that many.
use Rattle.std.proofs.Common.{◌≡◌, ◌≤◌, ◌-◌, length}
use Rattle.outside.specs.Reading.{Takes}
use Rattle.pgm_plates.specs.Plates.{raster}
use Rattle.pgm_plates.specs.Readers.{Fit, samples_from}
use Rattle.pgm_plates.proofs.raster.read_pieces.Given as goal

abbrev pub invariant-loop-form : goal.invariant-loop-form
invariant-loop-form g l = record {
  takes : Takes (raster l.maxval (samples_from l.form l.maxval l.values.items)) (g.T.Tray.state l.fn.tray) (g.T.Tray.state l.tray);
  count : (g.T.Tray.state l.tray).faults ≡ (g.T.Tray.state l.fn.tray).faults;
  fit : Fit l.maxval l.values.items;
  within : length l.values.items ≤ l.count;
}

abbrev pub decreases-loop-form : goal.decreases-loop-form
decreases-loop-form g l = l.count - length l.values.items

-- The loops of fill_samples: reads samples until there are as many as there is room for.
use Rattle.std.proofs.Common.{◌≡◌, ◌≤◌, ◌-◌, take, length}
use Rattle.outside.specs.Reading.{Takes}
use Rattle.pgm_plates.specs.Plates.{raster}
use Rattle.pgm_plates.specs.Readers.{Fit}
use Rattle.pgm_plates.proofs.rows.fill_samples.Given as goal

abbrev pub invariant-loop-done : goal.invariant-loop-done
invariant-loop-done g l = record {
  takes : Takes (raster l.maxval (take l.done l.samples)) (g.T.Tray.state l.fn.tray) (g.T.Tray.state l.tray);
  count : (g.T.Tray.state l.tray).faults ≡ (g.T.Tray.state l.fn.tray).faults;
  fit : Fit l.maxval (take l.done l.samples);
  within : l.done ≤ length l.samples;
}

abbrev pub decreases-loop-done : goal.decreases-loop-done
decreases-loop-done g l = length l.initial.samples - l.done

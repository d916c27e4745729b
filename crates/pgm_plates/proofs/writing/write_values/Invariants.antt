-- The loops of write_values: writes the samples of an image by pieces of as many bytes as there is
-- room for.
use Rattle.std.proofs.Common.{◌≤◌, ◌-◌, take, length, Ok}
use Rattle.outside.specs.declared.tray.DeviceError.{DeviceError}
use Rattle.outside.specs.Writing.{WritesOn}
use Rattle.pgm_plates.specs.Planes.{samples_in}
use Rattle.pgm_plates.specs.Plates.{raster}
use Rattle.pgm_plates.proofs.writing.write_values.Given as goal

abbrev pub invariant-loop-done : goal.invariant-loop-done
invariant-loop-done g l = record {
  wrote : WritesOn {T = Unit {0}} {E = DeviceError} (raster l.image.maxval (take l.done (samples_in l.image l.image.values.now))) (g.R.Rack.state l.fn.rack) (g.R.Rack.state l.rack) (Ok tt);
  within : l.done ≤ length l.image.values.now;
}

abbrev pub decreases-loop-done : goal.decreases-loop-done
decreases-loop-done g l = length l.image.values.now - l.done

-- What holds each time round the loop of read_bytes.
use Rattle.raster_samples.specs.Runs.{AreNumbers}
use Rattle.raster_samples.proofs.read.read_bytes.Given as goal

abbrev pub invariant-loop-x : goal.invariant-loop-x
invariant-loop-x l = AreNumbers l.run 1 l.bytes l.x l.row

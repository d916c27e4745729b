-- What holds each time round the loop of read.
use Rattle.raster_samples.specs.Reads.{AreRead}
use Rattle.raster_samples.proofs.read.read.Given as goal

abbrev pub invariant-loop-y : goal.invariant-loop-y
invariant-loop-y l = AreRead l.raster l.bytes l.rect l.y l.tints

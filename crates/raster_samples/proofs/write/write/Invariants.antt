-- What holds each time round the loop of write.
use Rattle.raster_samples.specs.Writes.{AreWritten}
use Rattle.raster_samples.proofs.write.write.Given as goal

abbrev pub invariant-loop-y : goal.invariant-loop-y
invariant-loop-y l = AreWritten l.raster l.tints l.rect l.y l.initial.bytes l.bytes

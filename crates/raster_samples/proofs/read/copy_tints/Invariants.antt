-- What holds each time round the loop of copy_tints.
use Rattle.raster_samples.specs.Reads.{AreTints}
use Rattle.raster_samples.proofs.read.copy_tints.Given as goal

abbrev pub invariant-loop-y : goal.invariant-loop-y
invariant-loop-y l = AreTints l.raster l.bytes l.rect l.y l.tints

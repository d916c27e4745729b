-- What holds each time round the loop of read_words.
use Rattle.raster_samples.specs.Runs.{AreNumbers}
use Rattle.raster_samples.proofs.read.read_words.Given as goal

abbrev pub invariant-loop-x : goal.invariant-loop-x
invariant-loop-x l = AreNumbers l.run 2 l.bytes l.x l.row

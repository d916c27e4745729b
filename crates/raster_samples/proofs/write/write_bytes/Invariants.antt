-- What holds each time round the loop of write_bytes.
use Rattle.raster_samples.specs.Runs.{IsRunPut}
use Rattle.raster_samples.proofs.write.write_bytes.Given as goal

abbrev pub invariant-loop-x : goal.invariant-loop-x
invariant-loop-x l = IsRunPut l.run 1 l.zero l.maxval l.row l.x l.initial.bytes l.bytes

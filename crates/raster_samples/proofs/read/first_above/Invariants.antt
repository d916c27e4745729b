-- What holds each time round the loop of first_above.
use Rattle.std.proofs.Common.{ℕ, ◌<◌, ◌≤◌, get_or}
use Rattle.raster_samples.proofs.read.first_above.Given as goal

abbrev pub invariant-loop-x : goal.invariant-loop-x
invariant-loop-x l = (k : ℕ) → k < l.x → get_or l.row k 0 ≤ l.maxval

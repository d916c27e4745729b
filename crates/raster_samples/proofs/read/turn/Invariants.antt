-- What holds each time round the loop of turn.
use Rattle.std.proofs.Common.{◌≡◌, ℕ, ◌<◌, ◌≤◌, get_or}
use Rattle.raster_samples.specs.declared.raster.Zero.TheVariants.{Ink}
use Rattle.raster_samples.specs.Samples.{turned}
use Rattle.raster_samples.proofs.read.turn.Given as goal

abbrev pub invariant-loop-number : goal.invariant-loop-number
invariant-loop-number l = record {
  done : (k : ℕ) → k < l.number-index → get_or l.row k 0 ≡ turned Ink l.maxval (get_or l.initial.row k 0);
  rest : (k : ℕ) → l.number-index ≤ k → get_or l.row k 0 ≡ get_or l.initial.row k 0;
}

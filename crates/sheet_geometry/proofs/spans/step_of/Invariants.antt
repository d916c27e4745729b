-- The loops of step_of: the least number of samples, at a resolution in samples to an inch, that is
-- a whole number of ten-thousandths of a point.
use Rattle.std.proofs.Common.{◌≢◌, ℕ, ◌*◌, ◌%◌, ◌<◌, ◌≤◌}
use Rattle.sheet_geometry.proofs.spans.step_of.Given as goal

abbrev pub invariant-loop-step : goal.invariant-loop-step
invariant-loop-step l = (k : ℕ) → 1 ≤ k → k < l.step → (720000 * k) % l.resolution ≢ 0

-- What holds each time round the loop of are_fit.
use Rattle.std.proofs.Common.{◌<◌, ◌≤◌, ℕ, slice_index}
use Rattle.trap_c.proofs.fit.are_fit.Given as goal

abbrev pub invariant-loop-tint : goal.invariant-loop-tint
invariant-loop-tint l = (k : ℕ) → k < l.tint-index → slice_index l.tints k ≤ l.most

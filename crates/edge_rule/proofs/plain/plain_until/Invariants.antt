-- The loops of plain_until: how many samples from x on, at most so many, lie in the zone of x, with
-- those to their right and below them.
use Rattle.std.proofs.Common.{◌≡◌, ◌≤◌, ◌<◌, ◌+◌, ◌-◌, ℕ, slice_index}
use Rattle.edge_rule.proofs.plain.plain_until.Given as goal

abbrev pub invariant-loop-count : goal.invariant-loop-count
invariant-loop-count l = record {
  few : l.count ≤ l.most;
  here : (k : ℕ) → k ≤ l.count → slice_index l.here (l.x + k) ≡ slice_index l.here l.x;
  below : (k : ℕ) → k < l.count → slice_index l.below (l.x + k) ≡ slice_index l.here l.x;
}

abbrev pub decreases-loop-count : goal.decreases-loop-count
decreases-loop-count l = l.most - l.count

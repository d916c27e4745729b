-- The loops of has_step: whether the tint falls or rises somewhere by at least the step.
use Rattle.std.proofs.Common.{◌≡◌, ◌≤◌, ◌<◌, ◌-◌, ℕ, length, slice_index}
use Rattle.edge_rule.proofs.pairs.has_step.Given as goal

abbrev pub invariant-loop-k : goal.invariant-loop-k
invariant-loop-k l = record {
  end : l.k-end ≡ length l.here;
  falls : (j : ℕ) → j < l.k → slice_index l.here j - slice_index l.there j ≤ l.most;
  rises : (j : ℕ) → j < l.k → slice_index l.there j - slice_index l.here j ≤ l.most;
}

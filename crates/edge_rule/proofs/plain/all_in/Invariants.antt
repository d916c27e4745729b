-- The loops of all_in: whether all these samples lie in the zone.
use Rattle.std.proofs.Common.{◌≡◌, ◌<◌, ℕ, true, length, slice_index}
use Rattle.edge_rule.proofs.plain.all_in.Given as goal

abbrev pub invariant-loop-k : goal.invariant-loop-k
invariant-loop-k l = record {
  end : l.k-end ≡ length l.zones;
  done : l.all ≡ true → (j : ℕ) → j < l.k → slice_index l.zones j ≡ l.zone;
}

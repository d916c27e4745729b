-- The loops of keep_risen: keeps of the pairs at which some plate falls those at which some plate
-- rises.
use Rattle.std.proofs.Common.{◌≡◌, ◌≤◌, ◌<◌, ◌&&◌, ℕ, false, length, slice_index_or}
use Rattle.edge_rule.proofs.pairs.keep_risen.Given as goal

abbrev pub invariant-loop-k : goal.invariant-loop-k
invariant-loop-k l = record {
  end : l.k-end ≡ length l.initial.fallen;
  len : length l.fallen ≡ length l.initial.fallen;
  done : (j : ℕ) → j < l.k → slice_index_or l.fallen j false ≡ (slice_index_or l.initial.fallen j false && slice_index_or l.risen j false);
  rest : (j : ℕ) → l.k ≤ j → j < length l.initial.fallen → slice_index_or l.fallen j false ≡ slice_index_or l.initial.fallen j false;
}

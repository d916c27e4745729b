-- The loops of keep_open: keeps the pairs of which neither sample is shut.
use Rattle.std.proofs.Common.{◌≡◌, ◌≤◌, ◌<◌, ◌&&◌, ℕ, false, length, not, slice_index_or}
use Rattle.edge_rule.specs.Pairs.{along}
use Rattle.page_model.specs.Density.{shut}
use Rattle.edge_rule.proofs.pairs.keep_open.Given as goal

abbrev pub invariant-loop-k : goal.invariant-loop-k
invariant-loop-k l = record {
  end : l.k-end ≡ length l.initial.kept;
  len : length l.kept ≡ length l.initial.kept;
  done : (j : ℕ) → j < l.k → slice_index_or l.kept j false ≡ (slice_index_or l.initial.kept j false && (not (shut l.page (along l.p j)) && not (shut l.page (along l.q j))));
  rest : (j : ℕ) → l.k ≤ j → j < length l.initial.kept → slice_index_or l.kept j false ≡ slice_index_or l.initial.kept j false;
}

-- The loops of note_differences: notes where the tints differ.
use Rattle.std.proofs.Common.{◌≡◌, ◌≤◌, ◌<◌, ◌||◌, ℕ, false, length, not, slice_index, slice_index_or}
use Rattle.std.specs.Prelude.{◌==◌}
use Rattle.page_tally.proofs.changes.note_differences.Given as goal

abbrev pub invariant-loop-k : goal.invariant-loop-k
invariant-loop-k l = record {
  end : l.k-end ≡ length l.after;
  len : length l.changes ≡ length l.initial.changes;
  done : (j : ℕ) → j < l.k → slice_index_or l.changes j false ≡ (slice_index_or l.initial.changes j false || not (slice_index l.after j == slice_index l.before j));
  rest : (j : ℕ) → l.k ≤ j → j < length l.after → slice_index_or l.changes j false ≡ slice_index_or l.initial.changes j false;
}

-- The loops of add_counts: adds to each count the other of its place.
use Rattle.std.proofs.Common.{◌≡◌, ℕ, ◌+◌, ◌<◌, ◌≤◌, length, slice_index}
use Rattle.page_tally.proofs.sums.add_counts.Given as goal

abbrev pub invariant-loop-z : goal.invariant-loop-z
invariant-loop-z l = record {
  end : l.z-end ≡ length l.initial.counts;
  len : length l.counts ≡ length l.initial.counts;
  done : (j : ℕ) → j < l.z → slice_index l.counts j ≡ slice_index l.initial.counts j + slice_index l.more j;
  rest : (j : ℕ) → l.z ≤ j → slice_index l.counts j ≡ slice_index l.initial.counts j;
}

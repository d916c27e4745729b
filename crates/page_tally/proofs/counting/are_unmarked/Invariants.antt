-- Samples without a mark: so far.
use Rattle.std.proofs.Common.{◌≡◌, ◌<◌, ◌+◌, ℕ, true, slice_index}
use Rattle.page_tally.proofs.counting.are_unmarked.Given as goal

abbrev pub invariant-loop-k : goal.invariant-loop-k
invariant-loop-k l = l.none ≡ true → (j : ℕ) → j < l.k → slice_index l.marks (l.from + j) ≡ 0

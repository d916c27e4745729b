-- The loops of differences_here: how many tints of a block differ.
use Rattle.std.proofs.Common.{◌≡◌, ◌≤◌, length, not, slice_index}
use Rattle.std.specs.Prelude.{◌==◌}
use Rattle.lists.specs.Words.{count_below}
use Rattle.page_tally.proofs.changes.differences_here.Given as goal

abbrev pub invariant-loop-k : goal.invariant-loop-k
invariant-loop-k l = record { end : l.k-end ≡ length l.after; count : l.count ≡ count_below (λ k. not (slice_index l.after k == slice_index l.before k)) l.k; few : l.count ≤ l.k }

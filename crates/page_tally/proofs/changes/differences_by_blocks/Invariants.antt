-- How many tints differ: those of the blocks gone over.
use Rattle.std.proofs.Common.{◌≡◌, ◌≤◌, ◌-◌, length, not, slice_index}
use Rattle.std.specs.Prelude.{◌==◌}
use Rattle.lists.specs.Words.{count_below}
use Rattle.page_tally.proofs.changes.differences_by_blocks.Given as goal

abbrev pub invariant-loop-from : goal.invariant-loop-from
invariant-loop-from l = record {
  inside : l.from ≤ length l.after;
  count : l.count ≡ count_below (λ k. not (slice_index l.after k == slice_index l.before k)) l.from;
  few : l.count ≤ l.from;
}

abbrev pub decreases-loop-from : goal.decreases-loop-from
decreases-loop-from l = length l.after - l.from

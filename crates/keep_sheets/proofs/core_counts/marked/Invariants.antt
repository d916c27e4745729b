-- The loop of marked: how many of the entries so far are not 0.
use Rattle.std.proofs.Common.{◌≡◌, ◌+◌, ◌≤◌, ◌==◌, not, slice_index}
use Rattle.lists.specs.Words.{sum_below}
use Rattle.sheet_geometry.specs.Areas.{one_if}
use Rattle.keep_sheets.proofs.core_counts.marked.Given as goal

abbrev pub invariant-loop-k : goal.invariant-loop-k
invariant-loop-k l = record {
  counted : l.marked ≡ sum_below (λ i. one_if (not (slice_index l.marks (l.from + i) == 0))) l.k;
  few : l.marked ≤ l.k;
}

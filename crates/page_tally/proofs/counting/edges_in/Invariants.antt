-- The edges of a row: those of the blocks gone over.
use Rattle.std.proofs.Common.{◌≡◌, ◌≤◌, ◌+◌, ◌-◌, ◌*◌, ◌/◌, ◌%◌, length, slice_index}
use Rattle.lists.specs.Words.{sum_below}
use Rattle.page_tally.proofs.counting.edges_in.Given as goal

abbrev pub invariant-loop-x : goal.invariant-loop-x
invariant-loop-x l = record {
  inside : l.x ≤ length l.marks;
  count : l.count ≡ sum_below (λ x. slice_index l.marks x % 2 + slice_index l.marks x / 2) l.x;
  few : l.count ≤ 128 * l.x;
}

abbrev pub decreases-loop-x : goal.decreases-loop-x
decreases-loop-x l = length l.marks - l.x

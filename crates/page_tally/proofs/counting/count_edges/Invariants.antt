-- The edges of a block: those of the samples gone over.
use Rattle.std.proofs.Common.{◌≡◌, ◌≤◌, ◌+◌, ◌*◌, ◌/◌, ◌%◌, slice_index}
use Rattle.lists.specs.Words.{sum_below}
use Rattle.page_tally.proofs.counting.count_edges.Given as goal

abbrev pub invariant-loop-k : goal.invariant-loop-k
invariant-loop-k l = record {
  edges : l.edges ≡ sum_below (λ k. slice_index l.marks (l.from + k) % 2 + slice_index l.marks (l.from + k) / 2) l.k;
  few : l.edges ≤ 128 * l.k;
}

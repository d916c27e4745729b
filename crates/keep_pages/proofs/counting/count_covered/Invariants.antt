use Rattle.std.proofs.Common.{◌≡◌, ◌≤◌, ◌==◌, not, slice_index}
use Rattle.lists.specs.Words.{count_below}
use Rattle.keep_pages.proofs.counting.count_covered.Given as goal

abbrev pub invariant-loop-k : goal.invariant-loop-k
invariant-loop-k l = record {
  counted : l.count ≡ count_below (λ i. not (slice_index l.marks i == 0)) l.k;
  few : l.count ≤ l.k;
}

use Rattle.std.proofs.Common.{◌≡◌, ◌≤◌, ◌==◌, not, slice_index}
use Rattle.lists.specs.Words.{count_below}
use Rattle.keep_pages.proofs.counting.count_changed.Given as goal

abbrev pub invariant-loop-k : goal.invariant-loop-k
invariant-loop-k l = record {
  counted : l.count ≡ count_below (λ i. not (slice_index l.new i == slice_index l.old i)) l.k;
  few : l.count ≤ l.k;
}

-- The loops of write_marks: writes the marks of which these are the two halves.
use Rattle.std.proofs.Common.{◌≡◌, ◌<◌, ◌+◌, ℕ, false, if◌then◌else◌, length, slice_index, slice_index_or}
use Rattle.edge_rule.proofs.plain.write_marks.Given as goal

abbrev pub invariant-loop-k : goal.invariant-loop-k
invariant-loop-k l = record {
  end : l.k-end ≡ length l.initial.out;
  len : length l.out ≡ length l.initial.out;
  done : (j : ℕ) → j < l.k → slice_index l.out j ≡ (if slice_index_or l.right j false then 1 else 0) + (if slice_index_or l.lower j false then 2 else 0);
}

use Rattle.std.proofs.Common.{◌≡◌, ◌+◌, ◌<◌, ◌≤◌, ℕ, length, slice_index}
use Rattle.underprint.proofs.colour.add_tints.Given as goal

abbrev pub invariant-loop-x : goal.invariant-loop-x
invariant-loop-x l = record {
  long : length l.sums ≡ length l.initial.sums;
  done : (i : ℕ) → i < l.x → slice_index l.sums i ≡ slice_index l.initial.sums i + slice_index l.tints i;
  later : (i : ℕ) → l.x ≤ i → slice_index l.sums i ≡ slice_index l.initial.sums i;
}

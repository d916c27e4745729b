use Rattle.std.proofs.Common.{◌≡◌, ◌<◌, ◌≤◌, ℕ, slice_index}
use Rattle.keepaway.proofs.marks.clear.Given as goal

abbrev pub invariant-loop-x : goal.invariant-loop-x
invariant-loop-x l = record {
  block : (i : ℕ) → l.from ≤ i → i < l.x → slice_index l.marks i ≡ 0;
  before : (i : ℕ) → i < l.from → slice_index l.marks i ≡ slice_index l.initial.marks i;
}

use Rattle.std.proofs.Common.{◌≡◌, ◌<◌, ◌≤◌, ◌==◌, ℕ, slice_index, if◌then◌else◌}
use Rattle.draw_back.proofs.block.restore.Given as goal

abbrev pub invariant-loop-x : goal.invariant-loop-x
invariant-loop-x l = record {
  block : (i : ℕ) → l.fn.span.from ≤ i → i < l.x → slice_index l.out i ≡ (if slice_index l.marks i == 2 then slice_index l.initial.out i else slice_index l.tints i);
  before : (i : ℕ) → i < l.fn.span.from → slice_index l.out i ≡ slice_index l.initial.out i;
  past : (i : ℕ) → l.x ≤ i → slice_index l.out i ≡ slice_index l.initial.out i;
}

use Rattle.std.proofs.Common.{◌≡◌, ◌<◌, ◌≤◌, ℕ, slice_index}
use Rattle.keepaway.specs.Rows.{mark}
use Rattle.keepaway.proofs.marks.mark_pixels.Given as goal

abbrev pub invariant-loop-x : goal.invariant-loop-x
invariant-loop-x l = record {
  block : (i : ℕ) → l.from ≤ i → i < l.x → slice_index l.marks i ≡ mark l.page l.limit (record { x = i; y = l.y });
  before : (i : ℕ) → i < l.from → slice_index l.marks i ≡ slice_index l.initial.marks i;
}

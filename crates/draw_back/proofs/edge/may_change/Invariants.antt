use Rattle.std.proofs.Common.{◌≡◌, ◌<◌, ◌≤◌, ℕ, false, slice_index}
use Rattle.draw_back.proofs.edge.may_change.Given as goal

abbrev pub invariant-loop-x : goal.invariant-loop-x
invariant-loop-x l = l.found ≡ false → (i : ℕ) → l.from ≤ i → i < l.x → slice_index l.marks i ≡ 2 → slice_index l.tints i ≡ 0

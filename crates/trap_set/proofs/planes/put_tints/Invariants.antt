-- The loops of put_tints: puts a tint in the places from one to before another.
use Rattle.std.proofs.Common.{◌≡◌, ℕ, ◌<◌, ◌≤◌, length, slice_index}
use Rattle.trap_set.proofs.planes.put_tints.Given as goal

abbrev pub invariant-loop-place : goal.invariant-loop-place
invariant-loop-place l = record {
  many : length l.tints ≡ length l.initial.tints;
  before : (k : ℕ) → k < l.from → slice_index l.tints k ≡ slice_index l.initial.tints k;
  here : (k : ℕ) → l.from ≤ k → k < l.place → slice_index l.tints k ≡ l.tint;
  suffix : (k : ℕ) → l.place ≤ k → slice_index l.tints k ≡ slice_index l.initial.tints k;
}

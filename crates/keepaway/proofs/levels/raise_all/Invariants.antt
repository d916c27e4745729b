use Rattle.std.proofs.Common.{◌≡◌, ◌<◌, ◌≤◌, ℕ, max, nat_le, nat_lt, slice_index, if◌then◌else◌}
use Rattle.keepaway.proofs.levels.raise_all.Given as goal

abbrev pub invariant-loop-x : goal.invariant-loop-x
invariant-loop-x l = record {
  done : (i : ℕ) → i < l.x → slice_index l.levels i ≡ max (slice_index l.initial.levels i) (if nat_lt 0 (slice_index l.tints i) then (if nat_le l.least (slice_index l.tints i) then 2 else 1) else 0);
  later : (i : ℕ) → l.x ≤ i → slice_index l.levels i ≡ slice_index l.initial.levels i;
}

-- The loops of put_last: puts the value in the places from `from` on that are before `reach`.
use Rattle.std.proofs.Common.{◌≡◌, ◌<◌, ◌≤◌, ℕ, nat_lt, slice_index, if◌then◌else◌}
use Rattle.misregister.proofs.row.put_last.Given as goal

abbrev pub invariant-loop-x : goal.invariant-loop-x
invariant-loop-x l = record {
  put : (k : ℕ) → l.from ≤ k → k < l.x → slice_index l.until k ≡ (if nat_lt k l.reach then l.value else slice_index l.initial.until k);
  before : (k : ℕ) → k < l.from → slice_index l.until k ≡ slice_index l.initial.until k;
  later : (k : ℕ) → l.x ≤ k → slice_index l.until k ≡ slice_index l.initial.until k;
}

-- The loop of add_changes: the counts of the plates so far have grown, and the others not yet.
use Rattle.std.proofs.Common.{◌≡◌, ℕ, ◌+◌, ◌<◌, ◌≤◌, length, slice_index}
use Rattle.keep_sheets.specs.KeepSheets.{changes_at, core_sum}
use Rattle.keep_sheets.proofs.core_counts.add_changes.Given as goal

abbrev pub invariant-loop-c : goal.invariant-loop-c
invariant-loop-c l = record {
  long : length l.changed ≡ length l.fn.changed;
  done : (z : ℕ) → z < l.c → slice_index l.changed z ≡ slice_index l.fn.changed z + core_sum (changes_at l.used z l.page) l.core;
  rest : (z : ℕ) → l.c ≤ z → slice_index l.changed z ≡ slice_index l.fn.changed z;
}

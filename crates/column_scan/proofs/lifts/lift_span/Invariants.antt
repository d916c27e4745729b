-- How far a span is raised.
use Rattle.std.proofs.Common.{◌≡◌, ◌≤◌, ◌<◌, ◌+◌, ◌*◌, ℕ, length, slice_index}
use Rattle.column_scan.specs.Sweep.{raised}
use Rattle.column_scan.proofs.lifts.lift_span.Given as goal

abbrev pub invariant-loop-j : goal.invariant-loop-j
invariant-loop-j l = record {
  len : length l.out ≡ length l.initial.out;
  done : (i : ℕ) → i < l.j → slice_index l.out (l.k * l.columns + l.from + i) ≡ raised l.reach2 (slice_index l.initial.out (l.k * l.columns + l.from + i)) (slice_index l.initial.out ((l.k + 1) * l.columns + l.from + i));
  before : (i : ℕ) → i < l.k * l.columns + l.from → slice_index l.out i ≡ slice_index l.initial.out i;
  after : (i : ℕ) → l.k * l.columns + l.from + l.j ≤ i → slice_index l.out i ≡ slice_index l.initial.out i;
}

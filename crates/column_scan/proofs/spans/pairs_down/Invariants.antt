-- How far the codes of a span are taken down.
use Rattle.std.proofs.Common.{◌≡◌, ◌≤◌, ◌<◌, ◌+◌, ◌*◌, ℕ, length, slice_index}
use Rattle.column_scan.specs.Sweep.{above_of}
use Rattle.column_scan.proofs.spans.pairs_down.Given as goal

abbrev pub invariant-loop-k : goal.invariant-loop-k
invariant-loop-k g l = record {
  len : length l.codes ≡ 2 * l.count;
  done : (j : ℕ) → j < 2 * l.k → slice_index l.codes j ≡ above_of l.marks (2 * l.x + j) l.reach2 (l.r + 1);
  rest : (j : ℕ) → 2 * l.k ≤ j → j < 2 * l.count → slice_index l.codes j ≡ above_of l.marks (2 * l.x + j) l.reach2 l.r;
  steps : l.steps ≡ l.initial.steps + 2 * l.k;
}

-- How far the codes are looked at.
use Rattle.std.proofs.Common.{◌≡◌, ◌≤◌, ◌<◌, ℕ, true, slice_index}
use Rattle.column_scan.proofs.lifts.are_zero.Given as goal

abbrev pub invariant-loop-k : goal.invariant-loop-k
invariant-loop-k l = record {
  from : l.from ≤ l.k;
  done : l.all ≡ true → (j : ℕ) → l.from ≤ j → j < l.k → slice_index l.codes j ≡ 0;
  none : ((j : ℕ) → l.from ≤ j → j < l.fn.to → slice_index l.codes j ≡ 0) → l.all ≡ true;
}

-- The loops of rows_up: goes up over the asked rows.
use Rattle.std.proofs.Common.{◌≡◌, ◌+◌, ◌-◌, ◌*◌, ◌<◌, ◌≤◌, ℕ, length}
use Rattle.column_scan.specs.Sweep.{above_of, column_of, slot}
use Rattle.column_scan.proofs.sweeps.rows_up.Given as goal

abbrev pub invariant-loop-i : goal.invariant-loop-i
invariant-loop-i l = record { end : l.i-end ≡ l.rows - 1; len : length l.out ≡ l.rows * l.columns; low : (k x2 : ℕ) → k + l.i + 1 < l.rows → x2 < l.columns → slot l.out l.columns k x2 ≡ above_of l.marks x2 l.reach2 (l.first + k); high : (k x2 : ℕ) → l.rows ≤ k + l.i + 1 → k < l.rows → x2 < l.columns → slot l.out l.columns k x2 ≡ column_of l.marks x2 l.reach2 (l.first + k) }

-- The loops of rows_down: goes down over the asked rows.
use Rattle.std.proofs.Common.{◌≡◌, ◌+◌, ◌-◌, ◌*◌, ◌<◌, ◌≤◌, ℕ, length}
use Rattle.column_scan.specs.Sweep.{above_of, slot}
use Rattle.column_scan.proofs.sweeps.rows_down.Given as goal

abbrev pub invariant-loop-k : goal.invariant-loop-k
invariant-loop-k g l = record { end : l.k-end ≡ l.rows - 1; len : length l.out ≡ l.rows * l.columns; above : (k x2 : ℕ) → k ≤ l.k → x2 < l.columns → slot l.out l.columns k x2 ≡ above_of l.marks x2 l.reach2 (l.first + k); steps : l.steps ≡ l.initial.steps + l.k * l.columns }

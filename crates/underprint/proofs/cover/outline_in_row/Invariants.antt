use Rattle.std.proofs.Common.{◌≡◌, ◌-◌, ◌<◌, ◌≤◌, ◌==◌, ◌&&◌, ℕ, not, false, slice_index}
use Rattle.underprint.proofs.cover.outline_in_row.Given as goal

abbrev pub invariant-loop-j : goal.invariant-loop-j
invariant-loop-j l = (k : ℕ) → l.x - 1 ≤ k → k < l.j → (not (l.left_out && (k == l.x)) && (slice_index l.row k == 0)) ≡ false

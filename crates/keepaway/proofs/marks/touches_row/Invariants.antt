use Rattle.std.proofs.Common.{◌≡◌, ◌-◌, ◌<◌, ◌≤◌, ℕ, slice_index}
use Rattle.keepaway.proofs.marks.touches_row.Given as goal

abbrev pub invariant-loop-j : goal.invariant-loop-j
invariant-loop-j l = (k : ℕ) → l.x - 1 ≤ k → k < l.j → slice_index l.row k ≡ 2 → ⊥

use Rattle.std.proofs.Common.{◌≡◌, ◌-◌, ◌<◌, ◌≤◌, ℕ, false}
use Rattle.keepaway.specs.Keepaway.{touches_row}
use Rattle.keepaway.proofs.marks.touches.Given as goal

abbrev pub invariant-loop-y : goal.invariant-loop-y
invariant-loop-y l = (k : ℕ) → l.p.y - 1 ≤ k → k < l.y → touches_row l.page l.limit l.p.x k ≡ false

use Rattle.std.proofs.Common.{◌≡◌, ◌-◌, ◌<◌, ◌≤◌, ℕ, false}
use Rattle.underprint.specs.Underprint.{outline_in_row}
use Rattle.underprint.proofs.cover.touches_outline.Given as goal

abbrev pub invariant-loop-y : goal.invariant-loop-y
invariant-loop-y l = (k : ℕ) → l.p.y - 1 ≤ k → k < l.y → outline_in_row l.page l.whites l.p k ≡ false

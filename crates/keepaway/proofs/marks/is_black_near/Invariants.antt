use Rattle.std.proofs.Common.{◌≡◌, ◌+◌, ◌-◌, ◌<◌, ◌≤◌, ℕ}
use Rattle.page_model.specs.Page.{width}
use Rattle.keepaway.specs.Keepaway.{level}
use Rattle.keepaway.proofs.marks.is_black_near.Given as goal

abbrev pub invariant-loop-k : goal.invariant-loop-k
invariant-loop-k l = (j i : ℕ) → j < width l.page → l.from ≤ j + 1 → j ≤ l.to → l.y - 1 ≤ i → i < l.k → level l.page l.limit (record { x = j; y = i }) ≡ 2 → ⊥

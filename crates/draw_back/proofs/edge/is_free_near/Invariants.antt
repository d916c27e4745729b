use Rattle.std.proofs.Common.{◌≡◌, ◌+◌, ◌-◌, ◌<◌, ◌≤◌, ℕ}
use Rattle.draw_back.specs.Fields.{entry}
use Rattle.draw_back.proofs.edge.is_free_near.Given as goal

abbrev pub invariant-loop-k : goal.invariant-loop-k
invariant-loop-k l = (j i : ℕ) → j < l.field.wide → i < l.k → l.fn.span.from - l.fn.reach.radius ≤ j → j < l.fn.span.to + l.fn.reach.radius → l.y - l.fn.reach.radius ≤ i → entry l.field.marks l.field.wide j i ≡ 0 → ⊥

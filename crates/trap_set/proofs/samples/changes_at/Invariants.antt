-- The loops of changes_at: whether some plane has another tint than before at a sample.
use Rattle.std.proofs.Common.{◌≡◌, ℕ, not, ◌==◌}
use Rattle.lists.specs.Words.{any_below}
use Rattle.trap_set.specs.Runs.{tint_at}
use Rattle.trap_set.proofs.samples.changes_at.Given as goal

abbrev pub invariant-loop-c : goal.invariant-loop-c
invariant-loop-c l = l.any ≡ any_below (λ (c : ℕ). not (tint_at l.old c l.x l.y == tint_at l.new c l.x l.y)) l.c

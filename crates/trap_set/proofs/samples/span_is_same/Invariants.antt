-- The loops of span_is_same: whether no plane has another tint than before at some samples of a
-- row, one beside another.
use Rattle.std.proofs.Common.{◌≡◌, ◌<◌, ◌≤◌, ◌==◌, ℕ, false, not}
use Rattle.lists.specs.Words.{any_below}
use Rattle.trap_set.specs.Runs.{tint_at}
use Rattle.trap_set.proofs.samples.span_is_same.Given as goal

abbrev pub invariant-loop-c : goal.invariant-loop-c
invariant-loop-c l = (x : ℕ) → l.from ≤ x → x < l.to → any_below (λ (c : ℕ). not (tint_at l.old c x l.y == tint_at l.new c x l.y)) l.c ≡ false

-- The loops of same_as_left: whether a sample has the new tints of the sample to its left.
use Rattle.std.proofs.Common.{◌≡◌, ℕ, suc, not, ◌==◌}
use Rattle.lists.specs.Words.{any_below}
use Rattle.trap_set.specs.Runs.{tint_at}
use Rattle.trap_set.proofs.samples.same_as_left.Given as goal

abbrev pub invariant-loop-c : goal.invariant-loop-c
invariant-loop-c l = l.any ≡ any_below (λ (c : ℕ). not (tint_at l.new c l.left l.y == tint_at l.new c (suc l.left) l.y)) l.c

-- The loops of are_same: whether the tints at each place are the same.
use Rattle.std.proofs.Common.{◌≡◌, ◌<◌, ℕ, IsTrue, get_or}
use Rattle.trap_set.proofs.samples.are_same.Given as goal

abbrev pub invariant-loop-k : goal.invariant-loop-k
invariant-loop-k l = IsTrue l.same → (i : ℕ) → i < l.k → get_or l.old i 0 ≡ get_or l.new i 0

-- The loops of settle: drops the entries of the hull that arm i hides.
use Rattle.std.proofs.Common.{◌≤◌, ◌<◌, ◌+◌, ℕ, suc, slice_index}
use Rattle.row_envelope.specs.Hull.{Wins}
use Rattle.row_envelope.proofs.hull.settle.Given as goal

abbrev pub invariant-loop-left : goal.invariant-loop-left
invariant-loop-left g l = record { fewer : l.left ≤ l.stored; cost : l.steps + l.left ≤ l.initial.steps + l.stored; beyond : (x2 : ℕ) → l.left < l.stored → slice_index l.starts l.left ≤ x2 → x2 ≤ l.last → Wins l.arms (suc l.i) x2 l.i }

abbrev pub decreases-loop-left : goal.decreases-loop-left
decreases-loop-left g l = l.left

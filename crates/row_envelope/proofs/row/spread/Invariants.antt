-- The loops of spread: gives each sample the hull's entry that has it, entry by entry.
use Rattle.std.proofs.Common.{◌≤◌, ◌<◌, ◌≡◌, ◌*◌, ◌-◌, ℕ, length, slice_index, slice_index_or, None}
use Rattle.row_envelope.specs.Envelope.{nearest}
use Rattle.row_envelope.proofs.row.spread.Given as goal

abbrev pub invariant-loop-x : goal.invariant-loop-x
invariant-loop-x l = record { k : l.k < l.stored; inside : l.x ≤ length l.initial.out; out : length l.out ≡ length l.initial.out; begun : slice_index l.starts l.k ≤ 2 * l.x; done : (j : ℕ) → j < l.x → slice_index_or l.out j None ≡ nearest l.arms j }

abbrev pub decreases-loop-x : goal.decreases-loop-x
decreases-loop-x l = length l.initial.out - l.x

abbrev pub invariant-loop-k : goal.invariant-loop-k
invariant-loop-k l = record { k : l.k < l.stored; begun : slice_index l.starts l.k ≤ 2 * l.x }

abbrev pub decreases-loop-k : goal.decreases-loop-k
decreases-loop-k l = l.stored - l.k

-- The loops of clear: no sample has a nearest arm.
use Rattle.std.proofs.Common.{◌<◌, ◌≡◌, ℕ, slice_index_or, None}
use Rattle.row_envelope.proofs.row.clear.Given as goal

abbrev pub invariant-loop-slot : goal.invariant-loop-slot
invariant-loop-slot l = (x : ℕ) → x < l.slot-index → slice_index_or l.out x None ≡ None

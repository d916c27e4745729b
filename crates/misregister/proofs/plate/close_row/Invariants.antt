-- The loops of close_row: the samples of row y that no row bares are not at risk.
use Rattle.std.proofs.Common.{ℕ, nat_lt, length, slice_index, if◌then◌else◌}
use Rattle.misregister.specs.Sweep.{IsRowSoFar, at}
use Rattle.misregister.proofs.plate.close_row.Given as goal

abbrev pub invariant-loop-x : goal.invariant-loop-x
invariant-loop-x l = IsRowSoFar l.initial.shades l.shades (length l.until) l.y (λ (k : ℕ). if nat_lt l.y (slice_index l.until k) then at l.initial.shades (length l.until) l.y k else 0) l.x

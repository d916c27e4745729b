-- The loops of darken_row: no sample of row y is lighter than the plate's row.
use Rattle.std.proofs.Common.{ℕ, min, length, slice_index}
use Rattle.misregister.specs.Sweep.{IsRowSoFar, at}
use Rattle.misregister.proofs.plate.darken_row.Given as goal

abbrev pub invariant-loop-x : goal.invariant-loop-x
invariant-loop-x l = IsRowSoFar l.initial.shades l.shades (length l.row) l.y (λ (k : ℕ). min (at l.initial.shades (length l.row) l.y k) (slice_index l.row k)) l.x

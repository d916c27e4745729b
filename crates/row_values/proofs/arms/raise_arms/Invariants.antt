-- The loops of raise_arms: writes the arms of the columns that have a code, with their columns, and
-- gives their number.
use Rattle.std.proofs.Common.{◌≡◌, ◌≤◌, ◌-◌, length}
use Rattle.row_values.specs.Arms.{AreArms}
use Rattle.row_values.proofs.arms.raise_arms.Given as goal

abbrev pub invariant-loop-x2 : goal.invariant-loop-x2
invariant-loop-x2 l = record { inside : l.x2 ≤ length l.codes; arms : length l.arms ≡ length l.initial.arms; columns : length l.columns ≡ length l.initial.columns; so_far : AreArms l.codes l.x2 l.arms l.columns l.raised }

abbrev pub decreases-loop-x2 : goal.decreases-loop-x2
decreases-loop-x2 l = length l.codes - l.x2

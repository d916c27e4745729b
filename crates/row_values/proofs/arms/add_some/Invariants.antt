-- The loops of add_some: adds the arms of so many columns from x2 on, and gives the new number of
-- arms.
use Rattle.std.proofs.Common.{◌≡◌, ◌≤◌, ◌+◌, length}
use Rattle.row_values.specs.Arms.{AreArms}
use Rattle.row_values.proofs.arms.add_some.Given as goal

abbrev pub invariant-loop-k : goal.invariant-loop-k
invariant-loop-k l = record { end : l.k-end ≡ l.x2 + l.count; from : l.x2 ≤ l.k; arms : length l.arms ≡ length l.initial.arms; columns : length l.columns ≡ length l.initial.columns; so_far : AreArms l.codes l.k l.arms l.columns l.raised }

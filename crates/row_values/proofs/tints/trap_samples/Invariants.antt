-- The loops of trap_samples: traps the samples of a row.
use Rattle.std.proofs.Common.{◌≡◌, ◌≤◌, ◌-◌, length}
use Rattle.page_model.specs.Page.{plates, width}
use Rattle.row_values.specs.Quiet.{IsRowTo}
use Rattle.row_values.proofs.tints.trap_samples.Given as goal

abbrev pub invariant-loop-x : goal.invariant-loop-x
invariant-loop-x l = record { wide : l.width ≡ width l.page; inside : l.x ≤ width l.page; tints : length l.tints ≡ plates l.page; out : IsRowTo l.page l.row.y l.x l.out }

abbrev pub decreases-loop-x : goal.decreases-loop-x
decreases-loop-x l = width l.page - l.x

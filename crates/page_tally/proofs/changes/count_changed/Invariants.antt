-- The loops of count_changed: counts for each zone the samples of row y that change.
use Rattle.std.proofs.Common.{◌≤◌, ◌+◌, ◌-◌, ◌*◌, length}
use Rattle.page_model.specs.Page.{width}
use Rattle.page_tally.specs.Standing.{AreZonesCounted}
use Rattle.page_tally.proofs.changes.count_changed.Given as goal

abbrev pub invariant-loop-x : goal.invariant-loop-x
invariant-loop-x l = record { inside : l.x ≤ length l.changes; counts : AreZonesCounted l.page l.first (l.y * width l.page + l.x) l.counts }

abbrev pub decreases-loop-x : goal.decreases-loop-x
decreases-loop-x l = length l.changes - l.x

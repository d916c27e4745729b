-- The loops of count_block: counts for each zone the samples of row y that change, of some samples
-- from one on.
use Rattle.std.proofs.Common.{◌+◌, ◌*◌}
use Rattle.page_model.specs.Page.{width}
use Rattle.page_tally.specs.Standing.{AreZonesCounted}
use Rattle.page_tally.proofs.changes.count_block.Given as goal

abbrev pub invariant-loop-x : goal.invariant-loop-x
invariant-loop-x l = AreZonesCounted l.page l.first (l.y * width l.page + l.x) l.counts

-- The loops of count_each: counts the samples of row y from one on and before another, each in its
-- zone.
use Rattle.std.proofs.Common.{◌+◌, ◌*◌}
use Rattle.page_model.specs.Page.{width}
use Rattle.page_tally.specs.Standing.{AreSamplesCounted}
use Rattle.page_tally.proofs.counting.count_each.Given as goal

abbrev pub invariant-loop-x : goal.invariant-loop-x
invariant-loop-x l = AreSamplesCounted l.page l.first (l.y * width l.page + l.x) l.counts

-- The loops of count_zones: counts the samples of row y in their zones, block by block.
use Rattle.std.proofs.Common.{◌≤◌, ◌+◌, ◌-◌, ◌*◌, length}
use Rattle.page_model.specs.Page.{width}
use Rattle.page_tally.specs.Standing.{AreSamplesCounted}
use Rattle.page_tally.proofs.counting.count_zones.Given as goal

abbrev pub invariant-loop-x : goal.invariant-loop-x
invariant-loop-x l = record { inside : l.x ≤ length l.zones; counts : AreSamplesCounted l.page l.first (l.y * width l.page + l.x) l.counts }

abbrev pub decreases-loop-x : goal.decreases-loop-x
decreases-loop-x l = length l.zones - l.x

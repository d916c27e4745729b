-- The loops of tally_path: counts where the segments of a path cross the row at height y, and tells
-- how many do.
use Rattle.std.proofs.Common.{◌≡◌, ◌≤◌, ◌<◌, ◌+◌, ℕ, drop, length}
use Rattle.std.specs.Prelude.{◌+ℤ◌, sum}
use Rattle.page_model.specs.Conditions.{IsVertex}
use Rattle.page_model.specs.Zones.{turns, winding}
use Rattle.zone_map.specs.PagePoints.{middle}
use Rattle.zone_map.specs.Tallies.{left}
use Rattle.zone_map.proofs.tally.tally_path.Given as goal

abbrev pub invariant-loop-i : goal.invariant-loop-i
invariant-loop-i l = record {
  done : (x : ℕ) → x < l.width → left l.ups l.downs x +ℤ turns l.resolution (middle x l.y) l.start l.last (drop l.i l.path) ≡ winding l.resolution (middle x l.y) l.path;
  count : sum l.ups + sum l.downs ≡ l.crossings;
  few : l.crossings + 1 ≤ l.i;
  ups : length l.ups ≡ l.width + 1;
  downs : length l.downs ≡ l.width + 1;
  start_near : IsVertex l.start;
  last_near : IsVertex l.last;
}

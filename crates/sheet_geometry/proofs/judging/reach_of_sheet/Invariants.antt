-- The loops of reach_of_sheet: the reach of a sheet in half-samples.
use Rattle.std.proofs.Common.{◌≡◌, ◌≤◌, length}
use Rattle.lists.specs.Words.{greatest_below}
use Rattle.page_model.specs.Reach.{zone_reach}
use Rattle.sheet_geometry.proofs.judging.reach_of_sheet.Given as goal

abbrev pub invariant-loop-z : goal.invariant-loop-z
invariant-loop-z l = record { end : l.z-end ≡ length l.sheet.zones; reach : l.reach ≡ greatest_below (zone_reach l.sheet) l.z; bound : l.reach ≤ 256 }

-- The loops of Page::reach2: the reach of the page in half-samples.
use Rattle.std.proofs.Common.{◌≡◌, ◌≤◌, length}
use Rattle.page_model.specs.Reach.{zone_reach}
use Rattle.lists.specs.Words.{greatest_below}
use Rattle.page_model.proofs.page.Page.reach2.Given as goal

abbrev pub invariant-loop-z : goal.invariant-loop-z
invariant-loop-z l = record { end : l.z-end ≡ length l.self-inside.parts.zones; reach : l.reach ≡ greatest_below (zone_reach l.self-inside.parts) l.z; bound : l.reach ≤ 256 }

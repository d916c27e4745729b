-- How far the loops of `zones_of` have come.
use Rattle.std.proofs.Common.{◌≡◌, ◌++◌, map, take, drop}
use Rattle.page_files.specs.Assembly.{zone_for}
use Rattle.page_files.proofs.assemble.zones_of.Given as goal

abbrev pub invariant-loop-at : goal.invariant-loop-at
invariant-loop-at l = l.zones.items ≡ map (zone_for l.names) (take l.at l.initial.zones.items) ++ drop l.at l.initial.zones.items

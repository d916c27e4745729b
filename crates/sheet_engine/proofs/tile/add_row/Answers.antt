-- add_row: adds the counts of a part of a row.
use Rattle.std.proofs.Common.{arith}
use Rattle.std.proofs.lemmas.Grind.{common_steps}
use Rattle.sheet_engine.proofs.tile.add_row.Goals as goal

pub returns-clause-counts : goal.returns-clause-counts
returns-clause-counts c = grind (arith, common_steps)

pub add_changes-requires-clause-each : goal.add_changes-requires-clause-each
add_changes-requires-clause-each c = c.note_changes.ensures.each

pub add_changes-requires-clause-planes : goal.add_changes-requires-clause-planes
add_changes-requires-clause-planes c = grind (arith, common_steps)

pub add_changes-requires-clause-zone_workspace : goal.add_changes-requires-clause-zone_workspace
add_changes-requires-clause-zone_workspace c = grind (arith, common_steps)

pub add_changes-requires-clause-zones : goal.add_changes-requires-clause-zones
add_changes-requires-clause-zones c = grind (arith, common_steps)

pub add_zones-requires-clause-workspace : goal.add_zones-requires-clause-workspace
add_zones-requires-clause-workspace c = grind (arith, common_steps)

pub add_changes-requires-clause-plate_workspace : goal.add_changes-requires-clause-plate_workspace
add_changes-requires-clause-plate_workspace c = grind (arith, common_steps)

pub add_zones-requires-clause-zones : goal.add_zones-requires-clause-zones
add_zones-requires-clause-zones c = grind (arith, common_steps)

pub edges_of-requires-clause-marks : goal.edges_of-requires-clause-marks
edges_of-requires-clause-marks c = grind (arith, common_steps)

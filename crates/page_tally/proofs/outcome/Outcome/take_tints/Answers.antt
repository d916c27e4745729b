-- take_tints: goals that the search finds slowly.
use Rattle.std.proofs.Common.{arith}
use Rattle.std.proofs.lemmas.Grind.{common_steps}
use Rattle.page_tally.proofs.outcome.Outcome.take_tints.Goals as goal

pub returns-clause-plate_changed : goal.returns-clause-plate_changed
returns-clause-plate_changed c = grind (arith, common_steps)

pub returns-clause-zone_changed : goal.returns-clause-zone_changed
returns-clause-zone_changed c = grind (arith, common_steps)

pub count_changed-requires-clause-each : goal.count_changed-requires-clause-each
count_changed-requires-clause-each c = grind (arith, common_steps)

pub count_changed-requires-clause-zones : goal.count_changed-requires-clause-zones
count_changed-requires-clause-zones c = grind (arith, common_steps)

pub returns-clause-changes : goal.returns-clause-changes
returns-clause-changes c = grind (arith, common_steps)

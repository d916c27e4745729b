-- trap_tile: traps the page of a window, and adds the counts of its core.
use Rattle.std.proofs.lemmas.Grind.{common_steps}
use Rattle.std.proofs.Common.{arith, ◌∙◌}
use Rattle.sheet_engine.proofs.tile.trap_tile.Goals as goal

pub add_core-requires-clause-tints : goal.add_core-requires-clause-tints
add_core-requires-clause-tints c = c.trap_new_uncounted.ensures.tints

pub returns-clause-planes : goal.returns-clause-planes
returns-clause-planes c = c.add_core.ensures.planes ∙ c.trap_new_uncounted.ensures.planes

pub trap_new_uncounted-requires-clause-tints : goal.trap_new_uncounted-requires-clause-tints
trap_new_uncounted-requires-clause-tints c = record { shape = c.in_ok-workspace.ensures.workspace.outcome; planes = c.in_ok-workspace.ensures.rows.planes }

pub returns-clause-counts : goal.returns-clause-counts
returns-clause-counts c = c.add_core.ensures.counts

pub add_core-requires-clause-shape : goal.add_core-requires-clause-shape
add_core-requires-clause-shape c = grind (arith, common_steps)

pub trap_new_uncounted-requires-clause-workspace : goal.trap_new_uncounted-requires-clause-workspace
trap_new_uncounted-requires-clause-workspace c = grind (arith, common_steps)

pub add_core-requires-clause-workspace : goal.add_core-requires-clause-workspace
add_core-requires-clause-workspace c = grind (arith, common_steps)

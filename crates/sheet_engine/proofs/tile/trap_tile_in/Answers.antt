-- trap_tile_in: traps the page of a window, and adds the counts of its core.
use Rattle.std.proofs.lemmas.Grind.{common_steps}
use Rattle.std.proofs.Common.{arith, ◌∙◌}
use Rattle.sheet_engine.proofs.tile.trap_tile_in.Goals as goal

pub add_core-requires-clause-tints : goal.add_core-requires-clause-tints
add_core-requires-clause-tints c = c.trap_uncounted.ensures.tints

pub returns-clause-planes : goal.returns-clause-planes
returns-clause-planes c = c.add_core.ensures.planes ∙ c.trap_uncounted.ensures.planes

pub add_core-requires-clause-shape : goal.add_core-requires-clause-shape
add_core-requires-clause-shape c = grind (arith, common_steps)

pub returns-clause-shape : goal.returns-clause-shape
returns-clause-shape c = grind (arith, common_steps)

pub returns-clause-counts : goal.returns-clause-counts
returns-clause-counts c = grind (arith, common_steps)

pub add_core-requires-clause-workspace : goal.add_core-requires-clause-workspace
add_core-requires-clause-workspace c = grind (arith, common_steps)

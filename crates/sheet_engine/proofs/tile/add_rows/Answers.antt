-- add_rows: adds what is counted in a core, row by row.
use Rattle.std.proofs.lemmas.Grind.{common_steps}
use Rattle.std.proofs.Common.{arith}
use Rattle.sheet_engine.proofs.Growing.{area_next, area_none, workspace_left}
use Rattle.sheet_engine.proofs.tile.add_rows.Goals as goal

pub loop-k-init : goal.loop-k-init
loop-k-init c = record { changes = c.requires.changes; counts = area_none c.args.page.now c.args.core.now.left c.args.core.now.top c.args.core.now.width c.args.counts.now }

pub add_row-requires-clause-workspace : goal.add_row-requires-clause-workspace
add_row-requires-clause-workspace c = workspace_left c.args.page.now c.args.core.now.left c.args.core.now.top c.args.core.now.width c.args.core.now.height c.loop-k.k c.args.counts.now c.loop-k.counts c.requires.workspace c.loop-k.invariant.counts c.loop-k-test.true

pub loop-k-preserved : goal.loop-k-preserved
loop-k-preserved c = record {
  changes = c.add_row.ensures.changes;
  counts = area_next c.args.page.now c.args.core.now.left c.args.core.now.top c.args.core.now.width c.loop-k.k c.args.counts.now c.loop-k.counts c.add_row.new.counts c.loop-k.invariant.counts c.add_row.ensures.counts;
}

pub overflow_add-core : goal.overflow_add-core
overflow_add-core c = grind (arith, common_steps)

pub add_row-requires-clause-planes : goal.add_row-requires-clause-planes
add_row-requires-clause-planes c = grind (arith, common_steps)

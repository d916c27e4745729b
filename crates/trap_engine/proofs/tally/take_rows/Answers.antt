-- take_rows: goals that the search finds slowly.
use Rattle.std.proofs.Common.{arith}
use Rattle.std.proofs.lemmas.Grind.{common_steps}
use Rattle.trap_engine.proofs.tally.take_rows.Goals as goal

pub returns-clause-tally : goal.returns-clause-tally
returns-clause-tally g c = grind (arith, common_steps)

pub take_row-requires-clause-tally : goal.take_row-requires-clause-tally
take_row-requires-clause-tally g c = grind (arith, common_steps)

pub loop-k-preserved : goal.loop-k-preserved
loop-k-preserved g c = grind (arith, common_steps)

pub take_row-requires-clause-planes : goal.take_row-requires-clause-planes
take_row-requires-clause-planes g c = grind (arith, common_steps)

pub take_row-requires-clause-fit : goal.take_row-requires-clause-fit
take_row-requires-clause-fit g c = grind (arith, common_steps)

pub loop-k-init : goal.loop-k-init
loop-k-init g c = grind (arith, common_steps)

-- edge_row: goals that the search finds slowly.
use Rattle.std.proofs.lemmas.Grind.{common_steps}
use Rattle.std.proofs.Common.{arith}
use Rattle.edge_rule.proofs.row.edge_row.Goals as goal

pub loop-x-preserved : goal.loop-x-preserved
loop-x-preserved c = grind (arith, common_steps)
